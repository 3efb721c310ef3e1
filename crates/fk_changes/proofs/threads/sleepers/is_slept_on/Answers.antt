use Rattle.std.proofs.Common.{arith, sym, ◌∙◌}
use Rattle.fk_store.specs.Store.Paths.{path}
use Rattle.fk_store.specs.Store.World.{world}
use Rattle.fk_changes.proofs.InThreads.SleeperLaws.{no_slots, none_more, slept_at, slept_nowhere}
use Rattle.fk_changes.proofs.threads.sleepers.is_slept_on.Goals as goal

pub loop-slot-init : goal.loop-slot-init
loop-slot-init c = no_slots (world c.args.store.now) (path c.args.store.now c.args.space) c.args.cond

pub returns-then-is_some : goal.returns-then-is_some
returns-then-is_some c = slept_at (world c.args.store.now)
    (path c.args.store.now c.args.space) c.args.cond c.loop-slot.slot _ c.asleep_on.ensures.mutex (sym c.is_some.ensures ∙ c.if-is_some.true) (omega arith)

pub loop-slot-preserved : goal.loop-slot-preserved
loop-slot-preserved c = none_more (world c.args.store.now) (path c.args.store.now c.args.space)
    c.args.cond c.loop-slot.slot _ c.loop-slot.invariant c.asleep_on.ensures.mutex (sym c.is_some.ensures ∙ c.if-is_some.false)

pub returns : goal.returns
returns c = slept_nowhere (world c.args.store.now) (path c.args.store.now c.args.space) c.args.cond c.loop-slot.slot c.loop-slot.invariant (omega arith)
