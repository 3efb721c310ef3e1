use Rattle.std.proofs.Common.{arith, sym, ◌∙◌}
use Rattle.fk_store.specs.Store.Paths.{path}
use Rattle.fk_store.specs.Store.World.{world}
use Rattle.fk_store.proofs.InStore.finding.ReachLaws.{lowest-none}
use Rattle.fk_objects.proofs.Slots.{none_below, none_there, first_there, none_first}
use Rattle.fk_objects.proofs.searching.first_taken.Goals as goal

pub loop-slot-init : goal.loop-slot-init
loop-slot-init c =
    none_below (world c.args.store.now) (path c.args.store.now c.args.space) c.args.last c.args.from c.first_slot-slot.result c.first_slot-slot.ensures.low

pub returns-then-is_some : goal.returns-then-is_some
returns-then-is_some c =
    first_there _ c.loop-slot.slot c.loop-slot.invariant _ c.taken_from-found.ensures (sym c.is_some.ensures ∙ c.if-is_some.true) (omega arith)

pub loop-slot-preserved : goal.loop-slot-preserved
loop-slot-preserved c =
    lowest-none c.loop-slot.slot _ c.loop-slot.invariant (sym c.taken_from-found.ensures ∙ none_there _ (sym c.is_some.ensures ∙ c.if-is_some.false))

pub returns : goal.returns
returns c = none_first _ c.loop-slot.slot c.loop-slot.invariant (omega arith) (omega arith)
