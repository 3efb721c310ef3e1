use Rattle.std.proofs.Common.{refl, ◌∙◌, arith}
use Rattle.fk_store.specs.Store.Paths.{path}
use Rattle.fk_store.specs.Store.World.{world}
use Rattle.fk_changes.proofs.InThreads.Broadcasts.{none_woken, more_woken, all_woken}
use Rattle.fk_changes.proofs.threads.sleepers.wake_all.Goals as goal

pub loop-slot-init : goal.loop-slot-init
loop-slot-init c =
    record { woken = none_woken (world c.args.store.now) (path c.args.store.now c.args.space) c.args.cond; kinds = refl; paths = refl }

pub loop-slot-preserved : goal.loop-slot-preserved
loop-slot-preserved c =
    let was = c.loop-slot.invariant in
    let woke = rw was.paths at c.wake_from.ensures.world in
    record {
      woken = more_woken (world c.args.store.now) (world c.loop-slot.store) (world c.wake_from.new.store)
          (path c.args.store.now c.args.space) c.args.cond c.loop-slot.slot was.woken woke;
      kinds = c.wake_from.ensures.kinds ∙ was.kinds;
      paths = c.wake_from.ensures.paths ∙ was.paths;
    }

pub returns-clause-world : goal.returns-clause-world
returns-clause-world c = all_woken (world c.args.store.now)
    (world c.loop-slot.store) (path c.args.store.now c.args.space) c.args.cond c.loop-slot.slot c.loop-slot.invariant.woken (omega arith)
