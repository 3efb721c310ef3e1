use Rattle.std.proofs.Common.{arith}
use Rattle.fk_store.specs.Store.Paths.{path}
use Rattle.fk_store.specs.Store.World.{world}
use Rattle.fk_cut.proofs.InClosing.Walked.{awaits_next, awaits_done}
use Rattle.fk_cut.proofs.closing.walk.await_residents.Goals as goal

pub loop-left-preserved : goal.loop-left-preserved
loop-left-preserved c =
    let known = c.loop-left.invariant in (
      omega (arith, known.0),
      awaits_next (world c.args.store.now) (path c.args.store.now c.args.space) c.args.space c.loop-left.left
          c.loop-left.stack c.await_object.new.stack c.args.stack.now (omega arith) c.in_ok-await_object.ensures known.1,
    )

pub returns : goal.returns
returns c = awaits_done (world c.args.store.now) (path c.args.store.now c.args.space) c.args.space c.loop-left.left c.loop-left.stack c.args.stack.now
    (omega arith) c.loop-left.invariant.1
