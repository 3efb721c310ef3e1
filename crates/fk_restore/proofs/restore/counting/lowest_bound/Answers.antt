use Rattle.std.proofs.Common.{arith, ◌∙◌}
use Rattle.laws_restore.specs.Rooms.Restoring.{bound_by}
use Rattle.laws_restore.specs.Rooms.Rooms.{rooms_from}
use Rattle.fk_restore.proofs.InRestore.Bound.{not_here, is_here, none_left}
use Rattle.fk_restore.proofs.restore.counting.lowest_bound.Goals as goal

pub loop-left-preserved : goal.loop-left-preserved
loop-left-preserved c =
    let test = c.loop-left-test.true in
    let sum = c.loop-left.invariant.1 in (
      not_here (bound_by c.args.pairs.now)
          (rooms_from c.args.spaces.now 0 c.args.spaces.now) c.args.port c.loop-left.left c.loop-left.slot _ test c.is_bound_here.ensures c.if-is_bound_here.false
          ∙ c.loop-left.invariant.0,
      omega (arith, test, sum),
    )

pub returns-then-is_bound_here : goal.returns-then-is_bound_here
returns-then-is_bound_here c =
    is_here (bound_by c.args.pairs.now)
    (rooms_from c.args.spaces.now 0 c.args.spaces.now) c.args.port c.loop-left.left c.loop-left.slot _ c.loop-left-test.true c.is_bound_here.ensures c.if-is_bound_here.true
    ∙ c.loop-left.invariant.0

pub returns : goal.returns
returns c = none_left (bound_by c.args.pairs.now)
    (rooms_from c.args.spaces.now 0 c.args.spaces.now) c.args.port c.loop-left.left c.loop-left.slot c.loop-left-test.false ∙ c.loop-left.invariant.0
