use Rattle.std.proofs.Common.{sym, ◌∙◌}
use Rattle.fk_restore.proofs.InPositions.Steps.{child_step}
use Rattle.fk_restore.proofs.positions.walks.child_towards.Goals as goal

pub loop-left-preserved : goal.loop-left-preserved
loop-left-preserved c =
    sym (child_step c.args.spaces.now c.args.a c.loop-left.at c.loop-left.left c.parent_of-above.result c.parent_of-above.ensures c.loop-left-test.true
    c.if-above-a.false)
    ∙ c.loop-left.invariant
