use Rattle.std.proofs.Common.{◌≡◌}
use Rattle.fk_restore.specs.Positions.Walks.{child_by}
use Rattle.fk_restore.proofs.positions.walks.child_towards.Given as goal

abbrev pub invariant-loop-left : goal.invariant-loop-left
invariant-loop-left l = child_by l.left l.spaces l.a l.at ≡ child_by l.b l.spaces l.a l.b

abbrev pub decreases-loop-left : goal.decreases-loop-left
decreases-loop-left l = l.left
