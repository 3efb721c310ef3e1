use Rattle.std.proofs.Common.{◌≡◌}
use Rattle.fk_restore.specs.Positions.Walks.{is_above_by}
use Rattle.fk_restore.proofs.positions.walks.is_above.Given as goal

abbrev pub invariant-loop-left : goal.invariant-loop-left
invariant-loop-left l = is_above_by l.left l.spaces l.a l.at ≡ is_above_by l.b l.spaces l.a l.b

abbrev pub decreases-loop-left : goal.decreases-loop-left
decreases-loop-left l = l.left
