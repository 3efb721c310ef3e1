use Rattle.std.proofs.Common.{◌≡◌, ◌+◌}
use Rattle.laws_restore.specs.Restore.Restore.{lowest_bound}
use Rattle.laws_restore.specs.Rooms.Restoring.{bound_by}
use Rattle.laws_restore.specs.Rooms.Rooms.{rooms_from}
use Rattle.fk_restore.proofs.restore.counting.lowest_bound.Given as goal

abbrev pub invariant-loop-left : goal.invariant-loop-left
invariant-loop-left l =
    (lowest_bound (bound_by l.pairs) (rooms_from l.spaces 0 l.spaces) l.port l.left l.slot
    ≡ lowest_bound (bound_by l.pairs) (rooms_from l.spaces 0 l.spaces) l.port 240 0)
    × (l.slot + l.left ≡ 240)

abbrev pub decreases-loop-left : goal.decreases-loop-left
decreases-loop-left l = l.left
