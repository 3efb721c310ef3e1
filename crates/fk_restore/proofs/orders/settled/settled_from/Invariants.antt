use Rattle.std.proofs.Common.{◌≡◌}
use Rattle.laws_restore.specs.Rooms.Restoring.{bound_by}
use Rattle.fk_restore.specs.Positions.Positions.{rest, IsPosition}
use Rattle.fk_restore.specs.Orders.Left.{places_left}
use Rattle.fk_restore.proofs.orders.settled.settled_from.Given as goal

abbrev pub invariant-loop-next : goal.invariant-loop-next
invariant-loop-next l =
    (rest l.spaces l.slot (bound_by l.pairs) l.at ≡ rest l.fn.spaces l.fn.slot (bound_by l.fn.pairs) l.fn.position)
    × IsPosition l.spaces l.slot (bound_by l.pairs) l.at

abbrev pub decreases-loop-next : goal.decreases-loop-next
decreases-loop-next l = places_left l.spaces l.at
