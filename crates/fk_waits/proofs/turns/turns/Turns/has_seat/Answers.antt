use Rattle.std.proofs.Common.{inl}
use Rattle.std.proofs.lemmas.Bool.{OnFalse_at, OnTrue_at}
use Rattle.fk_waits.proofs.InTurns.Woken.{both_room, either_full}
use Rattle.fk_waits.proofs.turns.turns.Turns.has_seat.Goals as goal

pub returns-then-has_room-clause-room : goal.returns-then-has_room-clause-room
returns-then-has_room-clause-room c =
    both_room _ _ c.has_room-then-has_room.result (OnTrue_at c.if-has_room.true c.has_room.ensures.room) c.has_room-then-has_room.ensures.room

pub returns-then-has_room-clause-full : goal.returns-then-has_room-clause-full
returns-then-has_room-clause-full c = either_full _ _ c.has_room-then-has_room.result c.has_room-then-has_room.ensures.full

pub returns-else-has_room-clause-full : goal.returns-else-has_room-clause-full
returns-else-has_room-clause-full c = inl (OnFalse_at c.if-has_room.false c.has_room.ensures.full)
