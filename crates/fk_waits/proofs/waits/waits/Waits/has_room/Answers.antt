use Rattle.std.proofs.Common.{ap}
use Rattle.fk_waits.specs.Waits.Lists.{Lists}
use Rattle.fk_waits.proofs.InWaits.Last.{none_left, room_left}
use Rattle.fk_waits.proofs.waits.waits.Waits.has_room.Goals as goal

pub returns-clause-room : goal.returns-clause-room
returns-clause-room c =
    room_left c.len.result c.seats.result c.args.self.now.spare (rw (c.len.ensures, c.seats.ensures) (ap (λ (l : Lists). l.spare) c.self.view_is))

pub returns-clause-full : goal.returns-clause-full
returns-clause-full c =
    none_left c.len.result c.seats.result c.args.self.now.spare (rw (c.len.ensures, c.seats.ensures) (ap (λ (l : Lists). l.spare) c.self.view_is))
