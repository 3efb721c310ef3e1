use Rattle.std.proofs.Common.{sym}
use Rattle.fk_served.proofs.Growing.{room-for}
use Rattle.fk_served.proofs.Lists.{untold}
use Rattle.fk_served.proofs.services.Services.hear.Goals as goal

pub returns-else-is_telling : goal.returns-else-is_telling
returns-else-is_telling g c = untold _ _ (c.is_telling.ensures c.if-is_telling.false) _

pub tell_in-requires-clause-room : goal.tell_in-requires-clause-room
tell_in-requires-clause-room g c =
    room-for g.S.Service.meaning g.S.Service.has_room c.args.what.now.said c.args.what.now.ended c.self.inside.used c.self.inside.list.items
    c.self.invariant (rw (sym c.self.view_is) at c.requires.room)
