use Rattle.std.proofs.Common.{◌≡◌, ◌∙◌, ◌+◌, true, ap, map, Some}
use Rattle.laws_moves.specs.Whole.Runnable.{has_all_words}
use Rattle.fk_model.specs.Who.{named, event_of}
use Rattle.fk_core.specs.Rounds.Events.{may_lack}
use Rattle.fk_core.specs.Rounds.Kernels.{world_of as world}
use Rattle.fk_core.specs.Rounds.Served.{asked, told}
use Rattle.fk_core.proofs.InRounds.Acts.{fit-asked}
use Rattle.fk_core.proofs.InRounds.Hearing.{fits-told}
use Rattle.fk_core.proofs.InRounds.Asking.{asks_other, others_ready, ready_asked}
use Rattle.fk_core.proofs.InCores.Lacking.{asked-iff, asked-lacks, or-right, same_core, still-told, tried-unmade}
use Rattle.fk_core.proofs.InCores.Turning.{turned}
use Rattle.fk_core.proofs.cores.turns.Core.go_by.Goals as goal

pub lacks_room-requires : goal.lacks_room-requires
lacks_room-requires g c =
    let w = world c.args.self.now.kernel in
    record { fit = fit-asked _ w c.args.m.now.who c.args.ask.now (named w c.args.m.now.who) c.requires.asked }

pub attempt-made-requires : goal.attempt-made-requires
attempt-made-requires g c =
    let w = world c.args.self.now.kernel in
    record {
      fit = rw c.lacks_room.ensures.kernel
          (fit-asked _ w c.args.m.now.who c.args.ask.now (named w c.args.m.now.who) c.requires.asked);
    }

pub hear-requires-clause-room : goal.hear-requires-clause-room
hear-requires-clause-room g c unready =
    let self = c.args.self.now in
    let what = c.in-Some.told in
    let same = c.lacks_room.ensures.kernel in
    let made = rw c.in-Some.is at (rw c.in-Ok.is at c.attempt-made.ensures.made) in
    let ended = rw c.in-Some.is at (rw c.in-Ok.is at c.attempt-made.ensures.ended) in
    let tells = rw c.in-Some.is at (rw c.in-Ok.is at c.attempt-made.ensures.told) in
    let still = c.lacks_room.ensures.still c.if-lacks_room.false unready in
    rw c.lacks_room.ensures.services
    (still-told self.kernel c.attempt-made.new.self (event_of (world self.kernel) c.args.ask.now c.args.m.now) what.said what.ended self.services.list
    (rw same at made.0) (rw same at made.1) (rw same at ended) (rw same at tells) c.names.ensures.valid c.names.ensures.few still)

pub returns-then-lacks_room-clause-tried : goal.returns-then-lacks_room-clause-tried
returns-then-lacks_room-clause-tried g c =
    let self = c.args.self.now in
    let ask = c.args.ask.now in
    let asked_for : asked self.services.list (world self.kernel) c.args.m.now.who ≡ Some ask = c.requires.asked in
    let words : has_all_words ask ≡ true = c.requires.words in
    tried-unmade c.unmade.result c.ready.result _ _ _ _ _ _ c.unmade.ensures.lacking c.unmade.ensures.unready
    (asked-iff self.jobs (world self.kernel) self.services.list self.events c.args.m.now ask asked_for words c.ready.result
    (rw c.lacks_room.ensures.kernel at c.ready.ensures.ready))
    (asked-lacks self.jobs (world self.kernel) self.services.list self.events c.args.m.now ask asked_for words
    (or-right (may_lack (world self.kernel) (event_of (world self.kernel) ask c.args.m.now)) _ (c.lacks_room.ensures.grows c.if-lacks_room.true)))
    (same_core self.kernel _ self.services.list _ self.jobs _ self.events _ c.lacks_room.ensures.kernel c.lacks_room.ensures.services
    c.lacks_room.ensures.queue c.lacks_room.ensures.events)

pub returns-clause-tried : goal.returns-clause-tried
returns-clause-tried g c =
    let self = c.args.self.now in
    let m = self.kernel in
    let n = c.attempt-made.new.self in
    let list = self.services.list in
    let ask = c.args.ask.now in
    let what = c.in-Some.told in
    let same = c.lacks_room.ensures.kernel in
    let made = rw same at (rw c.in-Some.is at (rw c.in-Ok.is at c.attempt-made.ensures.made)) in
    let words = c.requires.words in
    let asked_for : asked list (world m) c.args.m.now.who ≡ Some ask = c.requires.asked in
    let asks = asks_other self.jobs (world m) list self.events c.args.m.now.who ask c.requires.other asked_for words in (
      ready_asked self.jobs (world m) list self.events c.args.m.now c.requires.other
          (others_ready self.jobs (world m) list self.events c.args.m.now (ask, asks, made.0)),
      turned m n list c.hear.new.self.list self.jobs self.events c.args.m.now ask what.said what.ended _ asks made.1
          (rw same at (rw c.in-Some.is at (rw c.in-Ok.is at c.attempt-made.ensures.ended)))
          (rw same at (rw c.in-Some.is at (rw c.in-Ok.is at c.attempt-made.ensures.told)))
          (c.hear.ensures ∙ ap (map (told what.said what.ended)) c.lacks_room.ensures.services)
          (rw (c.lacks_room.ensures.events, c.lacks_room.ensures.queue) at c.settle.ensures.settles),
      c.settle.ensures.events ∙ ap (λ n. n + 1) c.lacks_room.ensures.events,
    )

pub returns-clause-fits : goal.returns-clause-fits
returns-clause-fits g c = rw (c.settle.ensures.services, c.hear.ensures, c.lacks_room.ensures.services)
    (fits-told _ _ _ c.args.self.now.services.list c.requires.fits)
