use Rattle.std.proofs.Common.{◌<◌, ◌∙◌, rules, length, ap}
use Rattle.std.proofs.lemmas.List.{length-set}
use Rattle.fk_natives.specs.Natives.{news_of}
use Rattle.fk_served.specs.Served.{told_at_port}
use Rattle.fk_served.proofs.Lists.{told-set, fits-next, room-here, room-next}
use Rattle.fk_served.proofs.services.tell_port.Goals as goal

pub tell_at-requires-clause-room : goal.tell_at-requires-clause-room
tell_at-requires-clause-room g c =
    room-here g.S.Service.meaning g.S.Service.has_room c.loop-at.list.items c.loop-at.at c.index_mut.result.now (search rules)
    c.index_mut.ensures.value c.loop-at.invariant.room

pub loop-at-preserved : goal.loop-at-preserved
loop-at-preserved g c =
    let items = c.loop-at.list.items in
    let i = c.loop-at.at in
    let x = c.index_mut.result.now in
    let y = c.tell_at.new.entry in
    let low : i < length items = (let long = c.loop-at.invariant.long in let test = c.loop-at-test.true in search rules) in
    record {
      long = length-set items i y ∙ c.loop-at.invariant.long;
      told = told-set g.S.Service.meaning (told_at_port c.args.port (news_of c.args.heard)) items i x y low c.index_mut.ensures.value
          (ap (λ k. (k, g.S.Service.meaning y.1)) c.tell_at.ensures.who ∙ ap (λ m. (x.0, m)) c.tell_at.ensures.told) _ c.loop-at.invariant.told;
      fits = fits-next g.S.Service.meaning _ items i x y low c.index_mut.ensures.value c.loop-at.invariant.fits;
      room = room-next g.S.Service.meaning g.S.Service.has_room items i x y low c.index_mut.ensures.value c.loop-at.invariant.room;
    }
