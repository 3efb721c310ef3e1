use Rattle.std.proofs.Common.{◌<◌, ◌∙◌, rules, length, refl}
use Rattle.std.proofs.lemmas.List.{length-set}
use Rattle.fk_model.specs.declared.names.Who.{Who}
use Rattle.fk_served.proofs.Lists.{shown-set, room-more, room-all}
use Rattle.fk_served.proofs.services.reserve_in.Goals as goal

pub returns-in_err-reserve-clause-same : goal.returns-in_err-reserve-clause-same
returns-in_err-reserve-clause-same g c =
    shown-set g.S.Service.meaning c.loop-at.list.items c.loop-at.at c.index_mut.result.now (c.index_mut.result.now.0, c.reserve.new.self)
    c.index_mut.ensures.value refl c.reserve.ensures.same ∙ c.loop-at.invariant.same

pub loop-at-preserved : goal.loop-at-preserved
loop-at-preserved g c =
    let items = c.loop-at.list.items in
    let i = c.loop-at.at in
    let x = c.index_mut.result.now in
    let y : Who × g.row.S.Denot = (x.0, c.reserve.new.self) in
    let low : i < length items = (let long = c.loop-at.invariant.long in let test = c.loop-at-test.true in search rules) in
    record {
      long = length-set items i y ∙ c.loop-at.invariant.long;
      same = shown-set g.S.Service.meaning items i x y c.index_mut.ensures.value refl c.reserve.ensures.same ∙ c.loop-at.invariant.same;
      room = room-more g.S.Service.meaning g.S.Service.has_room items i y low c.in_ok-reserve.ensures.room c.loop-at.invariant.room;
    }

pub returns-clause-room : goal.returns-clause-room
returns-clause-room g c =
    room-all g.S.Service.meaning g.S.Service.has_room c.loop-at.list.items c.loop-at.at (search rules) c.loop-at.invariant.room
