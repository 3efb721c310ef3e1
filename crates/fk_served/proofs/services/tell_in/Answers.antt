use Rattle.std.proofs.Common.{◌≡◌, ◌<◌, ◌∙◌, true, rules, length, ap}
use Rattle.fk_model.specs.declared.names.Who.{Who}
use Rattle.fk_served.specs.Served.{told, grows_told}
use Rattle.std.proofs.lemmas.List.{length-set}
use Rattle.fk_served.proofs.Lists.{told-set, for-here, for-next, fits-next}
use Rattle.fk_served.proofs.services.tell_in.Goals as goal

pub tell_one-requires-clause-room : goal.tell_one-requires-clause-room
tell_one-requires-clause-room g c =
    for-here g.S.Service.meaning (λ (e : Who × g.row.S.Denot). grows_told c.args.what.now.said c.args.what.now.ended (e.0, g.S.Service.meaning e.1) ≡ true
    → g.S.Service.has_room e.1 ≡ true) c.loop-at.list.items c.loop-at.at c.index_mut.result.now (search rules)
    c.index_mut.ensures.value c.loop-at.invariant.room

pub loop-at-preserved : goal.loop-at-preserved
loop-at-preserved g c =
    let items = c.loop-at.list.items in
    let i = c.loop-at.at in
    let x = c.index_mut.result.now in
    let y = c.tell_one.new.entry in
    let what = c.args.what.now in
    let low : i < length items = (let long = c.loop-at.invariant.long in let test = c.loop-at-test.true in search rules) in
    record {
      long = length-set items i y ∙ c.loop-at.invariant.long;
      told = told-set g.S.Service.meaning (told what.said what.ended) items i x y low c.index_mut.ensures.value
          (ap (λ k. (k, g.S.Service.meaning y.1)) c.tell_one.ensures.who ∙ ap (λ m. (x.0, m)) c.tell_one.ensures.told) _ c.loop-at.invariant.told;
      fits = fits-next g.S.Service.meaning _ items i x y low c.index_mut.ensures.value c.loop-at.invariant.fits;
      room = for-next g.S.Service.meaning (λ (e : Who × g.row.S.Denot). grows_told what.said what.ended (e.0, g.S.Service.meaning e.1) ≡ true
          → g.S.Service.has_room e.1 ≡ true) items i x y low c.index_mut.ensures.value c.loop-at.invariant.room;
    }
