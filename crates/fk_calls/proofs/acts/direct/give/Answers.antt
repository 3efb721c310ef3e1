use Rattle.std.proofs.Common.{Some, refl, sym, ap, ◌∙◌}
use Rattle.fk_model.specs.declared.moves.Ask.TheVariants as asks
use Rattle.fk_model.specs.declared.moves.Said.TheVariants as says
use Rattle.fk_store.specs.Store.Paths.{path}
use Rattle.fk_store.specs.Store.World.{world}
use Rattle.fk_calls.specs.declared.acts.act.Act.{Act}
use Rattle.fk_calls.proofs.InCalls.Acted.{acted, row_given}
use Rattle.fk_calls.proofs.acts.direct.give.Goals as goal

pub gives-requires : goal.gives-requires
gives-requires c = record { gift = (rw c.in-Gives.is at c.in-Some-give.ensures.fits).for_whom.1 }

pub returns-in-Gives-clause-gave : goal.returns-in-Gives-clause-gave
returns-in-Gives-clause-gave c numbers len given =
    let m = c.args.store.now in
    let port = c.args.port in
    let words = c.args.words.now in
    acted m c.gives.new.store port c.in-Some.client (asks.Give numbers len) words c.in-Some-give.act (says.Given port c.in-Gives.count) refl
    c.in-Some-give.ensures.fits
    (row_given (world m) (path m) port words numbers len c.in-Some-give.act given c.in-Some-give.ensures.outcome)
    (sym c.is_allowed.ensures ∙ c.if-not-is_allowed.false)
    (rw c.in-Gives.is (c.gives.ensures.world port)) (rw (c.in-Gives.is, c.gives.ensures.paths) refl) refl c.own_path.ensures
    (c.in-Some.ensures.client c.requires.valid.consistent)
