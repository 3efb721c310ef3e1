use Rattle.std.proofs.Common.{[], Some, refl, sym, ◌∙◌}
use Rattle.fk_model.specs.declared.moves.Ask.TheVariants as asks
use Rattle.fk_model.specs.declared.moves.Said.TheVariants as says
use Rattle.fk_store.specs.Store.Paths.{path}
use Rattle.fk_store.specs.Store.World.{world}
use Rattle.fk_calls.proofs.InCalls.Acted.{acted, row_passed}
use Rattle.fk_calls.proofs.acts.direct.pass.Goals as goal

pub returns-in-Passes-clause-passed : goal.returns-in-Passes-clause-passed
returns-in-Passes-clause-passed c =
    let m = c.args.store.now in
    let port = c.args.port in
    acted m c.passes.new.store port c.in-Some.client asks.Over [] c.in-Some-over.act (says.Over port) refl c.in-Some-over.ensures.fits
    (row_passed (world m) (path m) port c.in-Some-over.act c.in-Some-over.ensures.outcome)
    (sym c.is_allowed.ensures ∙ c.if-not-is_allowed.false)
    (rw c.in-Passes.is (c.passes.ensures.world port)) (rw (c.in-Passes.is, c.passes.ensures.paths) refl) refl c.own_path.ensures
    (c.in-Some.ensures.client c.requires.valid.consistent)
