use Rattle.std.proofs.Common.{[], ◌≤◌, length, sym, ap, subst, ◌∙◌}
use Rattle.fk_first.specs.Cores.{run_core}
use Rattle.fk_runs.specs.RunReports.Made.{IsLine}
use Rattle.fk_runs.proofs.InRuns.Books.{counted, few, made_of}
use Rattle.fk_runs.proofs.runs.whole.soaked_of.Goals as goal

pub soaked-requires-clause-jobs : goal.soaked-requires-clause-jobs
soaked-requires-clause-jobs g c =
    let parts = c.into_parts-core.ensures in
    ap (λ core. core.jobs.jobs) parts.core ∙ (parts.kept.jobs ∙ c.requires.jobs)

pub soaked-requires-clause-within : goal.soaked-requires-clause-within
soaked-requires-clause-within g c =
    let parts = c.into_parts-core.ensures in
    subst (λ core. core.events ≤ core.budget) (sym parts.core) (counted _ _ _ parts.kept)

pub soaked-requires-clause-few : goal.soaked-requires-clause-few
soaked-requires-clause-few g c =
    let parts = c.into_parts-core.ensures in
    subst (λ moves. length moves ≤ c.into_parts-core.result.0.budget) (sym parts.history)
    (subst (λ core. length c.args.book.history ≤ core.budget) (sym parts.core) (few _ _ _ parts.kept))

pub returns : goal.returns
returns g c =
    let parts = c.into_parts-core.ensures in
    made_of (IsLine c.args.count) c.args.specs.now [] _ _ _ _ _ _ c.in_ok-soaked.field-0 (ap run_core parts.core)
    (ap (λ core. core.budget) parts.core ∙ parts.kept.budget) parts.history c.in_ok-soaked.ensures
