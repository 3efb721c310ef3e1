use Rattle.std.proofs.Common.{◌≤◌, length, sym, ap, subst, ◌∙◌}
use Rattle.fk_first.specs.Cores.{run_core}
use Rattle.fk_runs.specs.RunReports.Made.{IsText}
use Rattle.fk_runs.proofs.InRuns.Books.{counted, few, made_of}
use Rattle.fk_runs.proofs.runs.whole.prepared_of.Goals as goal

pub prepared-requires-clause-jobs : goal.prepared-requires-clause-jobs
prepared-requires-clause-jobs g c =
    let parts = c.into_parts-core.ensures in
    ap (λ core. core.jobs.jobs) parts.core ∙ (parts.kept.jobs ∙ c.requires.jobs)

pub prepared-requires-clause-within : goal.prepared-requires-clause-within
prepared-requires-clause-within g c =
    let parts = c.into_parts-core.ensures in
    subst (λ core. core.events ≤ core.budget) (sym parts.core) (counted _ _ _ parts.kept)

pub prepared-requires-clause-few : goal.prepared-requires-clause-few
prepared-requires-clause-few g c =
    let parts = c.into_parts-core.ensures in
    subst (λ moves. length moves ≤ c.into_parts-core.result.0.budget) (sym parts.history)
    (subst (λ core. length c.args.book.history ≤ core.budget) (sym parts.core) (few _ _ _ parts.kept))

pub returns : goal.returns
returns g c =
    let parts = c.into_parts-core.ensures in
    made_of (IsText c.args.specs.now) c.args.specs.now c.args.images.now _ _ _ _ _ _ c.in_ok-prepared.field-0 (ap run_core parts.core)
    (ap (λ core. core.budget) parts.core ∙ parts.kept.budget) parts.history c.in_ok-prepared.ensures
