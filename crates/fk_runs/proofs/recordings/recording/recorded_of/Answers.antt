use Rattle.std.proofs.Common.{◌≡◌, ◌≤◌, length, refl, sym, ap, subst, ◌∙◌}
use Rattle.fk_first.specs.Cores.{run_core, RunCore}
use Rattle.fk_runs.specs.RunReports.Made.{IsText}
use Rattle.fk_runs.proofs.InRuns.Books.{counted, few, made_of}
use Rattle.fk_runs.specs.Recordings.Ports.{ports_of}
use Rattle.fk_runs.specs.Recordings.Written.{written_of, AreSmallTaps}
use Rattle.fk_runs.specs.Recordings.Told.{recorded_by}
use Rattle.fk_runs.proofs.recordings.recording.recorded_of.Goals as goal

pub prepared-requires-clause-jobs : goal.prepared-requires-clause-jobs
prepared-requires-clause-jobs c =
    let parts = c.into_parts-core.ensures in
    rw c.as_slice.ensures (ap (λ core. core.jobs.jobs) parts.core ∙ (parts.kept.jobs ∙ c.requires.jobs))

pub prepared-requires-clause-within : goal.prepared-requires-clause-within
prepared-requires-clause-within c =
    let parts = c.into_parts-core.ensures in
    subst (λ core. core.events ≤ core.budget) (sym parts.core) (counted _ _ _ parts.kept)

pub prepared-requires-clause-few : goal.prepared-requires-clause-few
prepared-requires-clause-few c =
    let parts = c.into_parts-core.ensures in
    subst (λ moves. length moves ≤ c.into_parts-core.result.0.budget) (sym parts.history)
    (subst (λ core. length c.args.book.history ≤ core.budget) (sym parts.core) (few _ _ _ parts.kept))

pub returns : goal.returns
returns c =
    let parts = c.into_parts-core.ensures in
    let s = c.args.scenario.now in
    let last = run_core c.args.book.core in
    let here = ap run_core parts.core in
    let plain = c.in_ok-made.made in
    let text = c.in_ok-told.ensures.text in
    record {
      plain = plain;
      is_made = made_of (IsText s.jobs) s.jobs c.args.images.now _ _ _ _ _ _ plain here
          (ap (λ core. core.budget) parts.core ∙ parts.kept.budget) parts.history (rw c.as_slice.ensures at c.in_ok-made.ensures);
      told = c.with_record.ensures ∙ ap (λ t. recorded_by t plain) (text ∙ ap (λ (d : RunCore). written_of (ports_of s.servers) d.servers) here);
      small = subst (λ (d : RunCore). AreSmallTaps d.servers) here c.in_ok-told.ensures.small;
    }
