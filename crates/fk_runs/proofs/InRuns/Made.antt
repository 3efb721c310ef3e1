-- What is prepared of a book is what its run comes to.
use Rattle.std.proofs.Common.{◌≡◌, ℕ, List, refl, subst, ◌∙◌, string_bytes}
use Rattle.fk_report.specs.declared.end.End.{End}
use Rattle.fk_report.specs.declared.end.End.TheVariants as ends
use Rattle.fk_first.specs.Cores.{RunCore, house, IsOver}
use Rattle.fk_commands.specs.declared.outcome.Report.{Report}
use Rattle.fk_commands.specs.declared.prepared.Prepared.{Prepared}
use Rattle.fk_commands.specs.Status.{progress_of, Finished}
use Rattle.fk_model.specs.declared.job.JobSpec.{JobSpec}
use Rattle.fk_model.specs.declared.moves.Move.{Move}
use Rattle.laws_runs.specs.Cores.{IsRun}
use Rattle.fk_runs.specs.RunReports.Made.{Images, IsEnd, IsMade, IsText, report_of}
use Rattle.fk_runs.specs.Runs.Runs.{IsReported, IsPlayed, IsAlone, begun}
use Rattle.fk_trace_text.specs.Trace.{Spells}
use Rattle.fk_workers.specs.Workers.Plays.{MayPlay}
use Rattle.fk_workers.specs.Workers.Shown.{Shown, HasRun, HasEnded}
use Rattle.laws_house.specs.Houses.{Job, jobs_of}

module _ (Is : RunCore → Report → List ℕ → Type 0) (specs : List JobSpec) (given : Images) (first last : Shown) (history : List Move)
    (made : Prepared) (jobs : first.jobs ≡ jobs_of specs given) (run : HasRun first history last)
    (is : IsMade Is specs given last.core first.budget history made) where
  abbrev told : Report
  told = report_of specs last.core history is.end

  reported : IsReported specs given first.core first.budget told
  reported = record {
    last = last.core;
    run = subst (λ (j : List Job). IsRun (house j) first.core history last.core) jobs run.run;
    within = is.within;
    end = is.ends;
    jobs = refl;
    images = refl;
  }

  -- of a run by itself
  pub alone : HasEnded last → IsAlone Is specs given first.core first.budget made.status made.report (string_bytes made.output)
      × (progress_of made.status ≡ Finished)
  unfolding reported
  alone over =
      let done : IsOver (jobs_of specs given) first.budget last.core =
      subst (λ (j : List Job). IsOver j first.budget last.core) (run.jobs ∙ jobs) (subst (λ b. IsOver last.jobs b last.core) run.budget over) in
      let not_listed : ¬ (is.end ≡ ends.Listed) = λ listed. (
      let open_ : IsEnd (jobs_of specs given) first.budget last.core ends.Listed =
      subst (λ (e : End). IsEnd (jobs_of specs given) first.budget last.core e) listed is.ends in
      done open_.1 open_.0
      ) in
      (rw is.report ((reported, is.written), not_listed, is.status, refl), is.finished)

module _ (specs : List JobSpec) (given : Images) (first last : Shown) (history : List Move) (made : Prepared) (trace : List ℕ)
    (jobs : first.jobs ≡ jobs_of specs given) (run : HasRun first history last)
    (is : IsMade (IsText specs) specs given last.core first.budget history made) where
  -- and by a trace
  pub played : Spells (MayPlay first) trace history
      → IsPlayed specs given first.core first.budget trace made.status made.report (string_bytes made.output) × (progress_of made.status ≡ Finished)
  unfolding reported
  played spells =
      let spelled : Spells (MayPlay (begun specs given first.budget first.core)) trace history =
      subst (λ (j : List Job). Spells (MayPlay (record { jobs = j; budget = first.budget; core = first.core })) trace history) jobs spells in
      (rw is.report (spelled, (reported (IsText specs) specs given first last history made jobs run is, is.written), is.status, refl), is.finished)
