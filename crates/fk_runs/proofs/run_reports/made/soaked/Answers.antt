use Rattle.std.proofs.Common.{◌≡◌, ◌∙◌, length, map, take, ap}
use Rattle.fk_model.specs.declared.names.Who.{Who}
use Rattle.fk_natives.specs.Natives.{State}
use Rattle.fk_job_ends.specs.Ends.{told_in}
use Rattle.fk_runs.proofs.InRunReports.Ending.{states-taken}
use Rattle.fk_runs.proofs.run_reports.made.soaked.Goals as goal

pub returns : goal.returns
returns g c =
    let states = states-taken g.S.Service.meaning c.args.count c.services.result.now
    ∙ ap (λ list. take c.args.count (map (λ (e : Who × State). e.1) list)) c.services.ensures in
    let told : c.in_ok-jobs.jobs ≡ told_in (length c.args.specs.now) c.args.core.jobs.ends =
    rw (c.into_ends.ensures, c.into_jobs.ensures) at c.in_ok-jobs.ensures in
    let made = c.in_ok-concluded.ensures in
    record {
      within = c.requires.few;
      end = c.end_of-end.result;
      report = rw told at made.report;
      ends = rw c.requires.jobs at c.end_of-end.ensures;
      written = made.output ∙ (rw states at c.in_ok-output.ensures);
      status = rw (told, c.budget-budget.ensures) at made.status;
      finished = made.finished;
    }
