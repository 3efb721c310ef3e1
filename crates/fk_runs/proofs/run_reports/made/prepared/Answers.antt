use Rattle.std.proofs.Common.{◌≡◌, ◌∙◌, length}
use Rattle.fk_job_ends.specs.Ends.{told_in}
use Rattle.fk_runs.proofs.run_reports.made.prepared.Goals as goal

pub returns : goal.returns
returns g c =
    let told : c.in_ok-jobs.jobs ≡ told_in (length c.args.specs.now) c.args.core.jobs.ends =
    rw (c.into_ends.ensures, c.into_jobs.ensures) at c.in_ok-jobs.ensures in
    let made = c.in_ok-concluded.ensures in
    record {
      within = c.requires.few;
      end = c.end_of-end.result;
      report = rw told at made.report;
      ends = rw c.requires.jobs at c.end_of-end.ensures;
      written = record {
        threads = c.in_ok-shown.shown.0;
        are = c.in_ok-shown.ensures.threads;
        written = made.output ∙
            (rw (c.len-events.ensures, c.as_slice.ensures, c.as_str.ensures.value, told, c.in_ok-shown.ensures.outs) at c.in_ok-output.ensures);
      };
      status = rw (told, c.budget-budget.ensures) at made.status;
      finished = made.finished;
    }
