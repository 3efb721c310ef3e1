use Rattle.fk_first.specs.Cores.{run_core}
use Rattle.fk_runs.proofs.InRunReports.Ending.{ended-end}
use Rattle.fk_runs.proofs.run_reports.made.end_of.Goals as goal

pub returns-in-Some : goal.returns-in-Some
returns-in-Some g c =
    let core = c.args.core.now in
    ended-end core.jobs.jobs core.budget (run_core core) c.in-Some.end (rw c.in-Some.is at c.ended.ensures) c.requires.within
