use Rattle.std.proofs.Common.{◌≡◌, ◌++◌, drop, string_bytes}
use Rattle.fk_report.specs.Jobs as definitions
use Rattle.fk_report.proofs.jobs.push_jobs.Given as goal

abbrev pub invariant-loop-job : goal.invariant-loop-job
invariant-loop-job l =
    string_bytes l.text ++ definitions.lines_from l.ends l.place (drop l.job-index l.jobs) ≡ string_bytes l.fn.text ++ definitions.lines_from l.ends 0 l.jobs
