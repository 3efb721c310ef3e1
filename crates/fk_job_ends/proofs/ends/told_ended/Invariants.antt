use Rattle.std.proofs.Common.{◌≡◌, ◌++◌, Some, map}
use Rattle.fk_jobs.specs.Ended.{shown_ends}
use Rattle.fk_job_ends.specs.Ends as definitions
use Rattle.fk_job_ends.proofs.ends.told_ended.Given as goal

abbrev pub invariant-loop-end : goal.invariant-loop-end
invariant-loop-end l = l.told ++ map (λ e. Some (definitions.told_of e)) (shown_ends l.end-iterator.rest.items)
    ≡ map (λ e. Some (definitions.told_of e)) (shown_ends l.fn.ends.items)
