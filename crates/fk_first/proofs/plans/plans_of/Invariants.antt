use Rattle.std.proofs.Common.{◌≡◌, ◌≤◌, ◌-◌, length}
use Rattle.fk_first.proofs.Planned.{IsWhole}
use Rattle.fk_first.proofs.plans.plans_of.Given as goal

abbrev pub invariant-loop-job : goal.invariant-loop-job
invariant-loop-job l = record {
  whole : IsWhole l.jobs l.images l.plans.items;
  within : length l.plans.items ≤ length l.jobs;
}

abbrev pub decreases-loop-job : goal.decreases-loop-job
decreases-loop-job l = length l.jobs - length l.plans.items
