use Rattle.std.proofs.Common.{◌≡◌, ◌≤◌, ◌-◌, drop, length}
use Rattle.laws_house.specs.Houses.{maker_from}
use Rattle.fk_first.proofs.plans.maker_of.Given as goal

abbrev pub invariant-loop-job : goal.invariant-loop-job
invariant-loop-job l = record {
  same : maker_from l.place (drop l.place l.jobs) l.image ≡ maker_from 0 l.jobs l.image;
  within : l.place ≤ length l.jobs;
}

abbrev pub decreases-loop-job : goal.decreases-loop-job
decreases-loop-job l = length l.jobs - l.place
