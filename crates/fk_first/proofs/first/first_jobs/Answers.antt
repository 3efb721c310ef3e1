use Rattle.std.proofs.Common.{◌≡◌, ◌∙◌, map, sym, subst}
use Rattle.fk_jobs.specs.Jobs.{job_of}
use Rattle.laws_first.proofs.Users.{scenario_jobs_name_users_slots}
use Rattle.laws_house.specs.Houses.{jobs_of}
use Rattle.laws_house.specs.Laws.{NameUsersSlots}
use Rattle.fk_first.proofs.first.first_jobs.Goals as goal

pub new-requires : goal.new-requires
new-requires c =
    let planned : map job_of c.in_ok-plans.plans.items ≡ jobs_of c.args.scenario.now.jobs c.args.images.now = rw c.as_slice.ensures at c.in_ok-plans.ensures in
    record { slots = subst NameUsersSlots (sym planned) (scenario_jobs_name_users_slots c.args.scenario.now c.requires c.args.images.now) }

pub returns-clause-jobs : goal.returns-clause-jobs
returns-clause-jobs c =
    let planned : map job_of c.in_ok-plans.plans.items ≡ jobs_of c.args.scenario.now.jobs c.args.images.now = rw c.as_slice.ensures at c.in_ok-plans.ensures in
    c.in_ok-jobs.ensures.jobs ∙ planned
