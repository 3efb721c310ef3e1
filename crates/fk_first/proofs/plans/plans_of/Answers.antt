use Rattle.std.proofs.Common.{◌≡◌, ◌≤◌, ◌+◌, [], ◌∷◌, ◌++◌, length, length-append, take, drop, Some, None, sym, subst, arith, rules}
use Rattle.std.specs.List.{slice_get}
use Rattle.std.proofs.lemmas.Grind.{common_steps}
use Rattle.std.proofs.lemmas.Option.{gets, slice_get_within}
use Rattle.fk_first.proofs.Planned.{IsWhole, planned-on, planned-all}
use Rattle.fk_jobs.specs.Jobs.{job_of}
use Rattle.laws_house.specs.Houses as houses
use Rattle.laws_house.specs.Houses.{given_first}
use Rattle.fk_first.proofs.plans.plans_of.Goals as goal

pub loop-job-preserved : goal.loop-job-preserved
loop-job-preserved c =
    let jobs = c.args.jobs.now in
    let plans = c.loop-job.plans.items in
    let plan = c.in_ok-plan_of.field-0 in
    let job = c.in-Some.job.now in
    let got : slice_get jobs (length plans) ≡ Some job = grind (arith, common_steps, gets) in
    let within = slice_get_within jobs (length plans) job got in
    let is : job_of plan ≡ houses.job_of (take (length plans) jobs) job (given_first (drop (length plans) c.args.images.now)) = search rules in
    let pushed : c.push.new.self.items ≡ plans ++ plan ∷ [] = search rules in
    let long = length-append plans (plan ∷ []) in
    rw pushed (record {
      whole = planned-on jobs c.args.images.now plans plan job got is c.loop-job.invariant.whole;
      within = omega (arith, long, within);
    })

pub returns : goal.returns
returns c =
    let none : slice_get c.args.jobs.now (length c.loop-job.plans.items) ≡ None = grind (arith, common_steps, gets) in
    planned-all c.args.jobs.now c.args.images.now c.loop-job.plans.items none c.loop-job.invariant.whole
