use Rattle.std.proofs.Common.{◌≡◌, ◌∙◌, map, length, option_map, Some, None, sym, ap, refl}
use Rattle.std.specs.List.{slice_get}
use Rattle.fk_jobs.specs.Ended.{shown_ends}
use Rattle.fk_jobs.specs.Jobs.{job_of}
use Rattle.fk_jobs.proofs.begins.make.Goals as goal

pub make_so-requires : goal.make_so-requires
make_so-requires g c =
    let here : slice_get (map job_of c.args.plans.now) (length (shown_ends c.args.ends.now)) ≡ Some (job_of c.in-Some.plan.now) =
    sym c.planned.ensures ∙ ap (option_map (λ plan. job_of plan.now)) c.in-Some.is in
    c.requires (length (shown_ends c.args.ends.now)) (job_of c.in-Some.plan.now) here

pub returns-in-Some-clause-made : goal.returns-in-Some-clause-made
returns-in-Some-clause-made g c =
    let here : slice_get (map job_of c.args.plans.now) (length (shown_ends c.args.ends.now)) ≡ Some (job_of c.in-Some.plan.now) =
    sym c.planned.ensures ∙ ap (option_map (λ plan. job_of plan.now)) c.in-Some.is in
    rw here c.make_so.ensures.made

pub returns-in-Some-clause-grows : goal.returns-in-Some-clause-grows
returns-in-Some-clause-grows g c =
    let here : slice_get (map job_of c.args.plans.now) (length (shown_ends c.args.ends.now)) ≡ Some (job_of c.in-Some.plan.now) =
    sym c.planned.ensures ∙ ap (option_map (λ plan. job_of plan.now)) c.in-Some.is in
    rw here c.make_so.ensures.grows

pub returns-in-None-clause-made : goal.returns-in-None-clause-made
returns-in-None-clause-made g c =
    let here : slice_get (map job_of c.args.plans.now) (length (shown_ends c.args.ends.now)) ≡ None =
    sym c.planned.ensures ∙ ap (option_map (λ plan. job_of plan.now)) c.in-None.is in
    rw here refl
