use Rattle.std.proofs.Common.{◌∙◌, not, false, Some, refl, take, sym}
use Rattle.fk_jobs.specs.Ended.{shown_ends}
use Rattle.fk_jobs.specs.Jobs.{job_of}
use Rattle.std.proofs.Common.{map}
use Rattle.fk_jobs.proofs.Seats.{goes, stops, stopped}
use Rattle.fk_jobs.proofs.jobs.Jobs.absorb.Goals as goal

pub returns-then-goes_on : goal.returns-then-goes_on
returns-then-goes_on g c =
    let i = c.self.inside in
    let state = g.W.JobMachine.state in
    let answer = c.args.answer.now in
    goes state (shown_ends i.ends.items) _ (map job_of i.plans.items) (not i.used) i.porter c.in-Some.porter i.begun c.args.events c.begun_from.result
    answer.status (take answer.len answer.words)
    (state c.absorb.new.self) refl c.self.invariant.2 c.in-Some.is c.begun_from.ensures c.absorb.ensures c.args.self.now c.self.view_is
    (sym c.is_at_call-goes_on.ensures ∙ c.if-goes_on.true)

pub pass-requires-clause-over : goal.pass-requires-clause-over
pass-requires-clause-over g c = stopped (g.W.JobMachine.state c.absorb.new.self) (sym c.is_at_call-goes_on.ensures ∙ c.if-goes_on.false)

pub returns : goal.returns
returns g c =
    let i = c.self.inside in
    let state = g.W.JobMachine.state in
    let answer = c.args.answer.now in
    c.pass.ensures
    ∙ stops state (shown_ends i.ends.items) _ (map job_of i.plans.items) (not i.used) i.porter c.in-Some.porter i.begun c.args.events c.begun_from.result
    answer.status (take answer.len answer.words)
    (state c.absorb.new.self) refl c.self.invariant.2 c.in-Some.is c.begun_from.ensures c.absorb.ensures
    (Some (record { begun = c.begun_from.result; state = state c.absorb.new.self })) false c.args.self.now c.self.view_is
