use Rattle.std.proofs.Common.{ℕ, List, IsSome, refl, sym, subst}
use Rattle.std.proofs.lemmas.Bool.{OnTrue_at, OnFalse_at}
use Rattle.laws_house.specs.Houses.{Job}
use Rattle.fk_core.specs.Rounds.Served.{AllFit}
use Rattle.fk_core.specs.Cores.Cores.{run_core, IsAdvanced, RunCore}
use Rattle.fk_core.proofs.InCores.Lacking.{same_core}
use Rattle.fk_core.proofs.InCores.Proceeding.{no-porter}
use Rattle.fk_core.proofs.cores.turns.Core.proceed.Goals as goal

pub speaks_at-requires-clause-other : goal.speaks_at-requires-clause-other
speaks_at-requires-clause-other g c = no-porter c.args.self.now.jobs c.in-Some.who c.requires.none

pub speaks_at-requires-clause-few : goal.speaks_at-requires-clause-few
speaks_at-requires-clause-few g c = c.same_thread.ensures (subst (λ o. IsSome o) (sym c.in-Some.is) refl)

pub returns-then-speaks_at-clause-advanced : goal.returns-then-speaks_at-clause-advanced
returns-then-speaks_at-clause-advanced g c = OnTrue_at c.if-speaks_at.true c.speaks_at.ensures.made

pub proceed_with-requires-clause-few : goal.proceed_with-requires-clause-few
proceed_with-requires-clause-few g c =
    rw (OnFalse_at c.if-speaks_at.false c.speaks_at.ensures.events, c.speaks_at.ensures.budget)
    (c.same_thread.ensures (subst (λ o. IsSome o) (sym c.in-Some.is) refl))

pub proceed_with-requires-clause-none : goal.proceed_with-requires-clause-none
proceed_with-requires-clause-none g c = rw (OnFalse_at c.if-speaks_at.false c.speaks_at.ensures.queue) c.requires.none

pub returns-clause-advanced : goal.returns-clause-advanced
returns-clause-advanced g c =
    let self = c.args.self.now in
    let then = c.speaks_at.new.self in
    let nay = c.if-speaks_at.false in
    let same = same_core self.kernel then.kernel self.services.list then.services.list self.jobs then.jobs self.events then.events
    (OnFalse_at nay c.speaks_at.ensures.kernel) (OnFalse_at nay c.speaks_at.ensures.services) (OnFalse_at nay c.speaks_at.ensures.queue)
    (OnFalse_at nay c.speaks_at.ensures.events) in
    subst (λ (b : ℕ). IsAdvanced self.jobs.jobs b (run_core self) c.proceed_with.result (run_core c.proceed_with.new.self)) c.speaks_at.ensures.budget
    (subst (λ (jobs : List Job). IsAdvanced jobs then.budget (run_core self) c.proceed_with.result (run_core c.proceed_with.new.self)) c.speaks_at.ensures.jobs
    (subst (λ (d : RunCore). IsAdvanced then.jobs.jobs then.budget d c.proceed_with.result (run_core c.proceed_with.new.self)) same
    c.proceed_with.ensures.advanced))

pub returns-clause-fits : goal.returns-clause-fits
returns-clause-fits g c = rw c.proceed_with.ensures.services c.speaks_at.ensures.fits
