use Rattle.std.proofs.Common.{◌≡◌, ◌≢◌, List, [], ap, not, nat_lt, subst, ◌∙◌}
use Rattle.std.specs.Bool.{OnTrue, OnFalse}
use Rattle.fk_model.specs.declared.names.Who.{Who}
use Rattle.fk_waits.specs.Waits.Lists.{Lists}
use Rattle.fk_waits.specs.Waits.Threads.{pairs_of}
use Rattle.fk_waits.proofs.InWaits.Last.{nobody_ready, some_ready}
use Rattle.fk_waits.proofs.waits.waits.Waits.is_idle.Goals as goal

pub returns-clause-none : goal.returns-clause-none
returns-clause-none c =
    let t = c.self.inside.threads in
    subst (λ (ready : List Who). OnTrue (not (nat_lt c.self.inside.queued c.len.result)) (ready ≡ [])) (ap (λ (l : Lists). l.ready) c.self.view_is)
    (nobody_ready (pairs_of t) c.self.inside.queued c.len.result (c.len.ensures ∙ c.self.invariant.kept.there.many) c.self.invariant.kept.count)

pub returns-clause-some : goal.returns-clause-some
returns-clause-some c =
    let t = c.self.inside.threads in
    subst (λ (ready : List Who). OnFalse (not (nat_lt c.self.inside.queued c.len.result)) (ready ≢ [])) (ap (λ (l : Lists). l.ready) c.self.view_is)
    (some_ready (pairs_of t) c.self.inside.queued c.len.result (c.len.ensures ∙ c.self.invariant.kept.there.many) c.self.invariant.kept.count)
