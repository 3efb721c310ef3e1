use Rattle.std.proofs.Common.{ap, ◌∙◌}
use Rattle.fk_waits.specs.Waits.Lists.{Lists}
use Rattle.fk_waits.specs.Waits.Threads.{lists_of, pairs_of}
use Rattle.fk_waits.proofs.InWaits.Last.{last_there}
use Rattle.fk_waits.proofs.InWaits.Listed.{kept_by, more_lists}
use Rattle.fk_waits.proofs.waits.waits.Waits.reserve.Goals as goal

pub invariant_of-self : goal.invariant_of-self
invariant_of-self c =
    let t = c.self.inside.threads in
    let k = c.self.invariant.kept in
    record {
      kept = kept_by c.reserve.new.self (pairs_of t) c.self.inside.queued (c.reserve.ensures.kept (pairs_of t) k.there) k.count;
      last_is = last_there c.self.inside.last c.self.inside.cause (lists_of t) (lists_of c.reserve.new.self)
          (more_lists t c.reserve.new.self k.there (c.reserve.ensures.kept (pairs_of t) k.there)).0
          (more_lists t c.reserve.new.self k.there (c.reserve.ensures.kept (pairs_of t) k.there)).1 c.self.invariant.last_is;
    }

pub returns-clause-ready : goal.returns-clause-ready
returns-clause-ready c =
    let t = c.self.inside.threads in
    let k = c.self.invariant.kept in
    (more_lists t c.reserve.new.self k.there (c.reserve.ensures.kept (pairs_of t) k.there)).0 ∙ ap (λ (lists : Lists). lists.ready) c.self.view_is

pub returns-clause-queued : goal.returns-clause-queued
returns-clause-queued c =
    let t = c.self.inside.threads in
    let k = c.self.invariant.kept in
    (more_lists t c.reserve.new.self k.there (c.reserve.ensures.kept (pairs_of t) k.there)).1 ∙ ap (λ (lists : Lists). lists.queued) c.self.view_is
