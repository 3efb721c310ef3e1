use Rattle.std.proofs.Common.{List, length, sym, ap, ◌∙◌}
use Rattle.fk_model.specs.declared.names.Who.{Who}
use Rattle.fk_waits.specs.Waits.Lists.{stands, Lists}
use Rattle.fk_waits.specs.Waits.Threads.{all_ready, pairs_of}
use Rattle.fk_waits.proofs.InWaits.AllWoken.{none_queued, woken_queued, woken_spare, woken_stands}
use Rattle.fk_waits.proofs.InWaits.Listed.{kept_by}
use Rattle.fk_waits.proofs.waits.waits.Waits.wake_all.Goals as goal

pub wake_all-requires : goal.wake_all-requires
wake_all-requires c = record { list = pairs_of c.self.inside.threads; there = c.self.invariant.kept.there }

pub invariant_of-self : goal.invariant_of-self
invariant_of-self c =
    let t = c.self.inside.threads in
    record {
      kept = kept_by c.wake_all.new.self (all_ready (pairs_of t)) 0 (c.wake_all.ensures.there (pairs_of t) c.self.invariant.kept.there)
          (sym (ap (λ (l : List (Who × Who)). length l) (none_queued (pairs_of t))));
      last_is = tt;
    }

pub returns-clause-queued : goal.returns-clause-queued
returns-clause-queued c =
    let t = c.self.inside.threads in
    woken_queued t c.wake_all.new.self c.self.invariant.kept.there (c.wake_all.ensures.there (pairs_of t) c.self.invariant.kept.there)

pub returns-clause-stands : goal.returns-clause-stands
returns-clause-stands c thread =
    let t = c.self.inside.threads in
    woken_stands t c.wake_all.new.self c.self.invariant.kept.there (c.wake_all.ensures.there (pairs_of t) c.self.invariant.kept.there) thread
    ∙ ap (stands thread) c.self.view_is

pub returns-clause-spare : goal.returns-clause-spare
returns-clause-spare c =
    let t = c.self.inside.threads in
    woken_spare t c.wake_all.new.self c.self.invariant.kept.there (c.wake_all.ensures.there (pairs_of t) c.self.invariant.kept.there) c.wake_all.ensures.seats
    ∙ ap (λ (l : Lists). l.spare) c.self.view_is
