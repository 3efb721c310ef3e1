-- Timely: a job whose time has come is due.
use Rattle.std.proofs.Common.{◌≡◌, ℕ, ◌≤◌, ◌⊎◌, true, Option, Some, None, is_some, inl, inr, refl}
use Rattle.std.proofs.lemmas.Bool.{leb-true}
use Rattle.fk_model.specs.World.{World}
use Rattle.laws_house.specs.Houses.{Job, State}
use Rattle.laws_runs.specs.Cores.{Work, IsOtherReady}
use Rattle.fk_jobs.specs.Jobs.{Queue, current}
use Rattle.fk_jobs.specs.Turns.{core_of}
use Rattle.fk_core.specs.Rounds.Served.{Services}
use Rattle.fk_core.specs.Rounds.Moments.{house, is_timely, is_timely_by, IsDue}

pub timely_due : (q : Queue) (w : World) (services : Services) (events : ℕ) → is_timely q events ≡ true → IsDue q.jobs (core_of w services q events)
timely_due q w services events timely = of (current q) refl timely
  where
    of : (o : Option Job) → current q ≡ o → is_timely_by (is_some q.work) events o ≡ true → IsDue q.jobs (core_of w services q events)
    of None e is = absurd (cc)
    of (Some j) e is = (j, e, by q.work refl is)
      where
        by : (k : Option (Work State)) → q.work ≡ k → is_timely_by (is_some k) events (Some j) ≡ true →
            ((k : Work State) × (q.work ≡ Some k)) ⊎ ((j.at ≤ events) ⊎ (IsOtherReady (house q.jobs) (core_of w services q events) → ⊥))
        by (Some k) at is = inl (k, at)
        by None at is = inr (inl (leb-true j.at events is))
