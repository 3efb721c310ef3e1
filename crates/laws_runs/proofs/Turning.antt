-- A job's move in its run.
use Rattle.std.proofs.Common.{◌≡◌, ℕ, ◌+◌, ◌<◌, ◌≤◌, Bool, true, false, cond, nat_lt, IsSome, List, [], ◌∷◌, ◌++◌, length, length-append, Option, Some, None}
use Rattle.std.proofs.Common.{◌⊎◌, inl, inr, refl, sym, ap, ◌∙◌, subst, option_map, arith}
use Rattle.std.proofs.lemmas.Bool.{le-leb, lt-leb, ltb-true, ltb-false}
use Rattle.std.specs.List.{slice_get}
use Rattle.fk_model.specs.declared.limits.TheConstants.{LAST_PORTER_SLOT}
use Rattle.fk_model.specs.declared.moves.Ask.TheVariants as asks
use Rattle.fk_model.specs.declared.moves.Move.{Move}
use Rattle.fk_model.specs.declared.stage.Stage.{Stage}
use Rattle.fk_model.specs.Places.{Path}
use Rattle.fk_model.specs.Moves.{chooses}
use Rattle.fk_model.specs.Valid.{birth_at}
use Rattle.fk_model.specs.Who.{event_of, space_born, named}
use Rattle.laws_moves.specs.Savable.Savable.{IsSound}
use Rattle.laws_jobs.specs.Machines.{call_of, IsReadyAt, AtWork}
use Rattle.fk_model.specs.Runs.{Event, after}
use Rattle.fk_model.specs.Searches.{depth}
use Rattle.fk_model.specs.declared.names.Who.{Who}
use Rattle.laws_runs.specs.Cores.{House, Work, Core, IsRun, asker, work_of, IsReadyBy, IsReadyIn, moved, Settles, world_at}
use Rattle.laws_runs.specs.Cores.Asker.{Job}
use Rattle.laws_runs.specs.Cores.IsRun.{Begins, Goes}
use Rattle.laws_jobs.specs.Jobs.{MayBegin}
use Rattle.laws_runs.specs.Composed.{AskAsUsers, JobsMeetContract, IsStart}
use Rattle.laws_runs.specs.Onwards.{event_by}
use Rattle.laws_runs.specs.Turning.{IsJobsMove, JobsMoves, asker_at, MovesAt, JobsMovesInHistory}
use Rattle.laws_runs.proofs.Named.{named_is, named_there, unpicked, caller_there}
use Rattle.laws_runs.proofs.Asking.{JobAsks, job_of, goes_on_work, begins_work}
use Rattle.laws_runs.proofs.Composing.{Stands, stands, made_here}
use Rattle.laws_runs.proofs.Events.{got_front, got_last}

module _ {J S A V : Type 0} (h : House J S A V) (first : Core S A V) (users : AskAsUsers h) (tidy : JobsMeetContract h) (start : IsStart first) where
  module _ (past : List Move) (c : Core S A V) (run : IsRun h first past c) (stand : Stands h first users tidy start run) (m : Move) where
    sound_now : IsSound c.world
    sound_now = subst IsSound stand.last (stand.sound (length past) (omega arith))

    is_call : (nester : Path) (stage : Stage) (words : List ℕ) → m.who.slot ≡ LAST_PORTER_SLOT → space_born c.world m.who.space ≡ nester →
        chooses stage ≡ false → IsReadyAt c.world (event_of c.world (asks.Call stage words) m) →
        event_of c.world (asks.Call stage words) m ≡ call_of nester stage words
    is_call nester stage words slot space unpicking ready =
        let none = unpicked c.world (named c.world m.who) stage words unpicking (option_map (named c.world) m.pick) ready in
        λ i. record { mover = slot i ∷ space i; pick = none i; ask = asks.Call stage words }

    later : (k : Work S) → c.work ≡ Some k → (stage : Stage) (words : List ℕ) → JobAsks h c m.who k.begun k.state stage words →
        IsReadyAt c.world (event_of c.world (asks.Call stage words) m) → IsJobsMove run m k.begun k.state stage words
    later k works stage words asks_it ready =
        let w = stand.working k works in
        let law = tidy (length c.ends) w.worked.job c.ends w.worked.start w.worked.its w.worked.starts in
        let porter = law.stays (world_at run k.begun) w.worked.nester c.world k.state w.worked.may w.now.work stage words asks_it.asked in
        let owed = law.later (world_at run k.begun) w.worked.nester c.world k.state w.worked.may w.now.work stage words asks_it.asked in
        let same_job : asks_it.job ≡ w.worked.job = (let one = asks_it.its in let two = w.worked.its in cc) in
        let there = named_is c.world sound_now.whole.valid sound_now.whole.few (h.nester w.worked.job) w.worked.nester porter.named in
        record {
          job = w.worked.job;
          start = w.worked.start;
          nester = w.worked.nester;
          its = w.worked.its;
          starts = w.worked.starts;
          may = w.worked.may;
          stays = porter.named;
          space = asks_it.space ∙ ap h.nester same_job;
          event = is_call w.worked.nester stage words asks_it.slot (ap (space_born c.world) (asks_it.space ∙ ap h.nester same_job)
              ∙ there) owed.unpicking ready;
          asked = asks_it.asked;
          at = inr w.now.work;
        }

    at_first : (begun : ℕ) (t : S) (stage : Stage) (words : List ℕ) (asks_it : JobAsks h c m.who begun t stage words) → c.work ≡ None → c.events ≡ begun →
        h.begins asks_it.job c.ends ≡ Some t → IsReadyAt c.world (event_of c.world (asks.Call stage words) m) → IsJobsMove run m begun t stage words
    at_first begun t stage words asks_it idle now starts ready =
        let birth = h.nester asks_it.job in
        let nester = space_born c.world birth in
        let there : IsSome (c.world.body (m.who.slot ∷ space_born c.world m.who.space)) =
        caller_there c.world (named c.world m.who) (option_map (named c.world) m.pick) stage words ready in
        let at = named_there c.world sound_now.whole.valid sound_now.whole.few birth m.who.slot (rw (asks_it.space) at there) in
        let may : MayBegin c.world nester birth = record { sound = sound_now; clean = stand.clean idle; named = at } in
        let owed = (tidy (length c.ends) asks_it.job c.ends t asks_it.its starts).first c.world nester may stage words asks_it.asked in
        let place : begun ≡ length past = sym now ∙ stand.events in
        record {
          job = asks_it.job;
          start = t;
          nester = nester;
          its = asks_it.its;
          starts = starts;
          may = subst (λ w. MayBegin w nester birth) (sym (ap (λ k. world_at run k) place ∙ stand.last)) may;
          stays = at;
          space = asks_it.space;
          event = is_call nester stage words asks_it.slot (ap (space_born c.world) asks_it.space) owed.unpicking ready;
          asked = asks_it.asked;
          at = inl (place, refl);
        }

    jobs_move : (begun : ℕ) (t : S) (stage : Stage) (words : List ℕ) → asker h c m.who ≡ Job begun t stage words →
        IsReadyAt c.world (event_of c.world (asks.Call stage words) m) → IsJobsMove run m begun t stage words
    jobs_move begun t stage words e ready = by c.work refl
      where
        asks_it : JobAsks h c m.who begun t stage words
        asks_it = job_of h c m.who begun t stage words e

        its : Option (Work S)
        its = Some (record { begun = begun; state = t })

        by : (o : Option (Work S)) → c.work ≡ o → IsJobsMove run m begun t stage words
        by (Some k) works =
            let both = goes_on_work c.events (h.begins asks_it.job c.ends) k begun t
            (subst (λ o. work_of c.events o (h.begins asks_it.job c.ends) ≡ its) works asks_it.work) in
            subst (λ b. IsJobsMove run m b t stage words) both.0
            (subst (λ x. IsJobsMove run m k.begun x stage words) both.1 (later k works stage words (rw (both.0, both.1) asks_it) ready))
        by None idle =
            let both = begins_work c.events (h.begins asks_it.job c.ends) begun t
            (subst (λ o. work_of c.events o (h.begins asks_it.job c.ends) ≡ its) idle asks_it.work) in
            at_first begun t stage words asks_it idle both.0 both.1 ready

pub jobs_moves : {J S A V : Type 0} → JobsMoves J S A V
jobs_moves h first c past run users tidy start left m begun t stage words e ready =
    jobs_move h first users tidy start past c run (stands h first users tidy start run left) m begun t stage words e (at_job ready)
  where
    at_job : IsReadyIn h c m → IsReadyAt c.world (event_of c.world (asks.Call stage words) m)
    at_job now = (subst (IsReadyBy h c m) e now).1

-- ---- at each place

module _ {J S A V : Type 0} (h : House J S A V) (first : Core S A V) (users : AskAsUsers h) (tidy : JobsMeetContract h) (start : IsStart first) where
  module _ (past : List Move) (c : Core S A V) (m : Move) (d : Core S A V) (run : IsRun h first past c) (ready : IsReadyIn h c m)
      (settles : Settles h (moved h c m) d)
      (stand : Stands h first users tidy start run) (left : first.world.next + (length past + 1) ≤ depth) where
    abbrev all : IsRun h first (past ++ m ∷ []) d
    all = Goes past c m d run ready settles

    earlier : (k : ℕ) → k ≤ length past → world_at all k ≡ world_at run k
    earlier k low = rw (le-leb k (length past) low) refl

    latest : (k : ℕ) → k ≡ length past + 1 → world_at all k ≡ d.world
    latest k e = rw (lt-leb k (length past) (omega (arith, e))) refl

    moves_in : (k begun : ℕ) (t : S) (stage : Stage) (words : List ℕ) → k < length past → begun ≤ length past → MovesAt run k begun t stage words
        → MovesAt all k begun t stage words
    moves_in k begun t stage words low early its =
        let at_k = earlier k (omega (arith, low)) in
        let at_next = earlier (k + 1) (omega (arith, low)) in
        let at_begun = earlier begun early in
        record {
          index = its.index;
          job = its.job;
          ends = its.ends;
          start = its.start;
          nester = its.nester;
          its = its.its;
          starts = its.starts;
          may = subst (λ v. MayBegin v its.nester (h.nester its.job)) (sym at_begun) its.may;
          stays = subst (λ v. birth_at v its.nester ≡ Some (h.nester its.job)) (sym at_k) its.stays;
          move = its.move;
          placed = got_front past (m ∷ []) k low ∙ its.placed;
          space = its.space;
          asked = its.asked;
          ready = subst (λ v. IsReadyAt v (call_of its.nester stage words)) (sym at_k) its.ready;
          goes = at_next ∙ (its.goes ∙ ap (λ v. after v (call_of its.nester stage words)) (sym at_k));
          at = on (its.at);
        }
      where
        on : ((begun ≡ k) × (t ≡ its.start)) ⊎ AtWork h.machine its.nester (world_at run begun) its.start (world_at run k) t →
            ((begun ≡ k) × (t ≡ its.start)) ⊎ AtWork h.machine its.nester (world_at all begun) its.start (world_at all k) t
        on (inl same) = inl same
        on (inr work) =
            inr (subst (λ y. AtWork h.machine its.nester y its.start (world_at all k) t) (sym (earlier begun early))
            (subst (λ y. AtWork h.machine its.nester (world_at run begun) its.start y t) (sym (earlier k (omega (arith, low)))) work))

    moves_now : (k begun : ℕ) (t : S) (stage : Stage) (words : List ℕ) → k ≡ length past → asker h c m.who ≡ Job begun t stage words → begun ≤ length past
        → MovesAt all k begun t stage words
    moves_now k begun t stage words here e early =
        let its = jobs_moves_here in
        let made = made_here h first users tidy start past c m d run ready settles stand left in
        let now : world_at all k ≡ c.world = earlier k (omega (arith, here)) ∙ (ap (λ i. world_at run i) here ∙ stand.last) in
        let event : made.event ≡ call_of its.nester stage words = one made.event (event_of c.world (asks.Call stage words) m) (sym made.is
        ∙ ap (event_by c.world m) e) ∙ its.event in
        record {
          index = length c.ends;
          job = its.job;
          ends = c.ends;
          start = its.start;
          nester = its.nester;
          its = its.its;
          starts = its.starts;
          may = subst (λ v. MayBegin v its.nester (h.nester its.job)) (sym (earlier begun early)) its.may;
          stays = subst (λ v. birth_at v its.nester ≡ Some (h.nester its.job)) (sym now) its.stays;
          move = m;
          placed = ap (slice_get (past ++ m ∷ [])) here ∙ got_last past m;
          space = its.space;
          asked = its.asked;
          ready = subst (λ v. IsReadyAt v (call_of its.nester stage words)) (sym now) (subst (IsReadyAt c.world) its.event (at_job ready));
          goes = latest (k + 1) (omega (arith, here)) ∙ (made.goes ∙ (ap (after c.world) event ∙ ap (λ v. after v (call_of its.nester stage words)) (sym now)));
          at = on its.nester its.start now its.at;
        }
      where
        at_job : IsReadyIn h c m → IsReadyAt c.world (event_of c.world (asks.Call stage words) m)
        at_job ready_now = (subst (IsReadyBy h c m) e ready_now).1

        jobs_moves_here : IsJobsMove run m begun t stage words
        jobs_moves_here = jobs_move h first users tidy start past c run stand m begun t stage words e (at_job ready)

        one : (x y : Event) → x ∷ [] ≡ y ∷ [] → x ≡ y
        one x y same = cc

        on : (nester : Path) (s : S) → world_at all k ≡ c.world → ((begun ≡ length past) × (t ≡ s)) ⊎ AtWork h.machine nester (world_at run begun) s c.world t →
            ((begun ≡ k) × (t ≡ s)) ⊎ AtWork h.machine nester (world_at all begun) s (world_at all k) t
        on nester s now (inl same) = inl (same.0 ∙ sym here, same.1)
        on nester s now (inr work) =
            inr (subst (λ y. AtWork h.machine nester y s (world_at all k) t) (sym (earlier begun early))
            (subst (λ y. AtWork h.machine nester (world_at run begun) s y t) (sym now) work))

  -- a job that makes a move has begun by then
  begun_by : (past : List Move) (c : Core S A V) (run : IsRun h first past c) → Stands h first users tidy start run
      → (who : Who) (begun : ℕ) (t : S) (stage : Stage) (words : List ℕ) →
      asker h c who ≡ Job begun t stage words → begun ≤ length past
  begun_by past c run stand who begun t stage words e = by c.work refl
    where
      asks_it : JobAsks h c who begun t stage words
      asks_it = job_of h c who begun t stage words e

      its : Option (Work S)
      its = Some (record { begun = begun; state = t })

      by : (o : Option (Work S)) → c.work ≡ o → begun ≤ length past
      by (Some k) works =
          let both = goes_on_work c.events (h.begins asks_it.job c.ends) k begun t
          (subst (λ o. work_of c.events o (h.begins asks_it.job c.ends) ≡ its) works asks_it.work) in
          let w = stand.working k works in
          let within = w.worked.within.0 in
          let same = both.0 in
          omega (arith, within, same)
      by None idle =
          let both = begins_work c.events (h.begins asks_it.job c.ends) begun t
          (subst (λ o. work_of c.events o (h.begins asks_it.job c.ends) ≡ its) idle asks_it.work) in
          let same = both.0 in
          let events = stand.events in
          omega (arith, same, events)

  moves_at : {c : Core S A V} {past : List Move} (run : IsRun h first past c) → first.world.next + length past ≤ depth
      → (k begun : ℕ) (t : S) (stage : Stage) (words : List ℕ) →
      k < length past → asker_at run k ≡ Job begun t stage words → (begun ≤ k) × MovesAt run k begun t stage words
  moves_at Begins left k begun t stage words low e = absurd (omega (arith, low))
  moves_at (Goes past c m d run ready settles) left k begun t stage words low e =
      let longer = length-append past (m ∷ []) in
      let stand = stands h first users tidy start run (omega (arith, left, longer)) in
      by stand (omega (arith, left, longer)) longer (nat_lt k (length past)) refl e
      (λ low e. moves_at run (omega (arith, left, longer)) k begun t stage words low e)
    where
      All : IsRun h first (past ++ m ∷ []) d
      All = Goes past c m d run ready settles

      by : Stands h first users tidy start run → first.world.next + (length past + 1) ≤ depth → length (past ++ m ∷ []) ≡ length past + 1 → (b : Bool)
          → nat_lt k (length past) ≡ b →
          cond b (asker_at run k) (asker h c m.who) ≡ Job begun t stage words
          → (k < length past → asker_at run k ≡ Job begun t stage words → (begun ≤ k) × MovesAt run k begun t stage words) →
          (begun ≤ k) × MovesAt (Goes past c m d run ready settles) k begun t stage words
      by stand enough longer true is e earlier =
          let below = ltb-true k (length past) is in
          let its = earlier below e in
          let early = its.0 in
          (early, moves_in past c m d run ready settles stand enough k begun t stage words below (omega (arith, early, below)) its.1)
      by stand enough longer false is e earlier =
          let above = ltb-false k (length past) is in
          let here : k ≡ length past = omega (arith, above, low, longer) in
          let early = begun_by past c run stand m.who begun t stage words e in
          (omega (arith, early, here), moves_now past c m d run ready settles stand enough k begun t stage words here e early)

pub moves_in_history : {J S A V : Type 0} → JobsMovesInHistory J S A V
moves_in_history h first c past run users tidy start left k begun t stage words low e =
    (moves_at h first users tidy start run left k begun t stage words low e).1
