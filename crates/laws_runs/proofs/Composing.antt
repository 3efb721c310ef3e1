-- A run is composed: by induction over its moves.
use Rattle.std.proofs.Common.{◌≡◌, ℕ, zero, suc, ◌+◌, ◌<◌, ◌≤◌, arith, Bool, true, false, nat_le, IsSome, List, [], ◌∷◌, ◌++◌, length, take, Option, Some, None}
use Rattle.std.proofs.Common.{◌⊎◌, inl, inr, refl, sym, ap, ◌∙◌, subst, option_map, length-append}
use Rattle.std.proofs.lemmas.Bool.{leb-true, leb-false, le-leb, lt-leb}
use Rattle.std.proofs.lemmas.List.{take-append-le}
use Rattle.std.specs.List.{slice_get}
use Rattle.fk_model.specs.declared.limits.TheConstants.{LAST_PORTER_SLOT}
use Rattle.fk_model.specs.declared.moves.Ask.{Ask}
use Rattle.fk_model.specs.declared.moves.Ask.TheVariants as asks
use Rattle.fk_model.specs.declared.moves.Move.{Move}
use Rattle.fk_model.specs.declared.stage.Stage.{Stage}
use Rattle.fk_model.specs.Places.{Path}
use Rattle.fk_model.specs.Objects.{holds}
use Rattle.fk_model.specs.World.{World}
use Rattle.fk_model.specs.Searches.{depth}
use Rattle.fk_model.specs.StateRows.{is_native}
use Rattle.fk_model.specs.Runs.{Event, after}
use Rattle.fk_model.specs.Moves.{chooses}
use Rattle.fk_model.specs.Who.{event_of, space_born, named}
use Rattle.fk_model.specs.Sound.{IsClean}
use Rattle.laws_moves.specs.Frozen.Users.{is_users}
use Rattle.laws_moves.specs.Frozen.Holding.{IsUsersMove}
use Rattle.laws_jobs.proofs.Filling.{users_owed, clean_on}
use Rattle.laws_moves.specs.Whole.Runnable.{has_all_words, IsProper}
use Rattle.laws_moves.proofs.InWhole.Laws.{gives_one_number, keeps_runnable, savable_runnable}
use Rattle.laws_moves.specs.Savable.Savable.{Owes, IsSound}
use Rattle.laws_moves.proofs.InSavable.Laws.{keeps_savable}
use Rattle.laws_jobs.specs.Machines.{Head, heard, call_of, said_of, IsReadyAt}
use Rattle.laws_jobs.specs.Machines.Head.{Stops, Asks}
use Rattle.laws_runs.specs.Cores.{JobEnd, House, Work, Core, current, asker, work_of, IsReadyBy, IsReadyIn, others_moved, job_moved, job_hears, moved_by, moved}
use Rattle.laws_runs.specs.Cores.{with_end, Settles, IsRun, world_at, Asker}
use Rattle.laws_runs.specs.Cores.JobEnd.{Worked, Idle}
use Rattle.laws_runs.specs.Cores.Asker.{Nobody, Others, Job}
use Rattle.laws_runs.specs.Cores.Settles.{Stays, Ends}
use Rattle.laws_runs.specs.Cores.IsRun.{Begins, Goes}
use Rattle.laws_runs.specs.Onwards.{event_by}
use Rattle.laws_jobs.specs.Jobs.{MayBegin}
use Rattle.laws_runs.specs.Composed.{AskAsUsers, JobsMeetContract, IsStart, is_jobs, job_moves, WorksSo, HasWorked, HasEnded, RunIsComposed}
use Rattle.laws_runs.proofs.Named.{named_is, named_there, unpicked, caller_there, apart_from_porter}
use Rattle.laws_runs.proofs.Counting.{work_begins, work_waits, work_goes_on}
use Rattle.laws_runs.proofs.Asking.{JobAsks, job_of, others_of, goes_on_work, begins_work}

-- ---- one move of the world

-- an owed move keeps a sound world, and gives out one number at most
record Kept (w : World) (e : Event) : Type 0 where
  sound : IsSound (after w e)
  number : (after w e).next ≤ w.next + 1

kept : (w : World) (e : Event) → IsSound w → IsProper w e → Owes w e → w.next + 1 ≤ depth → Kept w e
kept w e sound proper owes left =
    let runs = savable_runnable w sound.whole sound.savable in
    let next = keeps_runnable w e runs proper left in
    record {
      sound = record { whole = next.whole; savable = keeps_savable w e sound.whole sound.savable proper owes };
      number = gives_one_number w e runs proper;
    }

-- ---- lists of ends

module _ {A : Type 0} where
  pub got_or_last : (xs : List A) (y : A) (i : ℕ) (z : A) → slice_get (xs ++ y ∷ []) i ≡ Some z → (slice_get xs i ≡ Some z) ⊎ ((i ≡ length xs) × (y ≡ z))
  got_or_last [] y zero z e = inr (refl, (let same : y ≡ z = cc in same))
  got_or_last [] y (suc i) z e = cc
  got_or_last (x ∷ xs) y zero z e = inl e
  got_or_last (x ∷ xs) y (suc i) z e = by (got_or_last xs y i z e)
    where
      by : (slice_get xs i ≡ Some z) ⊎ ((i ≡ length xs) × (y ≡ z)) → (slice_get xs i ≡ Some z) ⊎ ((suc i ≡ suc (length xs)) × (y ≡ z))
      by (inl h) = inl h
      by (inr h) = inr (ap suc h.0, h.1)

  pub got_within : (xs : List A) (i : ℕ) (z : A) → slice_get xs i ≡ Some z → i < length xs
  got_within [] i z e = cc
  got_within (x ∷ xs) zero z e = omega arith
  got_within (x ∷ xs) (suc i) z e = let rest = got_within xs i z e in omega (arith, rest)

  pub take_all : (xs : List A) → take (length xs) xs ≡ xs
  take_all [] = refl
  take_all (x ∷ xs) = ap (λ ys. x ∷ ys) (take_all xs)

pub splits : (k n : ℕ) → k ≤ n + 1 → (k ≤ n) ⊎ (k ≡ n + 1)
splits k n low = by (nat_le k n) refl
  where
    by : (b : Bool) → nat_le k n ≡ b → (k ≤ n) ⊎ (k ≡ n + 1)
    by true e = inl (leb-true k n e)
    by false e = let high = leb-false k n e in inr (omega (arith, low, high))

module _ {J S A V : Type 0} (h : House J S A V) (first : Core S A V) (users : AskAsUsers h) (tidy : JobsMeetContract h) (start : IsStart first) where
  -- ---- jobs that end without a move

  record Settled (c d : Core S A V) : Type 0 where
    world : d.world ≡ c.world
    work : d.work ≡ c.work
    events : d.events ≡ c.events
    ends : (i : ℕ) (end : A) (begun last : ℕ) → slice_get d.ends i ≡ Some (Worked end begun last) → slice_get c.ends i ≡ Some (Worked end begun last)
    takes : (i : ℕ) → i ≤ length c.ends → take i d.ends ≡ take i c.ends
    -- none does while one is at work
    still : (k : Work S) → c.work ≡ Some k → d.ends ≡ c.ends

  worked_before : (xs : List (JobEnd A)) (x : JobEnd A) (i : ℕ) (end : A) (begun last : ℕ) → ((end : A) (begun last : ℕ) → x ≡ Worked end begun last → ⊥) →
      slice_get (xs ++ x ∷ []) i ≡ Some (Worked end begun last) → slice_get xs i ≡ Some (Worked end begun last)
  worked_before xs x i end begun last other e = by (got_or_last xs x i (Worked end begun last) e)
    where
      by : (slice_get xs i ≡ Some (Worked end begun last)) ⊎ ((i ≡ length xs) × (x ≡ Worked end begun last)) → slice_get xs i ≡ Some (Worked end begun last)
      by (inl h) = h
      by (inr h) = absurd (other end begun last h.1)

  settled : (c d : Core S A V) → Settles h c d → Settled c d
  settled _ _ (Stays c none) = record {
    world = refl;
    work = refl;
    events = refl;
    ends = λ i end begun last e. e;
    takes = λ i low. refl;
    still = λ k e. refl;
  }
  settled _ _ (Ends c d why now rest) =
      let more = settled (with_end c why) d rest in
      let long = length-append c.ends (Idle why ∷ []) in
      record {
        world = more.world;
        work = more.work;
        events = more.events;
        ends = λ i end begun last e. worked_before c.ends (Idle why) i end begun last (λ end begun last e. cc) (more.ends i end begun last e);
        takes = λ i low. more.takes i (omega (arith, low, long)) ∙ take-append-le i c.ends (Idle why ∷ []) low;
        still = λ k e. (let none = now.unmoved in absurd (cc));
      }

  -- ---- what stands of a run

  pub record Working {c : Core S A V} {past : List Move} (run : IsRun h first past c) (k : Work S) : Type 0 where
    pub worked : HasWorked run (length c.ends) c.ends k.begun (length past)
    pub now : WorksSo h.machine worked.nester (world_at run k.begun) worked.start c.world k.state (job_moves run k.begun) (job_moves run (length past))
    pub stage : Stage
    pub words : List ℕ
    pub asked : h.machine.head k.state ≡ Asks stage words

  pub record Stands {c : Core S A V} {past : List Move} (run : IsRun h first past c) : Type 0 where
    pub sound : (k : ℕ) → k ≤ length past → IsSound (world_at run k)
    pub last : world_at run (length past) ≡ c.world
    pub number : c.world.next ≤ first.world.next + length past
    pub events : c.events ≡ length past
    pub clean : c.work ≡ None → IsClean c.world
    pub ended : (index : ℕ) (end : A) (begun last : ℕ) → slice_get c.ends index ≡ Some (Worked end begun last) → HasEnded run index end begun last
    pub working : (k : Work S) → c.work ≡ Some k → Working run k

  same_work : (nester : Path) (s : S) (w u v x : World) (t : S) (a b i j : ℕ) → u ≡ w → x ≡ v → i ≡ a → j ≡ b → WorksSo h.machine nester w s v t a b
      → WorksSo h.machine nester u s x t i j
  same_work nester s w u v x t a b i j e f g k works =
      let there = subst (λ y. WorksSo h.machine nester y s x t a b) (sym e) (subst (λ y. WorksSo h.machine nester w s y t a b) (sym f) works) in
      let count = there.count in
      record { work = there.work; count = omega (arith, count, g, k) }

  module _ (past : List Move) (c : Core S A V) (m : Move) (d : Core S A V) (run : IsRun h first past c) (ready : IsReadyIn h c m)
      (settles : Settles h (moved h c m) d) (stands : Stands run) (left : first.world.next + (length past + 1) ≤ depth) where
    abbrev all : IsRun h first (past ++ m ∷ []) d
    all = Goes past c m d run ready settles

    longer : length (past ++ m ∷ []) ≡ length past + 1
    longer = length-append past (m ∷ [])

    earlier : (k : ℕ) → k ≤ length past → world_at all k ≡ world_at run k
    earlier k low = rw (le-leb k (length past) low) refl

    latest : (k : ℕ) → k ≡ length past + 1 → world_at all k ≡ d.world
    latest k e = rw (lt-leb k (length past) (omega (arith, e))) refl

    earlier_count : (k : ℕ) → k ≤ length past → job_moves all k ≡ job_moves run k
    earlier_count k low = rw (le-leb k (length past) low) refl

    latest_count : (k : ℕ) → k ≡ length past + 1 → job_moves all k ≡ job_moves run (length past) + is_jobs (asker h c m.who)
    latest_count k e = rw (lt-leb k (length past) (omega (arith, e))) refl

    sound_now : IsSound c.world
    sound_now = subst IsSound stands.last (stands.sound (length past) (omega arith))

    few_now : c.world.next + 1 ≤ depth
    few_now = let number = stands.number in omega (arith, number, left)

    -- ---- what has been done stays done

    carried : (index : ℕ) (ends later : List (JobEnd A)) → later ≡ ends → (begun upto : ℕ) → HasWorked run index ends begun upto →
        HasWorked all index later begun upto
    carried index ends later same begun upto w =
        let low = w.within.1 in
        let above = w.within.0 in
        record {
          job = w.job;
          start = w.start;
          nester = w.nester;
          its = w.its;
          starts = ap (h.begins w.job) same ∙ w.starts;
          may = subst (λ v. MayBegin v w.nester (h.nester w.job)) (sym (earlier begun (omega (arith, low, above)))) w.may;
          within = (above, omega (arith, low, longer));
          throughout = λ k after_it before. (let there = w.throughout k after_it before in (
            there.0,
            same_work w.nester w.start (world_at run begun) (world_at all begun) (world_at run k) (world_at all k) there.0 _ _ _ _
                (earlier begun (omega (arith, low, above))) (earlier k (omega (arith, low, before)))
                (earlier_count begun (omega (arith, low, above))) (earlier_count k (omega (arith, low, before))) there.1,
          ));
        }

    carried_end : (index : ℕ) (end : A) (begun last : ℕ) → take index d.ends ≡ take index c.ends → HasEnded run index end begun last →
        HasEnded all index end begun last
    unfolding carried
    carried_end index end begun last same e =
        let low = e.worked.within.1 in
        let above = e.worked.within.0 in
        record {
          worked = carried index (take index c.ends) (take index d.ends) same begun (last + 1) e.worked;
          state = e.state;
          there = same_work e.worked.nester e.worked.start (world_at run begun) (world_at all begun) (world_at run (last + 1))
              (world_at all (last + 1)) e.state _ _ _ _
              (earlier begun (omega (arith, low, above))) (earlier (last + 1) low) (earlier_count begun (omega (arith, low, above)))
              (earlier_count (last + 1) low) e.there;
          stopped = e.stopped;
        }

    -- ---- the move that is made

    -- a job has worked from its first move to here
    record Next (begun upto : ℕ) (t : S) : Type 0 where
      worked : HasWorked all (length c.ends) c.ends begun upto
      now : WorksSo h.machine worked.nester (world_at all begun) worked.start d.world t (job_moves all begun) (job_moves all (length past + 1))

    goes_next : (k : Work S) (w : Working run k) (t : S) (upto : ℕ) → upto ≡ length past + 1 →
        WorksSo h.machine w.worked.nester (world_at run k.begun) w.worked.start d.world t (job_moves run k.begun) (job_moves all (length past + 1))
        → Next k.begun upto t
    goes_next k w t upto is work =
        let low = w.worked.within.1 in
        let above = w.worked.within.0 in
        let begins = earlier k.begun (omega (arith, above)) in
        record {
          worked = record {
            job = w.worked.job;
            start = w.worked.start;
            nester = w.worked.nester;
            its = w.worked.its;
            starts = w.worked.starts;
            may = subst (λ v. MayBegin v w.worked.nester (h.nester w.worked.job)) (sym begins) w.worked.may;
            within = (omega (arith, above, is), omega (arith, is, longer));
            throughout = λ i after_it before. at i after_it (splits i (length past) (omega (arith, is, before)));
          };
          now = same_work w.worked.nester w.worked.start (world_at run k.begun) (world_at all k.begun) d.world d.world t _ _ _ _ begins refl
              (earlier_count k.begun (omega (arith, above))) refl work;
        }
      where
        at : (i : ℕ) → k.begun < i → (i ≤ length past) ⊎ (i ≡ length past + 1) →
            (t : S) × WorksSo h.machine w.worked.nester (world_at all k.begun) w.worked.start (world_at all i) t (job_moves all k.begun) (job_moves all i)
        at i after_it (inl low) =
            let above = w.worked.within.0 in
            let there = w.worked.throughout i after_it low in (
              there.0,
              same_work w.worked.nester w.worked.start (world_at run k.begun) (world_at all k.begun) (world_at run i) (world_at all i) there.0 _ _ _ _
                  (earlier k.begun (omega (arith, above))) (earlier i low) (earlier_count k.begun (omega (arith, above))) (earlier_count i low) there.1,
            )
        at i after_it (inr is) =
            let above = w.worked.within.0 in (
              t,
              same_work w.worked.nester w.worked.start (world_at run k.begun) (world_at all k.begun) d.world (world_at all i) t _ _ _ _
                  (earlier k.begun (omega (arith, above))) (latest i is) (earlier_count k.begun (omega (arith, above))) (ap (λ n. job_moves all n) is) work,
            )

    begins_next : (j : J) (s : S) (nester : Path) (begun : ℕ) (t : S) (upto : ℕ) → upto ≡ length past + 1 → begun ≡ length past → current h c ≡ Some j →
        h.begins j c.ends ≡ Some s → MayBegin c.world nester (h.nester j)
        → WorksSo h.machine nester c.world s d.world t (job_moves run (length past)) (job_moves all (length past + 1)) → Next begun upto t
    begins_next j s nester begun t upto is now its starts may work =
        let begins : world_at all begun ≡ c.world = earlier begun (omega (arith, now)) ∙ (ap (λ k. world_at run k) now ∙ stands.last) in
        let counted : job_moves all begun ≡ job_moves run (length past) = earlier_count begun (omega (arith, now)) ∙ ap (λ k. job_moves run k) now in
        record {
          worked = record {
            job = j;
            start = s;
            nester = nester;
            its = its;
            starts = starts;
            may = subst (λ v. MayBegin v nester (h.nester j)) (sym begins) may;
            within = (omega (arith, now, is), omega (arith, is, longer));
            throughout = λ i after_it before. (
              t,
              same_work nester s c.world (world_at all begun) d.world (world_at all i) t _ _ _ _ begins
                  (latest i (omega (arith, is, now, after_it, before))) counted (ap (λ n. job_moves all n) (omega (arith, is, now, after_it, before))) work,
            );
          };
          now = same_work nester s c.world (world_at all begun) d.world d.world t _ _ _ _ begins refl counted refl work;
        }

    -- ---- a move of others

    users_move : (ask : Ask) → is_users ask ≡ true → IsReadyAt c.world (event_of c.world ask m) → (nester : Path) →
        holds is_native (c.world.body (LAST_PORTER_SLOT ∷ nester)) ≡ true → IsUsersMove nester c.world (event_of c.world ask m)
    users_move ask is ready nester native =
        let proper = users_owed c.world (named c.world m.who) ask is in
        record {
          valid = sound_now.whole.valid;
          few = sound_now.whole.few;
          fit = proper.0;
          ready = ready;
          users = is;
          other = apart_from_porter c.world (LAST_PORTER_SLOT ∷ nester) (named c.world m.who) (option_map (named c.world) m.pick) ask native is ready;
        }

    -- what the move counts for
    counts : (a : Asker S) → asker h c m.who ≡ a → job_moves all (length past + 1) ≡ job_moves run (length past) + is_jobs a
    counts a e = latest_count (length past + 1) refl ∙ ap (λ (b : Asker S). job_moves run (length past) + is_jobs b) e

    others_next : (ask : Ask) → asker h c m.who ≡ Others ask → is_users ask ≡ true → has_all_words ask ≡ true → IsReadyAt c.world (event_of c.world ask m)
        → d.world ≡ after c.world (event_of c.world ask m) →
        (k : Work S) → c.work ≡ Some k → (upto : ℕ) → upto ≡ length past + 1 → Next k.begun upto k.state
    others_next ask theirs is words ready goes k works upto up =
        let w = stands.working k works in
        let porter = (tidy (length c.ends) w.worked.job c.ends w.worked.start w.worked.its w.worked.starts).stays
        (world_at run k.begun) w.worked.nester c.world k.state w.worked.may w.now.work
        w.stage w.words w.asked in
        let none = counts (Others ask) theirs in
        let e = event_of c.world ask m in
        let proper = users_owed c.world (named c.world m.who) ask is in
        goes_next k w k.state upto up
        (same_work w.worked.nester w.worked.start (world_at run k.begun) (world_at run k.begun) (after c.world e) d.world k.state _ _ _ _ refl goes refl
        (omega (arith, none))
        (work_waits h.machine w.worked.nester (world_at run k.begun) w.worked.start c.world k.state e (job_moves run k.begun)
        (job_moves run (length past)) w.now (w.stage, w.words, w.asked) (users_move ask is ready w.worked.nester porter.porter)
        (kept c.world e sound_now (record { fit = proper.0; words = words }) proper.1 few_now).sound))

    -- ---- a move of the job's

    -- what is known of it
    record Made (begun : ℕ) (t : S) (e : Event) : Type 0 where
      proper : IsProper c.world e
      owes : Owes c.world e
      next : (upto : ℕ) → upto ≡ length past + 1 → d.world ≡ after c.world e → Next begun upto (heard h.machine t (said_of c.world e))

    same_event : (nester : Path) (stage : Stage) (words : List ℕ) → m.who.slot ≡ LAST_PORTER_SLOT → space_born c.world m.who.space ≡ nester →
        chooses stage ≡ false → IsReadyAt c.world (event_of c.world (asks.Call stage words) m) →
        event_of c.world (asks.Call stage words) m ≡ call_of nester stage words
    same_event nester stage words slot space unpicking ready =
        let none = unpicked c.world (named c.world m.who) stage words unpicking (option_map (named c.world) m.pick) ready in
        λ i. record { mover = slot i ∷ space i; pick = none i; ask = asks.Call stage words }

    abbrev OneMore : Type 0
    OneMore = job_moves all (length past + 1) ≡ job_moves run (length past) + 1

    made_later : OneMore → (k : Work S) → c.work ≡ Some k → (stage : Stage) (words : List ℕ) → JobAsks h c m.who k.begun k.state stage words →
        IsReadyAt c.world (event_of c.world (asks.Call stage words) m) → Made k.begun k.state (event_of c.world (asks.Call stage words) m)
    made_later one k works stage words asks_it ready =
        let w = stands.working k works in
        let law = tidy (length c.ends) w.worked.job c.ends w.worked.start w.worked.its w.worked.starts in
        let porter = law.stays (world_at run k.begun) w.worked.nester c.world k.state w.worked.may w.now.work stage words asks_it.asked in
        let owed = law.later (world_at run k.begun) w.worked.nester c.world k.state w.worked.may w.now.work stage words asks_it.asked in
        let same_job : asks_it.job ≡ w.worked.job = (let one = asks_it.its in let two = w.worked.its in cc) in
        let there = named_is c.world sound_now.whole.valid sound_now.whole.few (h.nester w.worked.job) w.worked.nester porter.named in
        let space : space_born c.world m.who.space ≡ w.worked.nester = ap (space_born c.world) (asks_it.space ∙ ap h.nester same_job) ∙ there in
        let is = same_event w.worked.nester stage words asks_it.slot space owed.unpicking ready in
        let call = call_of w.worked.nester stage words in
        record {
          proper = subst (IsProper c.world) (sym is) owed.proper;
          owes = subst (Owes c.world) (sym is) owed.owes;
          next = λ upto up goes. goes_next k w (heard h.machine k.state (said_of c.world (event_of c.world (asks.Call stage words) m))) upto up
              (subst (λ y. WorksSo h.machine w.worked.nester (world_at run k.begun) w.worked.start y
              (heard h.machine k.state (said_of c.world (event_of c.world (asks.Call stage words) m))) (job_moves run k.begun)
              (job_moves all (length past + 1))) (sym goes)
              (subst (λ e. WorksSo h.machine w.worked.nester (world_at run k.begun) w.worked.start (after c.world e)
              (heard h.machine k.state (said_of c.world e)) (job_moves run k.begun)
              (job_moves all (length past + 1))) (sym is)
              (work_goes_on h.machine w.worked.nester (world_at run k.begun) w.worked.start c.world k.state stage words (job_moves run k.begun)
              (job_moves run (length past))
              (job_moves all (length past + 1)) one w.now asks_it.asked
              (subst (IsReadyAt c.world) is ready) (kept c.world call sound_now owed.proper owed.owes few_now).sound)));
        }

    made_first : OneMore → (begun : ℕ) (t : S) (stage : Stage) (words : List ℕ) (asks_it : JobAsks h c m.who begun t stage words) → c.work ≡ None
        → c.events ≡ begun →
        h.begins asks_it.job c.ends ≡ Some t →
        IsReadyAt c.world (event_of c.world (asks.Call stage words) m) → Made begun t (event_of c.world (asks.Call stage words) m)
    made_first one begun t stage words asks_it idle now starts ready =
        let birth = h.nester asks_it.job in
        let nester = space_born c.world birth in
        let there : IsSome (c.world.body (m.who.slot ∷ space_born c.world m.who.space)) =
        caller_there c.world (named c.world m.who) (option_map (named c.world) m.pick) stage words ready in
        let at = named_there c.world sound_now.whole.valid sound_now.whole.few birth m.who.slot (rw (asks_it.space) at there) in
        let may : MayBegin c.world nester birth = record { sound = sound_now; clean = stands.clean idle; named = at } in
        let owed = (tidy (length c.ends) asks_it.job c.ends t asks_it.its starts).first c.world nester may stage words asks_it.asked in
        let is = same_event nester stage words asks_it.slot (ap (space_born c.world) asks_it.space) owed.unpicking ready in
        let events = stands.events in
        record {
          proper = subst (IsProper c.world) (sym is) owed.proper;
          owes = subst (Owes c.world) (sym is) owed.owes;
          next = λ upto up goes. begins_next asks_it.job t nester begun
              (heard h.machine t (said_of c.world (event_of c.world (asks.Call stage words) m))) upto up
              (omega (arith, now, events)) asks_it.its starts may
              (subst (λ y. WorksSo h.machine nester c.world t y (heard h.machine t (said_of c.world (event_of c.world (asks.Call stage words) m)))
              (job_moves run (length past))
              (job_moves all (length past + 1))) (sym goes)
              (subst (λ e. WorksSo h.machine nester c.world t (after c.world e) (heard h.machine t (said_of c.world e)) (job_moves run (length past))
              (job_moves all (length past + 1))) (sym is)
              (work_begins h.machine nester c.world t stage words (job_moves run (length past)) (job_moves all (length past + 1)) one asks_it.asked
              (subst (IsReadyAt c.world) is ready)
              (kept c.world (call_of nester stage words) sound_now owed.proper owed.owes few_now).sound)));
        }

    made : (begun : ℕ) (t : S) (stage : Stage) (words : List ℕ) → asker h c m.who ≡ Job begun t stage words →
        IsReadyAt c.world (event_of c.world (asks.Call stage words) m) → Made begun t (event_of c.world (asks.Call stage words) m)
    made begun t stage words e ready = by c.work refl
      where
        asks_it : JobAsks h c m.who begun t stage words
        asks_it = job_of h c m.who begun t stage words e

        one_more : OneMore
        one_more = counts (Job begun t stage words) e

        its : Option (Work S)
        its = Some (record { begun = begun; state = t })

        by : (o : Option (Work S)) → c.work ≡ o → Made begun t (event_of c.world (asks.Call stage words) m)
        by (Some k) works =
            let both = goes_on_work c.events (h.begins asks_it.job c.ends) k begun t
            (subst (λ o. work_of c.events o (h.begins asks_it.job c.ends) ≡ its) works asks_it.work) in
            subst (λ b. Made b t (event_of c.world (asks.Call stage words) m)) both.0
            (subst (λ x. Made k.begun x (event_of c.world (asks.Call stage words) m)) both.1
            (made_later one_more k works stage words (rw (both.0, both.1) asks_it) ready))
        by None idle =
            let both = begins_work c.events (h.begins asks_it.job c.ends) begun t
            (subst (λ o. work_of c.events o (h.begins asks_it.job c.ends) ≡ its) idle asks_it.work) in
            made_first one_more begun t stage words asks_it idle both.0 both.1 ready

    -- to the end of the history
    same_now : {begun upto : ℕ} {t : S} (next : Next begun upto t) →
        WorksSo h.machine next.worked.nester (world_at all begun) next.worked.start d.world t (job_moves all begun) (job_moves all (length (past ++ m ∷ [])))
    same_now next = same_work next.worked.nester next.worked.start _ _ _ _ _ _ _ _ _ refl refl refl (ap (λ n. job_moves all n) longer) next.now

    -- ---- all together

    -- what every move gives
    assembled : (e : Event) → IsProper c.world e → Owes c.world e → d.world ≡ after c.world e → d.events ≡ c.events + 1 → (d.work ≡ None → IsClean d.world) →
        ((index : ℕ) (end : A) (begun last : ℕ) → slice_get d.ends index ≡ Some (Worked end begun last) → HasEnded all index end begun last) →
        ((k : Work S) → d.work ≡ Some k → Working all k) → Stands all
    assembled e proper owes goes events clean ended working =
        let after_it = kept c.world e sound_now proper owes few_now in
        let number = after_it.number in
        let before = stands.number in
        let counted = stands.events in
        let sound : IsSound d.world = subst IsSound (sym goes) after_it.sound in
        let next : d.world.next ≡ (after c.world e).next = ap (λ (w : World). w.next) goes in
        record {
          sound = λ k low. at sound k (splits k (length past) (omega (arith, low, longer)));
          last = latest (length (past ++ m ∷ [])) longer;
          number = omega (arith, number, before, next, longer);
          events = omega (arith, events, counted, longer);
          clean = clean;
          ended = ended;
          working = working;
        }
      where
        at : IsSound d.world → (k : ℕ) → (k ≤ length past) ⊎ (k ≡ length past + 1) → IsSound (world_at all k)
        at sound k (inl low) = subst IsSound (sym (earlier k low)) (stands.sound k low)
        at sound k (inr is) = subst IsSound (sym (latest k is)) sound

    -- a job that has ended before has ended still
    ended_still : (v : Core S A V) → Settled v d → v.ends ≡ c.ends →
        (index : ℕ) (end : A) (begun last : ℕ) → slice_get d.ends index ≡ Some (Worked end begun last) → HasEnded all index end begun last
    ended_still v still same index end begun last e =
        let was = still.ends index end begun last e in
        let its = subst (λ es. slice_get es index ≡ Some (Worked end begun last)) same was in
        let low = got_within c.ends index (Worked end begun last) its in
        let long = ap (λ (es : List (JobEnd A)). length es) same in
        carried_end index end begun last (still.takes index (omega (arith, low, long)) ∙ ap (take index) same) (stands.ended index end begun last its)

    moved_others : (ask : Ask) → asker h c m.who ≡ Others ask → IsReadyAt c.world (event_of c.world ask m) →
        Settles h (others_moved h c (event_of c.world ask m)) d → Stands all
    moved_others ask e now settling =
        let is = others_of h c m.who users ask e in
        let still = settled (others_moved h c (event_of c.world ask m)) d settling in
        let proper = users_owed c.world (named c.world m.who) ask is.0 in
        assembled (event_of c.world ask m) (record { fit = proper.0; words = is.1 }) proper.1 still.world still.events
        (λ idle. subst IsClean (sym still.world) (clean_on c.world (event_of c.world ask m) sound_now.whole.valid.rooted is.0
        (stands.clean (sym still.work ∙ idle))))
        (ended_still (others_moved h c (event_of c.world ask m)) still refl)
        (λ k works. at is still k (sym still.work ∙ works))
      where
        at : (is_users ask ≡ true) × (has_all_words ask ≡ true) → Settled (others_moved h c (event_of c.world ask m)) d → (k : Work S) → c.work ≡ Some k →
            Working all k
        at is still k works =
            let next = others_next ask e is.0 is.1 now still.world k works (length (past ++ m ∷ [])) longer in
            let same = still.still k works in
            let w = stands.working k works in
            record {
              worked = record {
                job = next.worked.job;
                start = next.worked.start;
                nester = next.worked.nester;
                its = ap (λ (es : List (JobEnd A)). slice_get h.jobs (length es)) same ∙ next.worked.its;
                starts = ap (h.begins next.worked.job) same ∙ next.worked.starts;
                may = next.worked.may;
                within = next.worked.within;
                throughout = next.worked.throughout;
              };
              now = same_now next;
              stage = w.stage;
              words = w.words;
              asked = w.asked;
            }

    moved_job : (begun : ℕ) (t : S) (stage : Stage) (words : List ℕ) → asker h c m.who ≡ Job begun t stage words →
        IsReadyAt c.world (event_of c.world (asks.Call stage words) m) →
        Settles h (job_hears h c (event_of c.world (asks.Call stage words) m) begun t) d → Stands all
    moved_job begun t stage words e now settling = by (h.machine.head later) refl settling
      where
        event : Event
        event = event_of c.world (asks.Call stage words) m

        later : S
        later = heard h.machine t (said_of c.world event)

        done : Made begun t event
        done = made begun t stage words e now

        work : Work S
        work = record { begun = begun; state = later }

        working : (stage : Stage) (words : List ℕ) → Settled (job_moved h c event begun later (Asks stage words)) d →
            h.machine.head later ≡ Asks stage words → Working all work
        working stage words still asks_on =
            let next = done.next (length (past ++ m ∷ [])) longer still.world in
            let same = still.still work refl in
            record {
              worked = record {
                job = next.worked.job;
                start = next.worked.start;
                nester = next.worked.nester;
                its = ap (λ (es : List (JobEnd A)). slice_get h.jobs (length es)) same ∙ next.worked.its;
                starts = ap (h.begins next.worked.job) same ∙ next.worked.starts;
                may = next.worked.may;
                within = next.worked.within;
                throughout = next.worked.throughout;
              };
              now = same_now next;
              stage = stage;
              words = words;
              asked = asks_on;
            }

        cleaned : (end : A) → h.machine.head later ≡ Stops end → d.world ≡ after c.world event → IsClean d.world
        cleaned end stops goes =
            let next = done.next (length (past ++ m ∷ [])) longer goes in
            (tidy (length c.ends) next.worked.job c.ends next.worked.start next.worked.its next.worked.starts).ends
            (world_at all begun) next.worked.nester d.world later end next.worked.may
            next.now.work stops

        ended_now : (end : A) → h.machine.head later ≡ Stops end → Settled (job_moved h c event begun later (Stops end)) d →
            HasEnded all (length c.ends) end begun c.events
        ended_now end stops still =
            let events = stands.events in
            let upto : c.events + 1 ≡ length past + 1 = omega (arith, events) in
            let next = done.next (c.events + 1) upto still.world in
            let long = length-append c.ends (Worked end begun c.events ∷ []) in
            let same : take (length c.ends) d.ends ≡ c.ends = still.takes (length c.ends) (omega (arith, long))
            ∙ (take-append-le (length c.ends) c.ends (Worked end begun c.events ∷ []) (omega arith) ∙ take_all c.ends) in
            record {
              worked = record {
                job = next.worked.job;
                start = next.worked.start;
                nester = next.worked.nester;
                its = next.worked.its;
                starts = ap (h.begins next.worked.job) same ∙ next.worked.starts;
                may = next.worked.may;
                within = next.worked.within;
                throughout = next.worked.throughout;
              };
              state = later;
              there = same_work next.worked.nester next.worked.start (world_at all begun) (world_at all begun) d.world
                  (world_at all (c.events + 1)) later _ _ _ _
                  refl (latest (c.events + 1) upto) refl (ap (λ n. job_moves all n) upto) next.now;
              stopped = stops;
            }

        ends_with : (end : A) → h.machine.head later ≡ Stops end → Settled (job_moved h c event begun later (Stops end)) d
            → (index : ℕ) (last_end : A) (first_move last : ℕ) →
            slice_get d.ends index ≡ Some (Worked last_end first_move last) → HasEnded all index last_end first_move last
        ends_with end stops still index last_end first_move last e = by (got_or_last c.ends (Worked end begun c.events) index (Worked last_end first_move last)
            (still.ends index last_end first_move last e))
          where
            by : (slice_get c.ends index ≡ Some (Worked last_end first_move last))
                ⊎ ((index ≡ length c.ends) × (Worked end begun c.events ≡ Worked last_end first_move last)) →
                HasEnded all index last_end first_move last
            by (inl its) =
                let low = got_within c.ends index (Worked last_end first_move last) its in
                let long = length-append c.ends (Worked end begun c.events ∷ []) in
                carried_end index last_end first_move last (still.takes index (omega (arith, low, long))
                ∙ take-append-le index c.ends (Worked end begun c.events ∷ []) (omega (arith, low)))
                (stands.ended index last_end first_move last its)
            by (inr here) =
                let same = here.1 in
                let one : end ≡ last_end = cc in
                let two : begun ≡ first_move = cc in
                let three : c.events ≡ last = cc in
                subst (λ i. HasEnded all i last_end first_move last) (sym here.0)
                (subst (λ b. HasEnded all (length c.ends) last_end b last) two
                (subst (λ n. HasEnded all (length c.ends) last_end begun n) three
                (subst (λ a. HasEnded all (length c.ends) a begun c.events) one (ended_now end stops still))))

        by : (head : Head A) → h.machine.head later ≡ head → Settles h (job_moved h c event begun later head) d → Stands all
        by (Asks more given) asks_on settling =
            let still = settled (job_moved h c event begun later (Asks more given)) d settling in
            assembled event done.proper done.owes still.world still.events
            (λ idle. (let works = sym still.work ∙ idle in absurd (cc)))
            (ended_still (job_moved h c event begun later (Asks more given)) still refl)
            (λ k works. (let same : work ≡ k = (let both = sym still.work ∙ works in cc) in subst (Working all) same (working more given still asks_on)))
        by (Stops end) stops settling =
            let still = settled (job_moved h c event begun later (Stops end)) d settling in
            assembled event done.proper done.owes still.world still.events
            (λ idle. cleaned end stops still.world)
            (ends_with end stops still)
            (λ k works. (let idle = sym still.work ∙ works in absurd (cc)))

    -- the event that was made
    pub record Made_here : Type 0 where
      pub event : Event
      pub is : event_by c.world m (asker h c m.who) ≡ event ∷ []
      pub proper : IsProper c.world event
      pub goes : d.world ≡ after c.world event

    pub made_here : Made_here
    made_here = by (asker h c m.who) refl ready settles
      where
        by : (a : Asker S) → asker h c m.who ≡ a → IsReadyBy h c m a → Settles h (moved_by h c m a) d → Made_here
        by Nobody e now settling = absurd now
        by (Others ask) e now settling =
            let is = others_of h c m.who users ask e in
            let proper = users_owed c.world (named c.world m.who) ask is.0 in
            record {
              event = event_of c.world ask m;
              is = ap (event_by c.world m) e;
              proper = record { fit = proper.0; words = is.1 };
              goes = (settled (others_moved h c (event_of c.world ask m)) d settling).world;
            }
        by (Job begun t stage words) e now settling =
            let event = event_of c.world (asks.Call stage words) m in
            let later = heard h.machine t (said_of c.world event) in
            record {
              event = event;
              is = ap (event_by c.world m) e;
              proper = (made begun t stage words e now.1).proper;
              goes = (settled (job_hears h c event begun t) d settling).world ∙ job_world event begun later (h.machine.head later);
            }
          where
            job_world : (event : Event) (begun : ℕ) (later : S) (head : Head A) → (job_moved h c event begun later head).world ≡ after c.world event
            job_world event begun later (Asks stage words) = refl
            job_world event begun later (Stops end) = refl

    stands_on : Stands all
    stands_on = by (asker h c m.who) refl ready settles
      where
        by : (a : Asker S) → asker h c m.who ≡ a → IsReadyBy h c m a → Settles h (moved_by h c m a) d → Stands all
        by Nobody e now settling = absurd now
        by (Others ask) e now settling = moved_others ask e now settling
        by (Job begun t stage words) e now settling = moved_job begun t stage words e now.1 settling

  abbrev begins : IsRun h first [] first
  begins = Begins

  ends_none : (es : List (JobEnd A)) → es ≡ [] → (index : ℕ) (end : A) (begun last : ℕ) → slice_get es index ≡ Some (Worked end begun last) →
      HasEnded begins index end begun last
  ends_none [] none index end begun last e = cc
  ends_none (x ∷ xs) none index end begun last e = cc

  pub stands : {c : Core S A V} {past : List Move} (run : IsRun h first past c) → first.world.next + length past ≤ depth → Stands run
  stands Begins left = record {
    sound = λ k low. start.sound;
    last = refl;
    number = omega arith;
    events = start.events;
    clean = λ idle. start.clean;
    ended = λ index end begun last e. ends_none first.ends start.ends index end begun last e;
    working = λ k works. (let idle = start.work in absurd (cc));
  }
  stands (Goes past c m d run ready settles) left =
      let long = length-append past (m ∷ []) in
      stands_on past c m d run ready settles (stands run (omega (arith, left, long))) (omega (arith, left, long))

pub composed : {J S A V : Type 0} → RunIsComposed J S A V
composed h first c past run users tidy start left =
    let whole = stands h first users tidy start run left in
    record { sound = whole.sound; ended = whole.ended; working = λ k works. (whole.working k works).worked }
