-- How each job of a run has ended: by induction over its moves.
use Rattle.std.proofs.Common.{◌≡◌, ℕ, ◌+◌, ◌<◌, ◌≤◌, arith, List, [], ◌∷◌, ◌++◌, length, take, Option, Some, None, ◌⊎◌, inl, inr, refl, sym, ap, ◌∙◌, subst}
use Rattle.std.proofs.Common.{length-append}
use Rattle.std.proofs.lemmas.Bool.{le-leb, lt-ltb, le-ltb}
use Rattle.std.proofs.lemmas.List.{take-append-le}
use Rattle.std.specs.List.{slice_get}
use Rattle.fk_model.specs.declared.moves.Ask.{Ask}
use Rattle.fk_model.specs.declared.moves.Ask.TheVariants as asks
use Rattle.fk_model.specs.declared.moves.Move.{Move}
use Rattle.fk_model.specs.declared.stage.Stage.{Stage}
use Rattle.fk_model.specs.World.{World}
use Rattle.fk_model.specs.Runs.{Event}
use Rattle.fk_model.specs.Who.{event_of}
use Rattle.laws_jobs.specs.Machines.{Head, heard, said_of}
use Rattle.laws_jobs.specs.Machines.Head.{Stops, Asks}
use Rattle.laws_runs.specs.Cores.{JobEnd, House, Work, Core, current, Asker, asker, work_of, IsReadyBy, IsReadyIn, IsDueNow, others_moved, job_moved}
use Rattle.laws_runs.specs.Cores.{job_hears, moved_by, moved, with_end, EndsFor, Settles, IsRun, world_at}
use Rattle.laws_runs.specs.Cores.JobEnd.{Worked, Idle}
use Rattle.laws_runs.specs.Cores.Asker.{Nobody, Others, Job}
use Rattle.laws_runs.specs.Cores.Settles.{Stays, Ends}
use Rattle.laws_runs.specs.Cores.IsRun.{Begins, Goes}
use Rattle.laws_runs.specs.Composed.{IsStart}
use Rattle.laws_runs.specs.Turning.{asker_at}
use Rattle.laws_runs.specs.Ended.{AsksAt, Comes, with_ends, EndIs, EndsAreSo}
use Rattle.laws_runs.specs.Ended.Comes.{Begins as At_first, Hears}
use Rattle.laws_runs.proofs.Asking.{JobAsks, job_of, goes_on_work, begins_work}
use Rattle.laws_runs.proofs.Composing.{got_or_last, got_within, take_all, splits}
use Rattle.laws_runs.specs.Events.{core_at}
use Rattle.laws_runs.proofs.Events.{got_front, got_last, core_now, its_events}

module _ {J S A V : Type 0} (h : House J S A V) (first : Core S A V) where
  -- each end of a list is so
  EndsSo : {c : Core S A V} {past : List Move} → IsRun h first past c → List (JobEnd A) → Type 0
  EndsSo run es = (index : ℕ) (end : JobEnd A) → slice_get es index ≡ Some end
      → (job : J) × (slice_get h.jobs index ≡ Some job) × EndIs run (take index es) job end

  record Holds {c : Core S A V} {past : List Move} (run : IsRun h first past c) : Type 0 where
    events : c.events ≡ length past
    shorter : (i : ℕ) → i ≤ length past → length (core_at run i).ends ≤ length c.ends
    working : (k : Work S) → c.work ≡ Some k → (job : J) × (current h c ≡ Some job) × (s : S) × (h.begins job c.ends ≡ Some s) × (k.begun < length past)
        × AsksAt run k.begun k.begun s × Comes h.machine s k.state
    ended : EndsSo run c.ends

  -- one end more
  pushed : {c : Core S A V} {past : List Move} (run : IsRun h first past c) (es : List (JobEnd A)) (x : JobEnd A) (job : J) → EndsSo run es
      → slice_get h.jobs (length es) ≡ Some job → EndIs run es job x → EndsSo run (es ++ x ∷ [])
  unfolding EndsSo
  pushed run es x job all its is index end got = by (got_or_last es x index end got)
    where
      by : (slice_get es index ≡ Some end) ⊎ ((index ≡ length es) × (x ≡ end))
          → (job : J) × (slice_get h.jobs index ≡ Some job) × EndIs run (take index (es ++ x ∷ [])) job end
      by (inl there) =
          let low = got_within es index end there in
          let same : take index es ≡ take index (es ++ x ∷ []) = sym (take-append-le index es (x ∷ []) (omega (arith, low))) in
          let its = all index end there in
          (its.0, its.1, subst (λ (ends : List (JobEnd A)). EndIs run ends its.0 end) same its.2)
      by (inr last) =
          let same : es ≡ take index (es ++ x ∷ []) = sym (ap (λ (i : ℕ). take i (es ++ x ∷ [])) last.0
          ∙ (take-append-le (length es) es (x ∷ []) (omega arith) ∙ take_all es)) in (
            job,
            ap (slice_get h.jobs) last.0 ∙ its,
            subst (λ (y : JobEnd A). EndIs run (take index (es ++ x ∷ [])) job y) last.1 (subst (λ (ends : List (JobEnd A)). EndIs run ends job x) same is),
          )

  -- what settling keeps
  settled_got : (v d : Core S A V) → Settles h v d → (i : ℕ) (x : JobEnd A) → slice_get v.ends i ≡ Some x → slice_get d.ends i ≡ Some x
  settled_got _ _ (Stays v none) i x got = got
  settled_got _ _ (Ends v d why now rest) i x got =
      settled_got (with_end v why) d rest i x (got_front v.ends (Idle why ∷ []) i (got_within v.ends i x got) ∙ got)

  settled_longer : (v d : Core S A V) → Settles h v d → length v.ends ≤ length d.ends
  settled_longer _ _ (Stays v none) = let same : length v.ends ≤ length v.ends = omega arith in same
  settled_longer _ _ (Ends v d why now rest) =
      let more = settled_longer (with_end v why) d rest in
      let longer = length-append v.ends (Idle why ∷ []) in
      omega (arith, more, longer)

  settled_same : (v d : Core S A V) → Settles h v d → with_ends d v.ends ≡ v
  settled_same _ _ (Stays v none) = refl
  settled_same _ _ (Ends v d why now rest) = ap (λ (x : Core S A V). with_ends x v.ends) (settled_same (with_end v why) d rest)

  -- jobs that end without a move, behind all moves so far
  unmoved : {c : Core S A V} {past : List Move} (run : IsRun h first past c) (v d : Core S A V) → Settles h v d → core_at run (length past) ≡ d
      → ((i : ℕ) → i < length past → length (core_at run i).ends ≤ length v.ends) → EndsSo run v.ends → EndsSo run d.ends
  unmoved run _ _ (Stays v none) here before all = all
  unmoved {past = past} run _ _ (Ends v d why now rest) here before all = unmoved run (with_end v why) d rest here later
      (pushed run v.ends (Idle why) now.job all now.its (
        length past,
        record {
          within = (let same : length past ≤ length past = omega arith in same);
          there = ap (λ (x : Core S A V). slice_get x.ends (length v.ends)) here
              ∙ settled_got (with_end v why) d rest (length v.ends) (Idle why) (got_last v.ends (Idle why));
          not_before = before;
          due = subst (λ (x : Core S A V). IsDueNow h x now.job) (sym as_then) now.due;
          so = subst (λ (x : Core S A V). EndsFor h x now.job why) (sym as_then) now.ends;
        },
      ))
    where
      as_then : with_ends (core_at run (length past)) v.ends ≡ v
      as_then = ap (λ (x : Core S A V). with_ends x v.ends) here ∙ settled_same v d (Ends v d why now rest)

      later : (i : ℕ) → i < length past → length (core_at run i).ends ≤ length (v.ends ++ Idle why ∷ [])
      later i low =
          let short = before i low in
          let longer = length-append v.ends (Idle why ∷ []) in
          omega (arith, short, longer)

  pub settled_work : (v d : Core S A V) → Settles h v d → (d.work ≡ v.work) × (d.events ≡ v.events)
  settled_work _ _ (Stays v none) = (refl, refl)
  settled_work _ _ (Ends v d why now rest) = settled_work (with_end v why) d rest

  pub settled_still : (v d : Core S A V) (k : Work S) → Settles h v d → v.work ≡ Some k → d.ends ≡ v.ends
  settled_still _ _ k (Stays v none) works = refl
  settled_still _ _ k (Ends v d why now rest) works = let none = now.unmoved in absurd (cc)

  module _ (past : List Move) (c : Core S A V) (m : Move) (d : Core S A V) (run : IsRun h first past c) (ready : IsReadyIn h c m)
      (settles : Settles h (moved h c m) d) (before : Holds run) where
    abbrev all : IsRun h first (past ++ m ∷ []) d
    all = Goes past c m d run ready settles

    longer : length (past ++ m ∷ []) ≡ length past + 1
    longer = length-append past (m ∷ [])

    asker_before : (k : ℕ) → k < length past → asker_at all k ≡ asker_at run k
    asker_before k low = rw (lt-ltb k (length past) low) refl

    asker_now : (k : ℕ) → k ≡ length past → asker_at all k ≡ asker h c m.who
    asker_now k here = rw (le-ltb k (length past) (omega (arith, here))) refl

    world_before : (k : ℕ) → k ≤ length past → world_at all k ≡ world_at run k
    world_before k low = rw (le-leb k (length past) low) refl

    core_before : (k : ℕ) → k ≤ length past → core_at all k ≡ core_at run k
    core_before k low = rw (le-leb k (length past) low) refl

    -- none of the cores before has more ends than the one behind all moves so far
    ends_before : (i : ℕ) → i ≤ length past → length (core_at all i).ends ≤ length c.ends
    ends_before i low = subst (λ (x : Core S A V). length x.ends ≤ length c.ends) (sym (core_before i low)) (before.shorter i low)

    longer_by : (v : Core S A V) → length c.ends ≤ length v.ends → (i : ℕ) → i < length (past ++ m ∷ []) → length (core_at all i).ends ≤ length v.ends
    longer_by v more i low = let short = ends_before i (omega (arith, low, longer)) in omega (arith, short, more)

    shorter_on : length c.ends ≤ length d.ends → (i : ℕ) → i ≤ length (past ++ m ∷ []) → length (core_at all i).ends ≤ length d.ends
    shorter_on more i low = by (splits i (length past) (omega (arith, low, longer)))
      where
        by : (i ≤ length past) ⊎ (i ≡ length past + 1) → length (core_at all i).ends ≤ length d.ends
        by (inl under) = let short = ends_before i under in omega (arith, short, more)
        by (inr last) =
            let at : core_at all i ≡ d = ap (λ (j : ℕ). core_at all j) (let same : i ≡ length (past ++ m ∷ []) = omega (arith, last, longer) in same)
            ∙ core_now h first all in
            subst (λ (x : Core S A V). length x.ends ≤ length d.ends) (sym at) (let same : length d.ends ≤ length d.ends = omega arith in same)

    asks_on : (k begun : ℕ) (s : S) → k < length past → AsksAt run k begun s → AsksAt all k begun s
    asks_on k begun s low its = record { stage = its.stage; words = its.words; asked = its.asked; asks = asker_before k low ∙ its.asks }

    end_on : (ends : List (JobEnd A)) (job : J) (end : JobEnd A) → EndIs run ends job end → EndIs all ends job end
    unfolding asks_on
    end_on ends job (Worked end begun last) its =
        let by = its.2 in
        let low = by.order.1 in
        let up = by.order.0 in (
          its.0,
          its.1,
          record {
            order = (up, omega (arith, low, longer));
            begins = asks_on begun begun its.0 (omega (arith, up, low)) by.begins;
            state = by.state;
            comes = by.comes;
            ends = asks_on last begun by.state low by.ends;
            move = by.move;
            its = got_front past (m ∷ []) last low ∙ by.its;
            stops = subst (λ (w : World). h.machine.head (heard h.machine by.state (said_of w (event_of w (asks.Call by.ends.stage by.ends.words) by.move)))
                ≡ Stops end)
                (sym (world_before last (omega (arith, low)))) by.stops;
          },
          ap (λ (x : Core S A V). x.ends) (core_before last (omega (arith, low))) ∙ its.3,
        )
    end_on ends job (Idle why) its =
        let at = its.1 in
        let low = at.within in
        let same : core_at all its.0 ≡ core_at run its.0 = core_before its.0 low in (
          its.0,
          record {
            within = omega (arith, low, longer);
            there = ap (λ (x : Core S A V). slice_get x.ends (length ends)) same ∙ at.there;
            not_before = λ i under. subst (λ (x : Core S A V). length x.ends ≤ length ends) (sym (core_before i (omega (arith, low, under))))
                (at.not_before i under);
            due = subst (λ (x : Core S A V). IsDueNow h (with_ends x ends) job) (sym same) at.due;
            so = subst (λ (x : Core S A V). EndsFor h (with_ends x ends) job why) (sym same) at.so;
          },
        )

    ended_on : EndsSo all c.ends
    unfolding EndsSo
    ended_on index end got = let its = before.ended index end got in (its.0, its.1, end_on (take index c.ends) its.0 end its.2)

    -- what is kept where a job is still at work
    still_working : (k : Work S) (s : S) (job : J) → current h c ≡ Some job → h.begins job c.ends ≡ Some s → k.begun < length past + 1
        → AsksAt all k.begun k.begun s → Comes h.machine s k.state → d.ends ≡ c.ends →
        (job : J) × (current h d ≡ Some job) × (s : S) × (h.begins job d.ends ≡ Some s) × (k.begun < length (past ++ m ∷ [])) × AsksAt all k.begun k.begun s
        × Comes h.machine s k.state
    still_working k s job its starts low asks comes same = (
      job,
      ap (λ (es : List (JobEnd A)). slice_get h.jobs (length es)) same ∙ its,
      s,
      ap (h.begins job) same
          ∙ starts,
      omega (arith, low, longer),
      asks,
      comes,
    )

    by_others : (ask : Ask) → Settles h (others_moved h c (event_of c.world ask m)) d → Holds all
    by_others ask settling =
        let v : Core S A V = others_moved h c (event_of c.world ask m) in
        let same = settled_work v d settling in
        let counted = before.events in
        let count = same.1 in
        record {
          events = omega (arith, count, counted, longer);
          working = λ k works. (let its = before.working k (sym same.0 ∙ works) in
              let low = its.4 in
              still_working k its.2 its.0 its.1 its.3 (omega (arith, low)) (asks_on k.begun k.begun its.2 low its.5) its.6
              (settled_still v d k settling (sym same.0 ∙ works)));
          shorter = shorter_on (settled_longer v d settling);
          ended = unmoved all v d settling (core_now h first all) (longer_by v (let same : length c.ends ≤ length v.ends = omega arith in same)) ended_on;
        }

    record Begun (begun : ℕ) (t : S) : Type 0 where
      job : J
      its : current h c ≡ Some job
      start : S
      starts : h.begins job c.ends ≡ Some start
      low : begun < length past + 1
      asks : AsksAt all begun begun start
      comes : Comes h.machine start t

    begun_by : (begun : ℕ) (t : S) (stage : Stage) (words : List ℕ) → asker h c m.who ≡ Job begun t stage words → Begun begun t
    begun_by begun t stage words e = by c.work refl
      where
        asks_it : JobAsks h c m.who begun t stage words
        asks_it = job_of h c m.who begun t stage words e

        its_work : Option (Work S)
        its_work = Some (record { begun = begun; state = t })

        by : (o : Option (Work S)) → c.work ≡ o → Begun begun t
        by (Some k) works =
            let both = goes_on_work c.events (h.begins asks_it.job c.ends) k begun t
            (subst (λ o. work_of c.events o (h.begins asks_it.job c.ends) ≡ its_work) works asks_it.work) in
            let its = before.working k works in
            let low = its.4 in
            let asks = subst (λ (b : ℕ). AsksAt all b b its.2) both.0 (asks_on k.begun k.begun its.2 low its.5) in
            let same = both.0 in
            record {
              job = its.0;
              its = its.1;
              start = its.2;
              starts = its.3;
              low = omega (arith, low, same);
              asks = asks;
              comes = subst (Comes h.machine its.2) both.1 its.6;
            }
        by None idle =
            let both = begins_work c.events (h.begins asks_it.job c.ends) begun t
            (subst (λ o. work_of c.events o (h.begins asks_it.job c.ends) ≡ its_work) idle asks_it.work) in
            let now : begun ≡ length past = sym both.0 ∙ before.events in
            record {
              job = asks_it.job;
              its = asks_it.its;
              start = t;
              starts = both.1;
              low = omega (arith, now);
              asks = record { stage = stage; words = words; asked = asks_it.asked; asks = asker_now begun now ∙ e };
              comes = At_first;
            }

    by_job : (begun : ℕ) (t : S) (stage : Stage) (words : List ℕ) → asker h c m.who ≡ Job begun t stage words
        → Settles h (job_hears h c (event_of c.world (asks.Call stage words) m) begun t) d → Holds all
    by_job begun t stage words e settling = by (h.machine.head later) refl settling
      where
        event : Event
        event = event_of c.world (asks.Call stage words) m

        later : S
        later = heard h.machine t (said_of c.world event)

        -- the world before the move
        world_there : world_at all c.events ≡ c.world
        world_there = world_before c.events (let counted = before.events in omega (arith, counted))
            ∙ (ap (λ (i : ℕ). world_at run i) before.events ∙ (its_events h first run).last)

        asks_it : JobAsks h c m.who begun t stage words
        asks_it = job_of h c m.who begun t stage words e

        its : Begun begun t
        its = begun_by begun t stage words e

        same_work : (a b : Work S) → Some a ≡ Some b → a ≡ b
        same_work a b e = cc

        by : (head : Head A) → h.machine.head later ≡ head → Settles h (job_moved h c event begun later head) d → Holds all
        by (Asks more given) asks_on settling =
            let v : Core S A V = job_moved h c event begun later (Asks more given) in
            let same = settled_work v d settling in
            let counted = before.events in
            let count = same.1 in
            let work : Work S = record { begun = begun; state = later } in
            record {
              events = omega (arith, count, counted, longer);
              working = λ k works. (let here : work ≡ k = same_work work k (sym same.0 ∙ works) in
                  let start : begun ≡ k.begun = ap (λ (x : Work S). x.begun) here in
                  let low = its.low in
                  still_working k its.start its.job its.its its.starts (omega (arith, low, start)) (subst (λ (b : ℕ). AsksAt all b b its.start) start its.asks)
                  (subst (Comes h.machine its.start) (ap (λ (x : Work S). x.state) here) (Hears t (said_of c.world event) its.comes))
                  (settled_still v d work settling refl));
              shorter = shorter_on (settled_longer v d settling);
              ended = unmoved all v d settling (core_now h first all) (longer_by v (let same : length c.ends ≤ length v.ends = omega arith in same)) ended_on;
            }
        by (Stops end) stops settling =
            let v : Core S A V = job_moved h c event begun later (Stops end) in
            let same = settled_work v d settling in
            let counted = before.events in
            let count = same.1 in
            let more : length c.ends ≤ length v.ends = (let one = length-append c.ends (Worked end begun c.events ∷ []) in omega (arith, one)) in
            let much = settled_longer v d settling in
            record {
              events = omega (arith, count, counted, longer);
              shorter = shorter_on (omega (arith, more, much));
              working = λ k works. (let none = sym same.0 ∙ works in absurd (cc));
              ended = unmoved all v d settling (core_now h first all) (longer_by v more)
                  (pushed all c.ends (Worked end begun c.events) its.job ended_on its.its now);
            }
          where
            now : EndIs all c.ends its.job (Worked end begun c.events)
            now =
                let counted = before.events in
                let low = its.low in (
                  its.start,
                  its.starts,
                  record {
                    order = (omega (arith, low, counted), omega (arith, counted, longer));
                    begins = its.asks;
                    state = t;
                    comes = its.comes;
                    ends = record { stage = stage; words = words; asked = asks_it.asked; asks = asker_now c.events counted ∙ e };
                    move = m;
                    its = ap (slice_get (past ++ m ∷ [])) counted ∙ got_last past m;
                    stops = subst (λ (w : World). h.machine.head (heard h.machine t (said_of w (event_of w (asks.Call stage words) m))) ≡ Stops end)
                        (sym world_there) stops;
                  },
                  ap (λ (x : Core S A V). x.ends) (core_before c.events (omega (arith, counted))
                      ∙ (ap (λ (i : ℕ). core_at run i) counted ∙ core_now h first run)),
                )

    on : Holds all
    on = by (asker h c m.who) refl ready settles
      where
        by : (a : Asker S) → asker h c m.who ≡ a → IsReadyBy h c m a → Settles h (moved_by h c m a) d → Holds all
        by Nobody e now settling = absurd now
        by (Others ask) e now settling = by_others ask settling
        by (Job begun t stage words) e now settling = by_job begun t stage words e settling

  ends_none : (es : List (JobEnd A)) → es ≡ [] → EndsSo Begins es
  unfolding EndsSo
  ends_none [] none index end got = cc
  ends_none (x ∷ xs) none index end got = cc

  holds : IsStart first → {c : Core S A V} {past : List Move} (run : IsRun h first past c) → Holds run
  holds start Begins = record {
    events = start.events;
    shorter = λ i low. (let same : length first.ends ≤ length first.ends = omega arith in same);
    working = λ k works. (let idle = start.work in absurd (cc));
    ended = ends_none first.ends start.ends;
  }
  holds start (Goes past c m d run ready settles) = on past c m d run ready settles (holds start run)

pub ends_are_so : {J S A V : Type 0} → EndsAreSo J S A V
unfolding EndsSo
ends_are_so h first c past run start index end got = (holds h first start run).ended index end got
