-- A job at work, at the places of its run.
use Rattle.std.proofs.Common.{◌≡◌, ℕ, zero, suc, ◌+◌, ◌<◌, ◌≤◌, true, false, arith, List, [], ◌∷◌, ◌++◌, length, take, IsSome, Option, Some, None, refl, sym}
use Rattle.std.proofs.Common.{ap, ◌∙◌, subst, option_map}
use Rattle.std.specs.List.{slice_get}
use Rattle.std.proofs.lemmas.List.{length-take-le}
use Rattle.fk_model.specs.declared.limits.TheConstants.{LAST_PORTER_SLOT}
use Rattle.fk_model.specs.declared.moves.Ask.{Ask}
use Rattle.fk_model.specs.declared.moves.Ask.TheVariants as asks
use Rattle.fk_model.specs.declared.moves.Move.{Move}
use Rattle.fk_model.specs.declared.stage.Stage.{Stage}
use Rattle.fk_model.specs.Objects.{holds}
use Rattle.fk_model.specs.Places.{Path}
use Rattle.fk_model.specs.StateRows.{is_native}
use Rattle.fk_model.specs.Moves.{chooses}
use Rattle.fk_model.specs.Searches.{depth}
use Rattle.fk_model.specs.World.{World}
use Rattle.fk_model.specs.Runs.{Event, after}
use Rattle.fk_model.specs.Who.{event_of, space_born, named}
use Rattle.fk_model.specs.Sound.{IsClean}
use Rattle.laws_moves.specs.Frozen.Users.{is_users}
use Rattle.laws_moves.specs.Frozen.Holding.{IsUsersMove}
use Rattle.laws_moves.specs.Savable.Savable.{IsSound}
use Rattle.laws_jobs.specs.Machines.{Head, Machine, heard, call_of, said_of, IsReadyAt, IsAtCall, Interleaved, AtWork}
use Rattle.laws_jobs.specs.Machines.Head.{Stops, Asks}
use Rattle.laws_jobs.specs.Machines.Interleaved.{Here, Another, Own}
use Rattle.laws_jobs.specs.Jobs.{MayBegin}
use Rattle.laws_jobs.proofs.Filling.{users_owed}
use Rattle.laws_runs.specs.Cores.{House, JobEnd, Work, Core, current, Asker, asker, work_of, IsReadyBy, others_moved, job_moved, job_hears, moved_by, Settles}
use Rattle.laws_runs.specs.Cores.{IsRun, world_at}
use Rattle.laws_runs.specs.Cores.Asker.{Nobody, Others, Job}
use Rattle.laws_runs.specs.Cores.JobEnd.{Worked}
use Rattle.laws_runs.specs.Composed.{AskAsUsers, JobsMeetContract, IsStart}
use Rattle.laws_runs.specs.Turning.{asker_at}
use Rattle.laws_runs.specs.Events.{core_at, IsTurn}
use Rattle.laws_runs.specs.Placed.{IsOthers, IsPlaced, WorksThere, EndedThere, EndsAreThere}
use Rattle.laws_runs.proofs.Named.{named_is, named_there, unpicked, caller_there, apart_from_porter}
use Rattle.laws_runs.proofs.Asking.{JobAsks, job_of, others_of, goes_on_work, begins_work}
use Rattle.laws_runs.proofs.Composing.{stands, got_within}
use Rattle.laws_runs.proofs.Turning.{moves_in_history}
use Rattle.laws_runs.proofs.Events.{settled_world, core_world, core_begins, turn_at}
use Rattle.laws_runs.proofs.Ended.{settled_work, settled_still, ends_are_so}

module _ {J S A V T B : Type 0} {h : House J S A V} {first c : Core S A V} {past : List Move} (run : IsRun h first past c) (m : Machine T B) (into : T → S)
    (nester : Path) (begun : ℕ) where
  -- ---- one move more, at its place

  others_there : (w : World) (s : T) (es : List Event) (v : World) (t : T) (e : Event) (k n : ℕ) (iv : Interleaved m nester w s es v t)
      → IsPlaced run into begun k iv → k + length es ≡ n →
      IsAtCall m t → IsUsersMove nester v e → IsSound (after v e) → IsOthers (asker_at run n) → after v e ≡ world_at run (n + 1) →
      (more : Interleaved m nester w s (es ++ e ∷ []) (after v e) t) × IsPlaced run into begun k more
  others_there _ _ _ _ _ e k n (Here w s sound) at place on move later theirs goes =
      let same : n ≡ k = omega (arith, place) in (
        Another w s e [] (after w e) s sound on move (Here (after w e) s later),
        (at, subst (λ i. IsOthers (asker_at run i)) same theirs, goes ∙ ap (λ i. world_at run (i + 1)) same),
      )
  others_there _ _ _ _ _ e k n (Another w s x es v t sound works other rest) at place on move later theirs goes =
      let more = others_there (after w x) s es v t e (k + 1) n rest at.2 (omega (arith, place)) on move later theirs goes in
      (Another w s x (es ++ e ∷ []) (after v e) t sound works other more.0, (at.0, at.1, more.1))
  others_there _ _ _ _ _ e k n (Own w s stage words es v t sound asked ready rest) at place on move later theirs goes =
      let more = others_there (after w (call_of nester stage words)) (heard m s (said_of w (call_of nester stage words))) es v t e (k + 1) n rest at.2
      (omega (arith, place)) on move later theirs goes in
      (Own w s stage words (es ++ e ∷ []) (after v e) t sound asked ready more.0, (at.0, at.1, more.1))

  own_there : (w : World) (s : T) (es : List Event) (v : World) (t : T) (stage : Stage) (words : List ℕ) (k n : ℕ) (iv : Interleaved m nester w s es v t)
      → IsPlaced run into begun k iv → k + length es ≡ n →
      m.head t ≡ Asks stage words → IsReadyAt v (call_of nester stage words) → IsSound (after v (call_of nester stage words))
      → asker_at run n ≡ Job begun (into t) stage words →
      after v (call_of nester stage words) ≡ world_at run (n + 1) →
      (more : Interleaved m nester w s (es ++ call_of nester stage words ∷ []) (after v (call_of nester stage words))
      (heard m t (said_of v (call_of nester stage words)))) × IsPlaced run into begun k more
  own_there _ _ _ _ _ stage words k n (Here w s sound) at place asked ready later mine goes =
      let e = call_of nester stage words in
      let same : n ≡ k = omega (arith, place) in (
        Own w s stage words [] (after w e) (heard m s (said_of w e)) sound asked ready (Here (after w e) (heard m s (said_of w e)) later),
        (at, subst (λ i. asker_at run i ≡ Job begun (into s) stage words) same mine, goes ∙ ap (λ i. world_at run (i + 1)) same),
      )
  own_there _ _ _ _ _ stage words k n (Another w s x es v t sound works other rest) at place asked ready later mine goes =
      let e = call_of nester stage words in
      let more = own_there (after w x) s es v t stage words (k + 1) n rest at.2 (omega (arith, place)) asked ready later mine goes in
      (Another w s x (es ++ e ∷ []) (after v e) (heard m t (said_of v e)) sound works other more.0, (at.0, at.1, more.1))
  own_there _ _ _ _ _ stage words k n (Own w s early given es v t sound was went rest) at place asked ready later mine goes =
      let e = call_of nester stage words in
      let more = own_there (after w (call_of nester early given)) (heard m s (said_of w (call_of nester early given))) es v t stage words (k + 1) n rest at.2
      (omega (arith, place)) asked ready later mine goes in
      (Own w s early given (es ++ e ∷ []) (after v e) (heard m t (said_of v e)) sound was went more.0, (at.0, at.1, more.1))

module _ {J S A V : Type 0} (h : House J S A V) (first : Core S A V) (users : AskAsUsers h) (tidy : JobsMeetContract h)
    (start : IsStart first) {c : Core S A V} {past : List Move} (run : IsRun h first past c)
    (left : first.world.next + length past ≤ depth) where
  abbrev at : ℕ → Core S A V
  at k = core_at run k

  sound : (k : ℕ) → k ≤ length past → IsSound (world_at run k)
  sound k low = (stands h first users tidy start run left).sound k low

  here : (k : ℕ) → (at k).world ≡ world_at run k
  here k = core_world h first run k

  -- a job at work, up to a place
  record There (k begun : ℕ) (t : S) : Type 0 where
    job : J
    its : current h (at k) ≡ Some job
    begins : S
    starts : h.begins job (at k).ends ≡ Some begins
    nester : Path
    may : MayBegin (world_at run begun) nester (h.nester job)
    work : AtWork h.machine nester (world_at run begun) begins (world_at run k) t
    there : WorksThere run (λ (s : S). s) begun work
    long : begun + 1 + length work.events ≡ k

  -- its machine has a call to make
  record Goes_on (k begun : ℕ) (t : S) : Type 0 where
    it : There k begun t
    on : IsAtCall h.machine t

  -- with one move more, in the world that this leaves
  record Longer (k begun : ℕ) (nester : Path) (begins t : S) (v : World) : Type 0 where
    work : AtWork h.machine nester (world_at run begun) begins v t
    there : WorksThere run (λ (s : S). s) begun work
    long : begun + 1 + length work.events ≡ k + 1

  longer_length : {X : Type 0} (xs : List X) (y : X) → length (xs ++ y ∷ []) ≡ length xs + 1
  longer_length [] y = refl
  longer_length (x ∷ xs) y = let rest = longer_length xs y in omega (arith, rest)

  -- ---- others move

  by_others : (k : ℕ) → k < length past → (begun : ℕ) (t : S) (its : There k begun t) (m : Move) (ask : Ask) → asker_at run k ≡ Others ask
      → is_users ask ≡ true → IsReadyAt (at k).world (event_of (at k).world ask m) →
      world_at run (k + 1) ≡ after (world_at run k) (event_of (at k).world ask m) → IsAtCall h.machine t
      → Longer k begun its.nester its.begins t (world_at run (k + 1))
  by_others k low begun t its m ask theirs is ready goes on =
      let w : World = world_at run k in
      let e : Event = event_of (at k).world ask m in
      let now = sound k (omega (arith, low)) in
      let later = sound (k + 1) (omega (arith, low)) in
      let law = tidy (length (at k).ends) its.job (at k).ends its.begins its.its its.starts in
      let porter = law.stays (world_at run begun) its.nester w t its.may its.work on.0 on.1 on.2 in
      let native : holds is_native ((at k).world.body (LAST_PORTER_SLOT ∷ its.nester)) ≡ true =
      subst (λ (u : World). holds is_native (u.body (LAST_PORTER_SLOT ∷ its.nester)) ≡ true) (sym (here k)) porter.porter in
      let proper = users_owed w (named (at k).world m.who) ask is in
      let move : IsUsersMove its.nester w e = record {
        valid = now.whole.valid;
        few = now.whole.few;
        fit = proper.0;
        ready = subst (λ (u : World). IsReadyAt u e) (here k) ready;
        users = is;
        other = apart_from_porter (at k).world (LAST_PORTER_SLOT ∷ its.nester) (named (at k).world m.who)
            (option_map (named (at k).world) m.pick) ask native is ready;
      } in
      let work = its.work in
      let long = its.long in
      let more = others_there run h.machine (λ (s : S). s) its.nester begun _ _ work.events w t e (begun + 1) k work.run its.there.placed long on move
      (subst IsSound goes later) (rw theirs tt) (sym goes) in
      let grows = longer_length work.events e in
      subst (λ (v : World). Longer k begun its.nester its.begins t v) (sym goes) (record {
        work = record { stage = work.stage; words = work.words; asked = work.asked; ready = work.ready; events = work.events ++ e ∷ []; run = more.0 };
        there = record { first_asks = its.there.first_asks; placed = more.1 };
        long = omega (arith, grows, long);
      })

  -- ---- the job moves

  -- the job whose move it is, with that move
  record Moves (k begun : ℕ) (t : S) (stage : Stage) (words : List ℕ) (m : Move) : Type 0 where
    job : J
    its : current h (at k) ≡ Some job
    begins : S
    starts : h.begins job (at k).ends ≡ Some begins
    nester : Path
    may : MayBegin (world_at run begun) nester (h.nester job)
    longer : Longer k begun nester begins (heard h.machine t (said_of (world_at run k) (event_of (world_at run k) (asks.Call stage words) m)))
        (world_at run (k + 1))

  same_event : (w : World) (m : Move) (nester : Path) (stage : Stage) (words : List ℕ) → m.who.slot ≡ LAST_PORTER_SLOT → space_born w m.who.space ≡ nester
      → chooses stage ≡ false →
      IsReadyAt w (event_of w (asks.Call stage words) m) → event_of w (asks.Call stage words) m ≡ call_of nester stage words
  same_event w m nester stage words slot space unpicking ready =
      let none = unpicked w (named w m.who) stage words unpicking (option_map (named w) m.pick) ready in
      λ i. record { mover = slot i ∷ space i; pick = none i; ask = asks.Call stage words }

  module _ (k : ℕ) (low : k < length past) (begun : ℕ) (t : S) (stage : Stage) (words : List ℕ) (m : Move) (mine : asker_at run k ≡ Job begun t stage words)
      (asks_it : JobAsks h (at k) m.who begun t stage words)
      (ready : IsReadyAt (world_at run k) (event_of (world_at run k) (asks.Call stage words) m))
      (goes : world_at run (k + 1) ≡ after (world_at run k) (event_of (world_at run k) (asks.Call stage words) m)) where
    abbrev w : World
    w = world_at run k

    abbrev event : Event
    event = event_of (world_at run k) (asks.Call stage words) m

    later_sound : IsSound (after w event)
    later_sound = subst IsSound goes (sound (k + 1) (omega (arith, low)))

    by_later : There k begun t → Moves k begun t stage words m
    by_later its =
        let now = sound k (omega (arith, low)) in
        let law = tidy (length (at k).ends) its.job (at k).ends its.begins its.its its.starts in
        let porter = law.stays (world_at run begun) its.nester w t its.may its.work stage words asks_it.asked in
        let owed = law.later (world_at run begun) its.nester w t its.may its.work stage words asks_it.asked in
        let same_job : asks_it.job ≡ its.job = (let one = asks_it.its in let two = its.its in cc) in
        let there = named_is w now.whole.valid now.whole.few (h.nester its.job) its.nester porter.named in
        let is = same_event w m its.nester stage words asks_it.slot (ap (space_born w) (asks_it.space ∙ ap h.nester same_job) ∙ there) owed.unpicking ready in
        let call = call_of its.nester stage words in
        let work = its.work in
        let long = its.long in
        let more = own_there run h.machine (λ (s : S). s) its.nester begun _ _ work.events w t stage words
        (begun + 1) k work.run its.there.placed long asks_it.asked (subst (IsReadyAt w) is ready)
        (subst (λ e. IsSound (after w e)) is later_sound) mine (sym (goes ∙ ap (after w) is)) in
        let grows = longer_length work.events call in
        record {
          job = its.job;
          its = its.its;
          begins = its.begins;
          starts = its.starts;
          nester = its.nester;
          may = its.may;
          longer = subst (λ (e : Event). Longer k begun its.nester its.begins (heard h.machine t (said_of w e)) (world_at run (k + 1))) (sym is)
              (subst (λ (v : World). Longer k begun its.nester its.begins (heard h.machine t (said_of w call)) v) (sym (goes ∙ ap (after w) is)) (record {
                work = record {
                  stage = work.stage;
                  words = work.words;
                  asked = work.asked;
                  ready = work.ready;
                  events = work.events ++ call
                      ∷ [];
                  run = more.0;
                };
                there = record { first_asks = its.there.first_asks; placed = more.1 };
                long = omega (arith, grows, long);
              }));
        }

    by_first : begun ≡ k → h.begins asks_it.job (at k).ends ≡ Some t → Moves k begun t stage words m
    by_first now_here starts =
        let now = sound k (omega (arith, low)) in
        let birth = h.nester asks_it.job in
        let nester = space_born w birth in
        let there : IsSome (w.body (m.who.slot ∷ space_born w m.who.space)) = caller_there w (named w m.who) (option_map (named w) m.pick) stage words ready in
        let at_space = named_there w now.whole.valid now.whole.few birth m.who.slot (rw (asks_it.space) at there) in
        let clean = (moves_in_history h first c past run users tidy start left k begun t stage words low mine).may.clean in
        let may : MayBegin w nester birth = record { sound = now; clean = subst (λ (i : ℕ). IsClean (world_at run i)) now_here clean; named = at_space } in
        let owed = (tidy (length (at k).ends) asks_it.job (at k).ends t asks_it.its starts).first w nester may stage words asks_it.asked in
        let is = same_event w m nester stage words asks_it.slot (ap (space_born w) asks_it.space) owed.unpicking ready in
        let call = call_of nester stage words in
        let final = after w call in
        let more : Longer k k nester t (heard h.machine t (said_of w call)) final = record {
          work = record {
            stage = stage;
            words = words;
            asked = asks_it.asked;
            ready = subst (IsReadyAt w) is ready;
            events = [];
            run = Here (after w call) (heard h.machine t (said_of w call)) (subst (λ e. IsSound (after w e)) is later_sound);
          };
          there = record { first_asks = subst (λ (i : ℕ). asker_at run k ≡ Job i t stage words) now_here mine; placed = sym (goes ∙ ap (after w) is) };
          long = omega arith;
        } in
        record {
          job = asks_it.job;
          its = asks_it.its;
          begins = t;
          starts = starts;
          nester = nester;
          may = subst (λ (i : ℕ). MayBegin (world_at run i) nester birth) (sym now_here) may;
          longer = subst (λ (i : ℕ). Longer k i nester t (heard h.machine t (said_of w event)) (world_at run (k + 1))) (sym now_here)
              (subst (λ (e : Event). Longer k k nester t (heard h.machine t (said_of w e)) (world_at run (k + 1))) (sym is)
              (subst (λ (v : World). Longer k k nester t (heard h.machine t (said_of w call)) v) (sym (goes ∙ ap (after w) is)) more));
        }

  -- ---- from place to place

  -- what a turn for a job says
  record Turned (k : ℕ) (begun : ℕ) (t : S) (stage : Stage) (words : List ℕ) (m : Move) : Type 0 where
    mine : asker_at run k ≡ Job begun t stage words
    asks_it : JobAsks h (at k) m.who begun t stage words
    ready : IsReadyAt (world_at run k) (event_of (world_at run k) (asks.Call stage words) m)
    goes : world_at run (k + 1) ≡ after (world_at run k) (event_of (world_at run k) (asks.Call stage words) m)

  turned : (k begun : ℕ) (t : S) (stage : Stage) (words : List ℕ) (m : Move) → asker_at run k ≡ asker h (at k) m.who
      → asker h (at k) m.who ≡ Job begun t stage words →
      IsReadyAt (at k).world (event_of (at k).world (asks.Call stage words) m)
      → Settles h (job_hears h (at k) (event_of (at k).world (asks.Call stage words) m) begun t) (at (k + 1)) → Turned k begun t stage words m
  turned k begun t stage words m asked e ready settling = record {
    mine = asked ∙ e;
    asks_it = job_of h (at k) m.who begun t stage words e;
    ready = subst (λ (u : World). IsReadyAt u (event_of u (asks.Call stage words) m)) (here k) ready;
    goes = sym (here (k + 1)) ∙ (settled_world h first (job_hears h (at k) event begun t) (at (k + 1)) settling
        ∙ (job_world (heard h.machine t (said_of (at k).world event)) (h.machine.head (heard h.machine t (said_of (at k).world event)))
        ∙ ap (λ (u : World). after u (event_of u (asks.Call stage words) m)) (here k)));
  }
    where
      event : Event
      event = event_of (at k).world (asks.Call stage words) m

      job_world : (later : S) (head : Head A) → (job_moved h (at k) event begun later head).world ≡ after (at k).world event
      job_world later (Asks more given) = refl
      job_world later (Stops end) = refl

  moves_at : (k : ℕ) → k < length past → ((w : Work S) → (at k).work ≡ Some w → Goes_on k w.begun w.state)
      → (begun : ℕ) (t : S) (stage : Stage) (words : List ℕ) (m : Move) → (at k).events ≡ k → Turned k begun t stage words m → Moves k begun t stage words m
  moves_at k low before begun t stage words m events turn = by (at k).work refl
    where
      its_work : Option (Work S)
      its_work = Some (record { begun = begun; state = t })

      by : (o : Option (Work S)) → (at k).work ≡ o → Moves k begun t stage words m
      by (Some x) works =
          let both = goes_on_work (at k).events (h.begins turn.asks_it.job (at k).ends) x begun t
          (subst (λ o. work_of (at k).events o (h.begins turn.asks_it.job (at k).ends) ≡ its_work) works turn.asks_it.work) in
          let it = (before x works).it in
          by_later k low begun t stage words m turn.mine turn.asks_it turn.ready turn.goes
          (subst (λ (b : ℕ). There k b t) both.0 (subst (λ (s : S). There k x.begun s) both.1 it))
      by None idle =
          let both = begins_work (at k).events (h.begins turn.asks_it.job (at k).ends) begun t
          (subst (λ o. work_of (at k).events o (h.begins turn.asks_it.job (at k).ends) ≡ its_work) idle turn.asks_it.work) in
          by_first k low begun t stage words m turn.mine turn.asks_it turn.ready turn.goes (sym both.0 ∙ events) both.1

  -- as many events as moves
  events_at : (k : ℕ) → k ≤ length past → (at k).events ≡ k
  events_at zero low = ap (λ (x : Core S A V). x.events) (core_begins h first run) ∙ start.events
  events_at (suc k) low = subst (λ (i : ℕ). (at i).events ≡ i) (let same : k + 1 ≡ suc k = omega arith in same)
      (next (turn_at h first run k (omega (arith, low))) (events_at k (omega (arith, low))))
    where
      next : IsTurn h past k (at k) (at (k + 1)) (asker_at run k) → (at k).events ≡ k → (at (k + 1)).events ≡ k + 1
      next turn before = by (asker h (at k) turn.move.who) refl turn.ready turn.settles
        where
          job_events : (event : Event) (begun : ℕ) (later : S) (head : Head A) → (job_moved h (at k) event begun later head).events ≡ (at k).events + 1
          job_events event begun later (Asks stage words) = refl
          job_events event begun later (Stops end) = refl

          by : (a : Asker S) → asker h (at k) turn.move.who ≡ a → IsReadyBy h (at k) turn.move a → Settles h (moved_by h (at k) turn.move a) (at (k + 1))
              → (at (k + 1)).events ≡ k + 1
          by Nobody e now settling = absurd now
          by (Others ask) e now settling = (settled_work h first (others_moved h (at k) (event_of (at k).world ask turn.move)) (at (k + 1)) settling).1
              ∙ ap (λ i. i + 1) before
          by (Job begun t stage words) e now settling =
              let event = event_of (at k).world (asks.Call stage words) turn.move in
              let later = heard h.machine t (said_of (at k).world event) in
              (settled_work h first (job_hears h (at k) event begun t) (at (k + 1)) settling).1
              ∙ (job_events event begun later (h.machine.head later) ∙ ap (λ i. i + 1) before)

  there_next : (k : ℕ) → k < length past → ((w : Work S) → (at k).work ≡ Some w → Goes_on k w.begun w.state) → (w : Work S) → (at (k + 1)).work ≡ Some w
      → Goes_on (k + 1) w.begun w.state
  there_next k low before w works = on (turn_at h first run k low)
    where
      on : IsTurn h past k (at k) (at (k + 1)) (asker_at run k) → Goes_on (k + 1) w.begun w.state
      on turn = by (asker h (at k) turn.move.who) refl turn.ready turn.settles
        where
          m : Move
          m = turn.move

          others : (ask : Ask) → asker h (at k) turn.move.who ≡ Others ask → IsReadyAt (at k).world (event_of (at k).world ask turn.move)
              → Settles h (others_moved h (at k) (event_of (at k).world ask turn.move)) (at (k + 1)) → Goes_on (k + 1) w.begun w.state
          others ask e now settling =
              let event = event_of (at k).world ask turn.move in
              let v = others_moved h (at k) event in
              let was = sym (settled_work h first v (at (k + 1)) settling).0 ∙ works in
              let same = settled_still h first v (at (k + 1)) w settling was in
              let so = before w was in
              let its = so.it in
              let is = others_of h (at k) turn.move.who users ask e in
              let goes = sym (here (k + 1)) ∙ (settled_world h first v (at (k + 1)) settling ∙ ap (λ (u : World). after u event) (here k)) in
              let more = by_others k low w.begun w.state its turn.move ask (turn.asks ∙ e) is.0 now goes so.on in
              record {
                it = record {
                  job = its.job;
                  its = ap (λ (es : List (JobEnd A)). slice_get h.jobs (length es)) same ∙ its.its;
                  begins = its.begins;
                  starts = ap (h.begins its.job) same ∙ its.starts;
                  nester = its.nester;
                  may = its.may;
                  work = more.work;
                  there = more.there;
                  long = more.long;
                };
                on = so.on;
              }

          jobs : (begun : ℕ) (t : S) (stage : Stage) (words : List ℕ) → asker h (at k) turn.move.who ≡ Job begun t stage words
              → IsReadyAt (at k).world (event_of (at k).world (asks.Call stage words) turn.move) →
              (head : Head A) → h.machine.head (heard h.machine t (said_of (at k).world (event_of (at k).world (asks.Call stage words) turn.move))) ≡ head →
              Settles h (job_hears h (at k) (event_of (at k).world (asks.Call stage words) turn.move) begun t) (at (k + 1)) →
              Settles h (job_moved h (at k) (event_of (at k).world (asks.Call stage words) turn.move) begun
              (heard h.machine t (said_of (at k).world (event_of (at k).world (asks.Call stage words) turn.move))) head) (at (k + 1))
              → Goes_on (k + 1) w.begun w.state
          jobs begun t stage words e now (Stops end) stops whole settling =
              let event = event_of (at k).world (asks.Call stage words) turn.move in
              let v = job_moved h (at k) event begun (heard h.machine t (said_of (at k).world event)) (Stops end) in
              let none = sym (settled_work h first v (at (k + 1)) settling).0 ∙ works in
              absurd (cc)
          jobs begun t stage words e now (Asks more given) asks_on whole settling =
              let event = event_of (at k).world (asks.Call stage words) turn.move in
              let later = heard h.machine t (said_of (at k).world event) in
              let v = job_moved h (at k) event begun later (Asks more given) in
              let work : Work S = record { begun = begun; state = later } in
              let is : work ≡ w = same_work work w (sym (settled_work h first v (at (k + 1)) settling).0 ∙ works) in
              let same = settled_still h first v (at (k + 1)) work settling refl in
              let its = moves_at k low before begun t stage words turn.move (events_at k (omega (arith, low)))
              (turned k begun t stage words turn.move turn.asks e now whole) in
              let heard_there : heard h.machine t (said_of (world_at run k) (event_of (world_at run k) (asks.Call stage words) turn.move)) ≡ later =
              ap (λ (u : World). heard h.machine t (said_of u (event_of u (asks.Call stage words) turn.move))) (sym (here k)) in
              let long = subst (λ (s : S). Longer k begun its.nester its.begins s (world_at run (k + 1))) heard_there its.longer in
              subst (λ (x : Work S). Goes_on (k + 1) x.begun x.state) is (record {
                it = record {
                  job = its.job;
                  its = ap (λ (es : List (JobEnd A)). slice_get h.jobs (length es)) same ∙ its.its;
                  begins = its.begins;
                  starts = ap (h.begins its.job) same ∙ its.starts;
                  nester = its.nester;
                  may = its.may;
                  work = long.work;
                  there = long.there;
                  long = long.long;
                };
                on = (more, given, asks_on);
              })
            where
              same_work : (a b : Work S) → Some a ≡ Some b → a ≡ b
              same_work a b e = cc

          by : (a : Asker S) → asker h (at k) turn.move.who ≡ a → IsReadyBy h (at k) turn.move a → Settles h (moved_by h (at k) turn.move a) (at (k + 1))
              → Goes_on (k + 1) w.begun w.state
          by Nobody e now settling = absurd now
          by (Others ask) e now settling = others ask e now settling
          by (Job begun t stage words) e now settling =
              jobs begun t stage words e now.1 (h.machine.head
              (heard h.machine t (said_of (at k).world (event_of (at k).world (asks.Call stage words) turn.move)))) refl settling settling

  there_at : (k : ℕ) → k ≤ length past → (w : Work S) → (at k).work ≡ Some w → Goes_on k w.begun w.state
  there_at zero low w works = let idle = ap (λ (x : Core S A V). x.work) (core_begins h first run) ∙ start.work in let both = sym works ∙ idle in absurd (cc)
  there_at (suc k) low w works =
      let same : k + 1 ≡ suc k = omega arith in
      subst (λ (i : ℕ). Goes_on i w.begun w.state) same
      (there_next k (omega (arith, low)) (there_at k (omega (arith, low))) w (ap (λ (i : ℕ). (at i).work) same ∙ works))

  -- ---- ends

  ended_there : (index : ℕ) (end : A) (begun last : ℕ) → slice_get c.ends index ≡ Some (Worked end begun last) → EndedThere run index end begun last
  ended_there index end begun last ended =
      let so = ends_are_so h first c past run start index (Worked end begun last) ended in
      let by = so.2.2 in
      let low = by.order.1 in
      let turn = turn_at h first run last low in
      let moves : turn.move ≡ by.move = (let one = turn.its in let two = by.its in cc) in
      let asked : asker h (at last) turn.move.who ≡ Job begun by.state by.ends.stage by.ends.words = sym turn.asks ∙ by.ends.asks in
      let settling = subst (λ a. Settles h (moved_by h (at last) turn.move a) (at (last + 1))) asked turn.settles in
      let ready = subst (λ a. IsReadyBy h (at last) turn.move a) asked turn.ready in
      let its = moves_at last low (there_at last (omega (arith, low))) begun by.state by.ends.stage by.ends.words turn.move
      (events_at last (omega (arith, low)))
      (turned last begun by.state by.ends.stage by.ends.words turn.move turn.asks asked ready.1 settling) in
      let before : (at last).ends ≡ take index c.ends = so.2.3 in
      let count : length (take index c.ends) ≡ index = length-take-le index c.ends (let within = got_within c.ends index (Worked end begun last) ended in
      omega (arith, within)) in
      let long = its.longer in
      record {
        job = its.job;
        start = its.begins;
        nester = its.nester;
        its = ap (slice_get h.jobs) (sym (ap (λ (es : List (JobEnd A)). length es) before ∙ count)) ∙ its.its;
        starts = ap (h.begins its.job) (sym before) ∙ its.starts;
        may = its.may;
        state = heard h.machine by.state (said_of (world_at run last) (event_of (world_at run last) (asks.Call by.ends.stage by.ends.words) turn.move));
        work = long.work;
        long = (let length_is = long.long in omega (arith, length_is));
        there = long.there;
        stopped = ap (λ (m : Move). h.machine.head
            (heard h.machine by.state (said_of (world_at run last) (event_of (world_at run last) (asks.Call by.ends.stage by.ends.words) m)))) moves ∙ by.stops;
      }

pub ends_are_there : {J S A V : Type 0} → EndsAreThere J S A V
ends_are_there h first c past run users tidy start left index end begun last ended = ended_there h first users tidy start run left index end begun last ended
