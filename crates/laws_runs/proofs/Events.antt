-- A history as its events, and as turns from core to core.
use Rattle.std.proofs.Common.{◌≡◌, ℕ, zero, suc, Some, ◌+◌, ◌<◌, ◌≤◌, Bool, true, false, cond, nat_le, List, [], ◌∷◌, ◌++◌, length, take, refl, sym, ap, subst}
use Rattle.std.proofs.Common.{arith, length-append, ◌⊎◌, inl, inr, ◌∙◌}
use Rattle.std.specs.List.{slice_get}
use Rattle.std.proofs.lemmas.Bool.{le-leb, lt-leb, lt-ltb, le-ltb}
use Rattle.std.proofs.lemmas.List.{take-append-le}
use Rattle.fk_model.specs.declared.moves.Ask.TheVariants as asks
use Rattle.fk_model.specs.declared.moves.Move.{Move}
use Rattle.fk_model.specs.World.{World}
use Rattle.fk_model.specs.Runs.{Event, after, IsLegal, run as world_after}
use Rattle.fk_model.specs.Who.{event_of}
use Rattle.laws_jobs.specs.Machines.{Head, heard, said_of, IsReadyAt}
use Rattle.laws_jobs.specs.Machines.Head.{Stops, Asks}
use Rattle.laws_runs.specs.Cores.{House, Core, Asker, asker, IsReadyBy, IsReadyIn, others_moved, job_moved, job_hears, moved_by, moved, with_end, Settles}
use Rattle.laws_runs.specs.Cores.{IsRun, world_at}
use Rattle.laws_runs.specs.Cores.Asker.{Nobody, Others, Job}
use Rattle.laws_runs.specs.Cores.Settles.{Stays, Ends}
use Rattle.laws_runs.specs.Cores.IsRun.{Begins, Goes}
use Rattle.laws_runs.specs.Onwards.{event_by, events_of}
use Rattle.laws_runs.specs.Turning.{asker_at}
use Rattle.laws_runs.specs.Events.{core_at, IsItsEvents, HistoryIsEvents, IsTurn}
use Rattle.laws_runs.proofs.Composing.{splits, take_all}
use Rattle.laws_runs.proofs.Onwards.{run-append, run_nothing, run_one, take_none}

module _ {J S A V : Type 0} (h : House J S A V) (first : Core S A V) where
  pub settled_world : (c d : Core S A V) → Settles h c d → d.world ≡ c.world
  settled_world _ _ (Stays c none) = refl
  settled_world _ _ (Ends c d why now rest) = settled_world (with_end c why) d rest

  -- the event of one move
  pub record MadeBy (c : Core S A V) (m : Move) (d : Core S A V) : Type 0 where
    pub event : Event
    pub is : event_by c.world m (asker h c m.who) ≡ event ∷ []
    pub ready : IsReadyAt c.world event
    pub goes : d.world ≡ after c.world event

  pub made_by : (c : Core S A V) (m : Move) (d : Core S A V) → IsReadyIn h c m → Settles h (moved h c m) d → MadeBy c m d
  made_by c m d ready settles = by (asker h c m.who) refl ready settles
    where
      job_world : (event : Event) (begun : ℕ) (later : S) (head : Head A) → (job_moved h c event begun later head).world ≡ after c.world event
      job_world event begun later (Asks stage words) = refl
      job_world event begun later (Stops end) = refl

      by : (a : Asker S) → asker h c m.who ≡ a → IsReadyBy h c m a → Settles h (moved_by h c m a) d → MadeBy c m d
      by Nobody e now settles = absurd now
      by (Others ask) e now settles =
          record {
            event = event_of c.world ask m;
            is = ap (event_by c.world m) e;
            ready = now;
            goes = settled_world (others_moved h c (event_of c.world ask m)) d settles;
          }
      by (Job begun t stage words) e now settles =
          let event = event_of c.world (asks.Call stage words) m in
          let later = heard h.machine t (said_of c.world event) in
          record {
            event = event;
            is = ap (event_by c.world m) e;
            ready = now.1;
            goes = settled_world (job_hears h c event begun t) d settles ∙ job_world event begun later (h.machine.head later);
          }

pub got_front : {X : Type 0} (xs ys : List X) (k : ℕ) → k < length xs → slice_get (xs ++ ys) k ≡ slice_get xs k
got_front [] ys k low = absurd (omega (arith, low))
got_front (x ∷ xs) ys zero low = refl
got_front (x ∷ xs) ys (suc k) low = got_front xs ys k (omega (arith, low))

pub got_last : {X : Type 0} (xs : List X) (y : X) → slice_get (xs ++ y ∷ []) (length xs) ≡ Some y
got_last [] y = refl
got_last (x ∷ xs) y = got_last xs y

legal-append : (w : World) (es : List Event) (e : Event) → IsLegal w es → IsReadyAt (world_after w es) e → IsLegal w (es ++ e ∷ [])
unfolding world_after
legal-append w [] e legal ready = (ready, tt)
legal-append w (x ∷ es) e legal ready = (legal.0, legal-append (after w x) es e legal.1 ready)

module _ {J S A V : Type 0} (h : House J S A V) (first : Core S A V) where
  -- ---- cores

  pub core_now : {c : Core S A V} {past : List Move} (run : IsRun h first past c) → core_at run (length past) ≡ c
  core_now Begins = refl
  core_now (Goes past c m d run ready settles) = let longer = length-append past (m ∷ []) in
      rw (lt-leb (length (past ++ m ∷ [])) (length past) (omega (arith, longer))) refl

  pub core_begins : {c : Core S A V} {past : List Move} (run : IsRun h first past c) → core_at run 0 ≡ first
  core_begins Begins = refl
  core_begins (Goes past c m d run ready settles) = rw (le-leb 0 (length past) (omega arith)) (core_begins run)

  pub core_world : {c : Core S A V} {past : List Move} (run : IsRun h first past c) (k : ℕ) → (core_at run k).world ≡ world_at run k
  core_world Begins k = refl
  core_world (Goes past c m d run ready settles) k = by (nat_le k (length past)) (core_world run k)
    where
      by : (t : Bool) → (core_at run k).world ≡ world_at run k → (cond t (core_at run k) d).world ≡ cond t (world_at run k) d.world
      by true same = same
      by false same = refl

  pub turn_at : {c : Core S A V} {past : List Move} (run : IsRun h first past c) (k : ℕ) → k < length past
      → IsTurn h past k (core_at run k) (core_at run (k + 1)) (asker_at run k)
  turn_at Begins k low = absurd (omega (arith, low))
  turn_at (Goes past c m d run ready settles) k low =
      let longer = length-append past (m ∷ []) in by (splits (k + 1) (length past) (omega (arith, low, longer))) (turn_at run k)
    where
      by : (k + 1 ≤ length past) ⊎ (k + 1 ≡ length past + 1) → (k < length past → IsTurn h past k (core_at run k) (core_at run (k + 1)) (asker_at run k)) →
          IsTurn h (past ++ m ∷ []) k (core_at (Goes past c m d run ready settles) k) (core_at (Goes past c m d run ready settles) (k + 1))
          (asker_at (Goes past c m d run ready settles) k)
      by (inl less) earlier =
          rw (le-leb k (length past) (omega (arith, less)), le-leb (k + 1) (length past) less, lt-ltb k (length past) (omega (arith, less)))
          (let turn = earlier (omega (arith, less)) in
          record {
            move = turn.move;
            its = got_front past (m ∷ []) k (omega (arith, less))
                ∙ turn.its;
            asks = turn.asks;
            ready = turn.ready;
            settles = turn.settles;
          })
      by (inr here) earlier =
          rw (le-leb k (length past) (omega (arith, here)), lt-leb (k + 1) (length past) (omega (arith, here)), le-ltb k (length past) (omega (arith, here)))
          (record {
            move = m;
            its = ap (slice_get (past ++ m ∷ [])) (let same : k ≡ length past = omega (arith, here) in same) ∙ got_last past m;
            asks = ap (λ (x : Core S A V). asker h x m.who) (sym now);
            ready = subst (λ (x : Core S A V). IsReadyIn h x m) (sym now) ready;
            settles = subst (λ (x : Core S A V). Settles h (moved h x m) d) (sym now) settles;
          })
        where
          now : core_at run k ≡ c
          now = ap (λ (i : ℕ). core_at run i) (let same : k ≡ length past = omega (arith, here) in same) ∙ core_now run

  -- ---- events

  module _ (past : List Move) (c : Core S A V) (m : Move) (d : Core S A V) (run : IsRun h first past c) (ready : IsReadyIn h c m)
      (settles : Settles h (moved h c m) d) (before : IsItsEvents run) where
    abbrev all : IsRun h first (past ++ m ∷ []) d
    all = Goes past c m d run ready settles

    made : MadeBy h first c m d
    made = made_by h first c m d ready settles

    same : events_of all ≡ events_of run ++ made.event ∷ []
    same = ap (λ ys. events_of run ++ ys) made.is

    longer : length (past ++ m ∷ []) ≡ length past + 1
    longer = length-append past (m ∷ [])

    arrives : world_after first.world (events_of run) ≡ c.world
    arrives =
        let long = before.long in
        ap (world_after first.world) (sym (ap (λ k. take k (events_of run)) (sym long) ∙ take_all (events_of run)))
        ∙ (before.worlds (length past) (omega arith) ∙ before.last)

    latest : (k : ℕ) → k ≡ length past + 1 → world_at all k ≡ d.world
    latest k e = rw (lt-leb k (length past) (omega (arith, e))) refl

    world_on : (k : ℕ) → (k ≤ length past) ⊎ (k ≡ length past + 1) → world_after first.world (take k (events_of all)) ≡ world_at all k
    world_on k (inl low) =
        let long = before.long in
        let there : world_at all k ≡ world_at run k = rw (le-leb k (length past) low) refl in
        ap (λ ys. world_after first.world (take k ys)) same
        ∙ (ap (world_after first.world) (take-append-le k (events_of run) (made.event ∷ []) (omega (arith, low, long))) ∙ (before.worlds k low ∙ sym there))
    world_on k (inr up) =
        let long = before.long in
        let whole = length-append (events_of run) (made.event ∷ []) in
        let enough : k ≡ length (events_of run ++ made.event ∷ []) = omega (arith, up, long, whole) in
        ap (λ ys. world_after first.world (take k ys)) same
        ∙ (ap (world_after first.world) (ap (λ i. take i (events_of run ++ made.event ∷ [])) enough ∙ take_all (events_of run ++ made.event ∷ []))
        ∙ (run-append first.world (events_of run) (made.event ∷ [])
        ∙ (ap (λ (w : World). world_after w (made.event ∷ [])) arrives ∙ (run_one c.world made.event ∙ (sym made.goes ∙ sym (latest k up))))))

    on : IsItsEvents all
    on =
        let long = before.long in
        let whole = length-append (events_of run) (made.event ∷ []) in
        let count : length (events_of all) ≡ length (events_of run ++ made.event ∷ []) = ap (λ (ys : List Event). length ys) same in
        record {
          legal = subst (IsLegal first.world) (sym same)
              (legal-append first.world (events_of run) made.event before.legal (subst (λ (w : World). IsReadyAt w made.event) (sym arrives) made.ready));
          long = omega (arith, count, whole, long, longer);
          worlds = λ k low. world_on k (splits k (length past) (omega (arith, low, longer)));
          last = latest (length (past ++ m ∷ [])) longer;
        }

  pub its_events : {c : Core S A V} {past : List Move} (run : IsRun h first past c) → IsItsEvents run
  its_events Begins = record { legal = tt; long = refl; worlds = λ k low. ap (world_after first.world) (take_none k) ∙ run_nothing first.world; last = refl }
  its_events (Goes past c m d run ready settles) = on past c m d run ready settles (its_events run)

pub history_is_events : {J S A V : Type 0} → HistoryIsEvents J S A V
history_is_events h first c past run = its_events h first run
