-- Instructions of a thread, one after the other, are quiet turns.
use Rattle.std.proofs.Common.{◌≡◌, ℕ, zero, suc, ◌<◌, ◌≤◌, Bool, true, false, cond, List, [], ◌∷◌, map, Option, Some, None, option_map, refl, sym, ap, subst}
use Rattle.std.proofs.Common.{◌∙◌, arith}
use Rattle.fk_host.specs.Hosts.{IsQuietTurn, AreQuietTurns}
use Rattle.fk_model.specs.declared.moves.Ask.{Ask}
use Rattle.fk_model.specs.declared.moves.Ask.TheVariants as asks
use Rattle.fk_model.specs.declared.moves.Move.{Move}
use Rattle.fk_model.specs.declared.names.Who.{Who}
use Rattle.fk_model.specs.Endings.{has_ended}
use Rattle.fk_model.specs.Moves.{outcome, step, stepped}
use Rattle.fk_model.specs.Objects.{Body, Mode, Thread, thread_of, and_then}
use Rattle.fk_model.specs.Objects.Body.{Port, Thread_of}
use Rattle.fk_model.specs.Objects.Mode.{Running}
use Rattle.fk_model.specs.Outcomes.{Outcome}
use Rattle.fk_model.specs.Outcomes.Said.{Nothing}
use Rattle.fk_model.specs.Places.{Path}
use Rattle.fk_model.specs.Runs.{Event, after}
use Rattle.fk_model.specs.Searches.{depth, thread_at}
use Rattle.fk_model.specs.Valid.{IsValid, is_fit}
use Rattle.fk_model.specs.Who.{event_of, named}
use Rattle.fk_model.specs.World.{World, apply, apply_all}
use Rattle.fk_natives.specs.Natives as natives
use Rattle.fk_served.specs.Kernels.{Kept}
use Rattle.fk_served.specs.Kernels.{world_of as world}
use Rattle.fk_served.specs.Served.{Services, asked, hears_of, news_at, after_news, said_at, servers}
use Rattle.laws_moves.proofs.InMachine.validity.Steps.{step_keeps_valid_lem}
use Rattle.laws_moves.proofs.InRows.Moves.{moves-listed}
use Rattle.laws_moves.specs.Frozen.Users.{is_users}
use Rattle.laws_moves.specs.Rows.Moves.{Instructs, Serves, Lists}
use Rattle.laws_moves.specs.Rows.Moves.Instructs.{Goes_on, Stores, Faults}
use Rattle.laws_moves.specs.Rows.Moves.Serves.{Waits_for_client, Accepts, Takes_up, Gives_nothing, Finds_no_room, Gives_words, Passes_client}
use Rattle.laws_moves.specs.Rows.Moves.Lists.{Moves_not, Runs, Calls, Is_told_no, Asks, Is_answered_no, Acts}
use Rattle.laws_runs.specs.Cores.{House}
use Rattle.laws_turns.proofs.Running.{running_moves_are_quiet_lem}
use Rattle.laws_turns.specs.Quiet.{LeadRunning, IsRunningMove}
use Rattle.laws_turns.specs.Turns.{IsUnheard}

-- ---- no birth number is given out

abbrev is_on : Mode → Bool
is_on (Running g) = true
is_on other = false

abbrev is_running : Option Thread → Bool
is_running None = false
is_running (Some t) = is_on t.mode

instructs : {w : World} {space : Path} {slot : ℕ} {g : List ℕ} {counter : ℕ} {o : Outcome} → Instructs w space slot g counter o →
    (stepped w o).world.next ≡ w.next
unfolding apply_all apply
instructs (Goes_on mode to goes) = refl
instructs (Stores address value s page home) = refl
instructs (Faults s page address write port missing) = refl

serves : {w : World} {port : Path} {pick : Option Path} {ask : Ask} {o : Outcome} → Serves w port pick ask o → (stepped w o).world.next ≡ w.next
unfolding apply_all apply
serves (Waits_for_client ask) = refl
serves (Accepts x t serving there free connects) = refl
serves (Takes_up x t talk serving there free parked) = refl
serves (Gives_nothing words len) = refl
serves (Finds_no_room words len x t receive there is full) = refl
serves (Gives_words words len x t receive s page there is home) = refl
serves (Passes_client x to at awaits) = refl

lists : (w : World) (x : Path) (pick : Option Path) (ask : Ask) (o : Outcome) → is_users ask ≡ true → is_running (thread_at w x) ≡ true → Lists w x pick ask o →
    (stepped w o).world.next ≡ w.next
unfolding apply_all apply
lists w x pick _ _ user is (Moves_not ask) = refl
lists w x pick _ _ user is (Runs t g o there free at by) = instructs by
lists w x pick _ _ user is (Calls t stage todo rest cs said there free at users by) = absurd (let h = rw (there, at) at is in cc)
lists w x pick _ _ user is (Is_told_no t stage todo rest status there free at) = refl
lists w x pick _ _ user is (Asks t stage words cs said there unheld porter by) = cc
lists w x pick _ _ user is (Is_answered_no t stage words status there) = refl
lists w x pick _ _ user is (Acts ask o by) = serves by

next-stays : (w : World) (x : Path) (pick : Option Path) → is_running (thread_at w x) ≡ true → (step w x pick asks.Run).world.next ≡ w.next
unfolding step
next-stays w x pick is = lists w x pick asks.Run (outcome w x pick asks.Run) refl is (moves-listed w x pick asks.Run)

-- ---- no server hears of it

unheard : (services : Services) (w : World) (e : Event) → (step w e.mover e.pick e.ask).said ≡ Nothing →
    ((port : Path) → has_ended w (after w e) port ≡ false) → map (hears_of w e) services ≡ services
unheard [] w e quiet ends = refl
unheard (s ∷ ss) w e quiet ends = ap (λ x. x ∷ map (hears_of w e) ss) here ∙ ap (λ xs. s ∷ xs) (unheard ss w e quiet ends)
  where
    none : (port : Path) → news_at w e port ≡ None
    none port = ap (λ t. cond t (Some natives.Ended) (said_at (step w e.mover e.pick e.ask).said port)) (ends port) ∙ ap (λ said. said_at said port) quiet

    here : hears_of w e s ≡ s
    here = ap (λ news. (s.0, after_news news s.1)) (none (named w s.0))

-- a thread asks to run
thread-runs : (services : Services) (w : World) (who : Who) (t : Thread) → thread_at w (named w who) ≡ Some t → asked services w who ≡ Some asks.Run
thread-runs services w who t there = by (w.body (named w who)) refl there
  where
    by : (o : Option Body) → w.body (named w who) ≡ o → and_then thread_of o ≡ Some t → asked services w who ≡ Some asks.Run
    by (Some (Thread_of own)) e h = rw e refl
    by (Some (Port set served)) e h = absurd (cc)
    by (Some b) e h = rw e refl
    by None e h = rw e refl

-- a house of these servers without jobs
abbrev alone : House ⊥ ⊥ ⊥ Services
alone = record {
  jobs = [];
  machine = record { head = λ s. absurd s; next = λ s status words. s };
  nester = λ j. absurd j;
  at = λ j. absurd j;
  begins = λ j ended. None;
  servers = servers;
}

-- ---- turns

module _ (services : Services) (m : Move) (unpicked : m.pick ≡ None) where
  quiet : (w v : World) → IsRunningMove m w v → IsUnheard alone services m w v
  quiet w v move =
      let one = running_moves_are_quiet_lem alone services m 1 w v (λ u e. unheard services u e) (λ u n t there. thread-runs services u n.who t there) (λ j. absurd j)
      unpicked (w, refl, move) in
      subst (λ (u : World). IsUnheard alone services m u v) (sym one.1) one.2

  turn : (w v : World) → IsValid w → w.next ≤ depth → IsRunningMove m w v → IsQuietTurn services m w v
  turn w v valid few move = record {
    runs = thread-runs services w m.who move.thread move.there;
    valid = valid;
    few = few;
    ready = move.ready;
    goes = move.goes;
    hears = (quiet w v move).unheard;
  }

  keeps : (w v : World) → IsValid w → w.next ≤ depth → IsRunningMove m w v → IsValid v × (v.next ≡ w.next)
  unfolding is_fit
  keeps w v valid few move =
      let e = event_of w asks.Run m in
      let on : is_running (thread_at w (named w m.who)) ≡ true = ap is_running move.there ∙ ap is_on move.runs in (
        subst IsValid move.goes (step_keeps_valid_lem w e.mover e.pick asks.Run valid few refl),
        ap (λ (u : World). u.next) (sym move.goes) ∙ next-stays w e.mover e.pick on,
      )

  pub turns : (n : ℕ) (w v : World) → IsValid w → w.next ≤ depth → LeadRunning m n w v →
      AreQuietTurns services m n w v × IsValid v × (v.next ≡ w.next)
  turns zero w v valid few led = (led, subst IsValid led valid, ap (λ (u : World). u.next) (sym led))
  turns (suc n) w v valid few led =
      let past = turns n w led.0 valid few led.1 in
      let fewer : led.0.next ≤ depth = subst (λ (k : ℕ). k ≤ depth) (sym past.2) few in
      let kept = keeps led.0 v past.1 fewer led.2 in
      ((led.0, past.0, turn led.0 v past.1 fewer led.2), kept.0, kept.1 ∙ past.2)

-- moves of a thread, or none
pub leads : (m : Move) (n : ℕ) (k l : Kept) → (n ≡ 0 → l ≡ k) → (0 < n → LeadRunning m n (world k) (world l)) → LeadRunning m n (world k) (world l)
leads m zero k l none led = sym (ap (λ (o : Kept). world o) (none refl))
leads m (suc n) k l none led = led (omega arith)
