-- Running: a ready move of a thread that runs is quiet, whatever its instruction; those of a burst are such moves.
use Rattle.std.proofs.Common.{◌≡◌, ℕ, zero, suc, Bool, true, false, is_some, List, [], ◌∷◌, replicate, Option, Some, None, option_map}
use Rattle.std.proofs.Common.{refl, sym, ap, subst, ◌∙◌}
use Rattle.fk_model.specs.declared.instruction.Act.{Act}
use Rattle.fk_model.specs.declared.instruction.Act.TheVariants.{Put, Jump, Load, Store, Halt, Call}
use Rattle.fk_model.specs.declared.moves.Ask.TheVariants as asks
use Rattle.fk_model.specs.declared.moves.Move.{Move}
use Rattle.fk_model.specs.declared.stage.Stage.{Stage}
use Rattle.fk_model.specs.declared.statuses.halt.TheConstants.{BAD_ADDRESS, MISSING_PAGE}
use Rattle.fk_model.specs.Calls.{todo_of}
use Rattle.fk_model.specs.Holds.{is_free}
use Rattle.fk_model.specs.Instructions.{act}
use Rattle.fk_model.specs.Moves.{IsReady, with_pick, goes_on, user_move, outcome, stepped, step}
use Rattle.fk_model.specs.Objects.{Mode, Fault, Thread, Body, and_then}
use Rattle.fk_model.specs.Objects.Body.{Thread_of}
use Rattle.fk_model.specs.Objects.Mode.{Running}
use Rattle.fk_model.specs.Outcomes.{Outcome, Said, when}
use Rattle.fk_model.specs.Outcomes.Outcome.{Refused, Waits, Goes}
use Rattle.fk_model.specs.Outcomes.Said.{Nothing}
use Rattle.fk_model.specs.Places.{Path}
use Rattle.fk_model.specs.Reach.{Reach, reach_word}
use Rattle.fk_model.specs.Reach.Reach.{Home, Missing, Bad}
use Rattle.fk_model.specs.Readers.{accessed}
use Rattle.fk_model.specs.Runs.{Event, after, run}
use Rattle.fk_model.specs.Searches.{thread_at}
use Rattle.fk_model.specs.UserRows.{halts_with, word_at, loads, stores, enters, performs, executes, run_row, run_row_by}
use Rattle.fk_model.specs.Valid.{birth_of, IsPaged}
use Rattle.fk_model.specs.Who.{named, space_born, event_of}
use Rattle.fk_model.specs.World.{World, Change, edited, apply, apply_all}
use Rattle.fk_model.specs.World.Change.{Alter, PutPage}
use Rattle.fk_model.specs.World.Edit.{Proceed, SetFault}
use Rattle.laws_bursts.specs.Bursts.{Burst, instructed, made}
use Rattle.laws_bursts.specs.Laws.{IsWhereItBegan, HasPages, committed, move_of, LeadQuietly}
use Rattle.laws_bursts.proofs.Moves.{bursts_are_moves_lem, instructed-used}
use Rattle.laws_runs.specs.Cores.{House}
use Rattle.laws_turns.specs.Quiet.{HearNothing, ThreadsRun, IsNoPorter, IsRunningMove, LeadRunning, RunningMovesAreQuiet, BurstsRun}
use Rattle.laws_turns.specs.Turns.{IsUnheard, AreUnheard}
use Rattle.laws_turns.proofs.Quiets.{asks_run, no-end, last-ready, last-goes, has-thread}
use Rattle.laws_turns.proofs.Stays.{IsAlike, alike_at, committed_alike, some-proceeds, birth-proceeds, talk-proceeds, talk_in}
use Rattle.laws_turns.proofs.Stays.{born-same, client-same, gone-there, gone-here}

-- ---- a fault leaves objects, birth numbers and talks

some-faults : (fault : Option Fault) (o : Option Body) → is_some (option_map (edited (SetFault fault)) o) ≡ is_some o
some-faults fault None = refl
some-faults fault (Some b) = refl

birth-faults : (fault : Option Fault) (o : Option Body) → and_then birth_of (option_map (edited (SetFault fault)) o) ≡ and_then birth_of o
unfolding edited
birth-faults fault None = refl
birth-faults fault (Some (Thread_of t)) = refl
birth-faults fault (Some b) = refl

talk-faults : (fault : Option Fault) (o : Option Body) → talk_in (option_map (edited (SetFault fault)) o) ≡ talk_in o
unfolding edited
talk-faults fault None = refl
talk-faults fault (Some (Thread_of t)) = refl
talk-faults fault (Some b) = refl

-- ---- an instruction does, and tells nothing

record IsCalmly (w : World) (cs : List Change) (said : Said) : Type 0 where
  alike : IsAlike w (apply_all cs w)
  nothing : said ≡ Nothing

abbrev IsCalm : World → Outcome → Type 0
IsCalm w (Goes cs said) = IsCalmly w cs said
IsCalm w Waits = Unit {0}
IsCalm w (Refused status) = Unit {0}

proceeds-calm : (w : World) (me : Path) (mode : Mode) (counter : ℕ) → IsCalmly w (Alter me (Proceed mode counter) ∷ []) Nothing
unfolding apply_all apply
proceeds-calm w me mode counter = record {
  alike = alike_at w me (option_map (edited (Proceed mode counter))) w.page (some-proceeds mode counter) (birth-proceeds mode counter)
      (talk-proceeds mode counter);
  nothing = refl;
}

writes-calm : (w : World) (me : Path) (mode : Mode) (counter : ℕ) (s : Path) (page : ℕ) (words : List ℕ) →
    IsCalmly w (PutPage s page words ∷ Alter me (Proceed mode counter) ∷ []) Nothing
unfolding apply_all apply
writes-calm w me mode counter s page words = record {
  alike = alike_at w me (option_map (edited (Proceed mode counter))) (apply (PutPage s page words) w).page (some-proceeds mode counter)
      (birth-proceeds mode counter) (talk-proceeds mode counter);
  nothing = refl;
}

faults-calm : (w : World) (me : Path) (fault : Option Fault) → IsCalmly w (Alter me (SetFault fault) ∷ []) Nothing
unfolding apply_all apply
faults-calm w me fault = record {
  alike = alike_at w me (option_map (edited (SetFault fault))) w.page (some-faults fault) (birth-faults fault) (talk-faults fault);
  nothing = refl;
}

accessed-calm : (w : World) (me : Path) (write : Bool) (halts : ℕ → Outcome) (go : Path → ℕ → Outcome) (r : Reach) → ((n : ℕ) → IsCalm w (halts n)) →
    ((s : Path) (page : ℕ) → IsCalm w (go s page)) → IsCalm w (accessed me write halts go r)
accessed-calm w me write halts go (Home s page) halt goes = goes s page
accessed-calm w me write halts go (Missing s page None) halt goes = halt MISSING_PAGE
accessed-calm w me write halts go (Missing s page (Some port)) halt goes = faults-calm w me _
accessed-calm w me write halts go Bad halt goes = halt BAD_ADDRESS

module _ (w : World) (space me : Path) (g : List ℕ) (counter : ℕ) where
  enters-calm : (o : Option (List Stage)) → IsCalm w (enters me g counter o)
  enters-calm None = proceeds-calm w me _ _
  enters-calm (Some todo) = proceeds-calm w me _ _

  performs-calm : (a : Act) → IsCalm w (performs todo_of w space me g counter a)
  performs-calm (Put register value) = proceeds-calm w me _ _
  performs-calm (Jump to) = proceeds-calm w me _ _
  performs-calm (Load register address) = accessed-calm w me false (halts_with me g counter) (loads w me g counter register address)
      (reach_word w space address false) (λ n. proceeds-calm w me _ _) (λ s page. proceeds-calm w me _ _)
  performs-calm (Store address value) = accessed-calm w me true (halts_with me g counter) (stores w me g counter address value)
      (reach_word w space address true) (λ n. proceeds-calm w me _ _) (λ s page. writes-calm w me _ _ s page _)
  performs-calm (Halt code) = proceeds-calm w me _ _
  performs-calm Call = enters-calm (todo_of g)

row-calm : (w : World) (space : Path) (slot : ℕ) (g : List ℕ) (counter : ℕ) → IsCalm w (run_row w space slot g counter)
unfolding run_row_by
row-calm w space slot g counter = accessed-calm w (slot ∷ space) false (halts_with (slot ∷ space) g counter)
    (executes todo_of w space (slot ∷ space) g counter) (reach_word w space counter false) (λ n. proceeds-calm w (slot ∷ space) _ _)
    (λ s page. performs-calm w space (slot ∷ space) g counter (act (word_at w s page counter) g counter))

picked-calm : (w : World) (o : Outcome) → IsCalm w o → IsCalm w (with_pick false None o)
picked-calm w (Refused status) calm = tt
picked-calm w Waits calm = tt
picked-calm w (Goes cs said) calm = calm

when-calm : (w : World) (test : Bool) (o : Outcome) → IsCalm w o → IsCalm w (when test o)
when-calm w true o calm = calm
when-calm w false o calm = tt

user-calm : (w : World) (k : ℕ) (s : Path) (t : Thread) (g : List ℕ) → thread_at w (k ∷ s) ≡ Some t → t.mode ≡ Running g →
    IsCalm w (outcome w (k ∷ s) None asks.Run)
unfolding outcome
user-calm w k s t g there runs = subst (λ o. IsCalm w (user_move w (k ∷ s) None o)) (sym there)
    (when-calm w (is_free w s t) (goes_on w (k ∷ s) None t t.mode)
    (subst (λ (mode : Mode). IsCalm w (goes_on w (k ∷ s) None t mode)) (sym runs)
    (picked-calm w (run_row w s k g t.counter) (row-calm w s k g t.counter))))

stepped-alike : (w : World) (o : Outcome) → IsCalm w o → IsAlike w (stepped w o).world
stepped-alike w (Goes cs said) calm = calm.alike
stepped-alike w Waits calm = record { some = λ q. refl; births = λ q. refl; talks = λ q. refl }
stepped-alike w (Refused status) calm = record { some = λ q. refl; births = λ q. refl; talks = λ q. refl }

stepped-quiet : (w : World) (o : Outcome) → IsCalm w o → (stepped w o).said ≡ Nothing
stepped-quiet w (Goes cs said) calm = calm.nothing
stepped-quiet w Waits calm = refl
stepped-quiet w (Refused status) calm = refl

-- ---- so its move is quiet

event-of : (w : World) (m : Move) → m.pick ≡ None → event_of w asks.Run m ≡ move_of (named w m.who)
event-of w m unpicked = λ i. record { mover = named w m.who; pick = option_map (named w) (unpicked i); ask = asks.Run }

module _ {J S A V : Type 0} (h : House J S A V) (servers : V) (m : Move) (hear : HearNothing h servers) (threads : ThreadsRun h servers)
    (no_porter : IsNoPorter h m) (unpicked : m.pick ≡ None) where
  moves-quietly : (u v : World) → IsRunningMove m u v → IsUnheard h servers m u v
  unfolding step
  moves-quietly u v move = record {
    runs = λ ends work events. asks_run h servers m u ends work events no_porter (threads u m move.thread move.there);
    ready = move.ready;
    goes = move.goes;
    unheard = hear u (event_of u asks.Run m) quiet (λ port. no-end _ _ (sym (client-same u (after u (event_of u asks.Run m)) goes_alike port)));
    gone = gone-there u v alike;
    comes = gone-here u v alike;
  }
    where
      calm : IsCalm u (outcome u (named u m.who) None asks.Run)
      calm = user-calm u m.who.slot (space_born u m.who.space) move.thread move.registers move.there move.runs

      goes_alike : IsAlike u (after u (event_of u asks.Run m))
      goes_alike = subst (λ (e : Event). IsAlike u (after u e)) (sym (event-of u m unpicked)) (stepped-alike u (outcome u (named u m.who) None asks.Run) calm)

      quiet : (step u (named u m.who) (event_of u asks.Run m).pick asks.Run).said ≡ Nothing
      quiet = subst (λ (e : Event). (step u e.mover e.pick e.ask).said ≡ Nothing) (sym (event-of u m unpicked))
          (stepped-quiet u (outcome u (named u m.who) None asks.Run) calm)

      alike : IsAlike u v
      alike = subst (IsAlike u) move.goes goes_alike

  move-quietly : (n : ℕ) (w v : World) → LeadRunning m n w v → AreUnheard h servers m n w v
  move-quietly zero w v led = led
  move-quietly (suc n) w v led = (led.0, move-quietly n w led.0 led.1, moves-quietly led.0 v led.2)

pub running_moves_are_quiet_lem : {J S A V : Type 0} → RunningMovesAreQuiet J S A V
running_moves_are_quiet_lem h servers m n w v hear threads no_porter unpicked led = move-quietly h servers m hear threads no_porter unpicked n w v led

-- where at least one is made the thread runs when the first begins
pub first-runs : (m : Move) (n : ℕ) (w v : World) → LeadRunning m (suc n) w v →
    (t : Thread) × (g : List ℕ) × (thread_at w (named w m.who) ≡ Some t) × (t.mode ≡ Running g)
first-runs m zero w v led = subst (λ u. (t : Thread) × (g : List ℕ) × (thread_at u (named u m.who) ≡ Some t) × (t.mode ≡ Running g)) (sym led.1)
    (led.2.thread, led.2.registers, led.2.there, led.2.runs)
first-runs m (suc n) w v led = first-runs m n w led.0 led.1

-- ---- bursts

module _ (m : Move) (w : World) (b : Burst) (unpicked : m.pick ≡ None) (paged : IsPaged w) (began : IsWhereItBegan w (named w m.who) b) where
  abbrev x : Path
  x = named w m.who

  abbrev behind : Burst → World
  behind c = committed w x c

  named-behind : (c : Burst) → named (behind c) m.who ≡ x
  named-behind c = ap (λ (s : Path). m.who.slot ∷ s) (born-same w (behind c) (committed_alike w x c) m.who.space)

  event-behind : (c : Burst) → event_of (behind c) asks.Run m ≡ move_of x
  event-behind c = event-of (behind c) m unpicked ∙ ap move_of (named-behind c)

  runs-so : (n : ℕ) (c : Burst) → made n b ≡ Some c → HasPages w x c b → LeadRunning m n w (behind c)
  unfolding made run
  runs-so zero c is has = (bursts_are_moves_lem w m.who.slot (space_born w m.who.space) zero b c paged began is has).world
  runs-so (suc n) c is has = by (made n b) refl is (λ d so pages. runs-so n d so pages)
    where
      by : (o : Option Burst) → made n b ≡ o → and_then instructed o ≡ Some c →
          ((d : Burst) → made n b ≡ Some d → HasPages w x d b → LeadRunning m n w (behind d)) → LeadRunning m (suc n) w (behind c)
      by None so is rest = absurd (cc)
      by (Some d) so next rest = (behind d, rest d so pages, move)
        where
          pages : HasPages w x d b
          pages page used = has page (instructed-used d c page next used)

          before : LeadQuietly w (replicate n (move_of x)) (behind d)
          before = bursts_are_moves_lem w m.who.slot (space_born w m.who.space) n b d paged began so pages

          whole : LeadQuietly w (replicate (suc n) (move_of x)) (behind c)
          whole = bursts_are_moves_lem w m.who.slot (space_born w m.who.space) (suc n) b c paged began is has

          here : (u : Thread) × (thread_at (behind d) x ≡ Some u) × (u.mode ≡ Running d.registers)
          here = has-thread w x d began.thread began.there

          move : IsRunningMove m (behind d) (behind c)
          move = record {
            thread = here.0;
            there = subst (λ (y : Path). thread_at (behind d) y ≡ Some here.0) (sym (named-behind d)) here.1;
            registers = d.registers;
            runs = here.2;
            ready = subst (λ (e : Event). IsReady (behind d) e.mover e.pick e.ask) (sym (event-behind d))
                (subst (λ v. IsReady v x None asks.Run) before.world (last-ready (move_of x) n w whole.legal));
            goes = ap (after (behind d)) (event-behind d) ∙ ap (λ v. after v (move_of x)) (sym before.world) ∙ last-goes (move_of x) n w ∙ whole.world;
          }

pub bursts_run_lem : BurstsRun
bursts_run_lem m w n b c unpicked paged began is has = runs-so m w b unpicked paged began n c is has
