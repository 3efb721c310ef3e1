-- Quiet: bursts of a thread, in a run.
use Rattle.std.specs.Prelude.{◌≡◌, ℕ, zero, suc, false, List, Some, None}
use Rattle.fk_model.specs.declared.moves.Ask.TheVariants as asks
use Rattle.fk_model.specs.declared.moves.Move.{Move}
use Rattle.fk_model.specs.Endings.{has_ended}
use Rattle.fk_model.specs.Moves.{step}
use Rattle.fk_model.specs.Objects.{Thread}
use Rattle.fk_model.specs.Objects.Mode.{Running}
use Rattle.fk_model.specs.Outcomes.Said.{Nothing}
use Rattle.fk_model.specs.Places.{Path}
use Rattle.fk_model.specs.Runs.{Event, after}
use Rattle.fk_model.specs.Searches.{thread_at}
use Rattle.fk_model.specs.Valid.{IsPaged}
use Rattle.fk_model.specs.Who.{named, event_of}
use Rattle.fk_model.specs.World.{World}
use Rattle.laws_bursts.specs.Bursts.{Burst, made}
use Rattle.laws_bursts.specs.Laws.{IsWhereItBegan, HasPages, committed}
use Rattle.laws_jobs.specs.Machines.{IsReadyAt}
use Rattle.laws_runs.specs.Cores.{House, is_porter_of}
use Rattle.laws_turns.specs.Turns.{AreUnheard}

-- servers hear nothing of what tells nothing and ends no talk of theirs
abbrev pub HearNothing : {J S A V : Type 0} → House J S A V → V → Type 0
HearNothing h servers = (w : World) (e : Event) → (step w e.mover e.pick e.ask).said ≡ Nothing → ((port : Path) → has_ended w (after w e) port ≡ false) →
    h.servers.hears servers w e ≡ servers

-- whoever is a thread asks to run, as far as servers go
abbrev pub ThreadsRun : {J S A V : Type 0} → House J S A V → V → Type 0
ThreadsRun h servers = (w : World) (m : Move) (t : Thread) → thread_at w (named w m.who) ≡ Some t → h.servers.asks servers w m.who ≡ Some asks.Run

-- the name is no job's porter's
abbrev pub IsNoPorter : {J S A V : Type 0} → House J S A V → Move → Type 0
IsNoPorter {J} h m = (j : J) → is_porter_of (h.nester j) m.who ≡ false

-- so many instructions of a burst are as many quiet moves of its thread
abbrev pub BurstsAreQuiet : Type 0 → Type 0 → Type 0 → Type 0 → Type 0
BurstsAreQuiet J S A V = (h : House J S A V) (servers : V) (m : Move) (w : World) (n : ℕ) (b c : Burst) →
    HearNothing h servers → ThreadsRun h servers → IsNoPorter h m → m.pick ≡ None →
    IsPaged w → IsWhereItBegan w (named w m.who) b → made n b ≡ Some c → HasPages w (named w m.who) c b →
    AreUnheard h servers m n w (committed w (named w m.who) c)

-- ---- moves of a thread that runs

-- a move that is ready leads from one world to another, and is that of a thread that runs
pub record IsRunningMove (m : Move) (u v : World) : Type 0 where
  pub thread : Thread
  pub there : thread_at u (named u m.who) ≡ Some thread
  pub registers : List ℕ
  pub runs : thread.mode ≡ Running registers
  pub ready : IsReadyAt u (event_of u asks.Run m)
  pub goes : after u (event_of u asks.Run m) ≡ v

-- and so many of them do
abbrev pub LeadRunning : Move → ℕ → World → World → Type 0
LeadRunning m zero w v = w ≡ v
LeadRunning m (suc n) w v = (u : World) × LeadRunning m n w u × IsRunningMove m u v

-- so many ready moves of a thread that runs are as many quiet moves, whatever its instructions
abbrev pub RunningMovesAreQuiet : Type 0 → Type 0 → Type 0 → Type 0 → Type 0
RunningMovesAreQuiet J S A V = (h : House J S A V) (servers : V) (m : Move) (n : ℕ) (w v : World) →
    HearNothing h servers → ThreadsRun h servers → IsNoPorter h m → m.pick ≡ None → LeadRunning m n w v → AreUnheard h servers m n w v

-- and those of a burst are such moves
abbrev pub BurstsRun : Type 0
BurstsRun = (m : Move) (w : World) (n : ℕ) (b c : Burst) → m.pick ≡ None →
    IsPaged w → IsWhereItBegan w (named w m.who) b → made n b ≡ Some c → HasPages w (named w m.who) c b →
    LeadRunning m n w (committed w (named w m.who) c)
