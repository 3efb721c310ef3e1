-- How each job of a run has ended, and by which moves of the history.
use Rattle.std.specs.Prelude.{◌≡◌, ℕ, ◌<◌, ◌≤◌, List, length, take, Some}
use Rattle.std.specs.List.{slice_get}
use Rattle.fk_model.specs.declared.moves.Move.{Move}
use Rattle.fk_model.specs.declared.stage.Stage.{Stage}
use Rattle.fk_model.specs.Outcomes.{Said}
use Rattle.fk_model.specs.declared.moves.Ask.TheVariants as asks
use Rattle.fk_model.specs.Who.{event_of}
use Rattle.laws_jobs.specs.Machines.{Machine, heard, said_of}
use Rattle.laws_jobs.specs.Machines.Head.{Stops, Asks}
use Rattle.laws_runs.specs.Cores.{Unmoved, JobEnd, House, Core, IsDueNow, EndsFor, IsRun, world_at}
use Rattle.laws_runs.specs.Cores.JobEnd.{Worked, Idle}
use Rattle.laws_runs.specs.Cores.Asker.{Job}
use Rattle.laws_runs.specs.Composed.{IsStart}
use Rattle.laws_runs.specs.Turning.{asker_at}
use Rattle.laws_runs.specs.Events.{core_at}

-- a move of the history that a job asks for in a state
pub record AsksAt {J S A V : Type 0} {h : House J S A V} {first c : Core S A V} {past : List Move} (run : IsRun h first past c)
    (k begun : ℕ) (s : S) : Type 0 where
  pub stage : Stage
  pub words : List ℕ
  pub asked : h.machine.head s ≡ Asks stage words
  pub asks : asker_at run k ≡ Job begun s stage words

-- what a machine may come to by what it hears
pub data Comes {S A : Type 0} (m : Machine S A) (s : S) : S → Type 0 where
  Begins : Comes m s s
  Hears : (t : S) (said : Said) → Comes m s t → Comes m s (heard m t said)

-- the first and the last move of a job, at their places, and what it heard of the last
pub record EndedBy {J S A V : Type 0} {h : House J S A V} {first c : Core S A V} {past : List Move} (run : IsRun h first past c) (start : S) (end : A)
    (begun last : ℕ) : Type 0 where
  pub order : (begun ≤ last) × (last < length past)
  pub begins : AsksAt run begun begun start
  pub state : S
  pub comes : Comes h.machine start state
  pub ends : AsksAt run last begun state
  -- by the list's move there
  pub move : Move
  pub its : slice_get past last ≡ Some move
  pub stops : h.machine.head (heard h.machine state (said_of (world_at run last) (event_of (world_at run last) (asks.Call ends.stage ends.words) move)))
      ≡ Stops end

-- a core as it was when it had these ends
abbrev pub with_ends : {S A V : Type 0} → Core S A V → List (JobEnd A) → Core S A V
with_ends c ends = record { world = c.world; servers = c.servers; ends = ends; work = c.work; events = c.events }

-- a job ended without a move behind the first k moves of the run, and not before: in the core as it was then, in the world that they
-- leave, it was due, and had no image, or no space was its nester
pub record SettlesAt {J S A V : Type 0} {h : House J S A V} {first c : Core S A V} {past : List Move} (run : IsRun h first past c) (ends : List (JobEnd A))
    (job : J) (why : Unmoved) (k : ℕ) : Type 0 where
  pub within : k ≤ length past
  pub there : slice_get (core_at run k).ends (length ends) ≡ Some (Idle why)
  pub not_before : (i : ℕ) → i < k → length (core_at run i).ends ≤ length ends
  pub due : IsDueNow h (with_ends (core_at run k) ends) job
  pub so : EndsFor h (with_ends (core_at run k) ends) job why

-- by its own moves, or without any
abbrev pub EndIs : {J S A V : Type 0} {h : House J S A V} {first c : Core S A V} {past : List Move} → IsRun h first past c → List (JobEnd A) → J → JobEnd A
    → Type 0
EndIs {S = S} {h = h} run ends job (Worked end begun last) =
    (s : S) × (h.begins job ends ≡ Some s) × EndedBy run s end begun last × ((core_at run last).ends ≡ ends)
EndIs run ends job (Idle why) = (k : ℕ) × SettlesAt run ends job why k

-- so each has ended, by how those before it have
abbrev pub EndsAreSo : Type 0 → Type 0 → Type 0 → Type 0 → Type 0
EndsAreSo J S A V = (h : House J S A V) (first c : Core S A V) (past : List Move) (run : IsRun h first past c) → IsStart first →
    (index : ℕ) (end : JobEnd A) → slice_get c.ends index ≡ Some end → (job : J) × (slice_get h.jobs index ≡ Some job) × EndIs run (take index c.ends) job end
