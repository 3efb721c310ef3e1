-- A job's move, in the run in which it is made: whose call it is, and from where on the job has worked. What a job's own law says
-- of each of its calls is so said of each of its moves.
use Rattle.std.specs.Prelude.{◌≡◌, ◌⊎◌, ℕ, ◌+◌, ◌<◌, ◌≤◌, nat_lt, List, length, Some, if◌then◌else◌}
use Rattle.std.specs.List.{slice_get}
use Rattle.fk_model.specs.declared.moves.Ask.TheVariants as asks
use Rattle.fk_model.specs.declared.moves.Move.{Move}
use Rattle.fk_model.specs.declared.stage.Stage.{Stage}
use Rattle.fk_model.specs.Places.{Path}
use Rattle.fk_model.specs.Searches.{depth}
use Rattle.fk_model.specs.Valid.{birth_at}
use Rattle.fk_model.specs.Who.{event_of}
use Rattle.fk_model.specs.Runs.{after}
use Rattle.laws_jobs.specs.Machines.{call_of, IsReadyAt, AtWork}
use Rattle.laws_jobs.specs.Machines.Head.{Asks}
use Rattle.laws_runs.specs.Cores.{JobEnd, House, Core, IsRun, Asker, current, asker, IsReadyIn, world_at}
use Rattle.laws_runs.specs.Cores.Asker.{Nobody, Job}
use Rattle.laws_runs.specs.Cores.IsRun.{Begins, Goes}
use Rattle.laws_jobs.specs.Jobs.{MayBegin}
use Rattle.laws_runs.specs.Composed.{AskAsUsers, JobsMeetContract, IsStart}

pub record IsJobsMove {J S A V : Type 0} {h : House J S A V} {first c : Core S A V} {past : List Move} (run : IsRun h first past c) (m : Move)
    (begun : ℕ) (t : S) (stage : Stage) (words : List ℕ) : Type 0 where
  pub job : J
  pub start : S
  pub nester : Path
  pub its : current h c ≡ Some job
  pub starts : h.begins job c.ends ≡ Some start
  pub may : MayBegin (world_at run begun) nester (h.nester job)
  pub stays : birth_at c.world nester ≡ Some (h.nester job)
  pub space : m.who.space ≡ h.nester job
  pub event : event_of c.world (asks.Call stage words) m ≡ call_of nester stage words
  pub asked : h.machine.head t ≡ Asks stage words
  -- it is the job's first move, or one of its later ones
  pub at : ((begun ≡ length past) × (t ≡ start)) ⊎ AtWork h.machine nester (world_at run begun) start c.world t

-- a move of a job is its machine's call at that moment, in a run in which the job has worked alone among others
abbrev pub JobsMoves : Type 0 → Type 0 → Type 0 → Type 0 → Type 0
JobsMoves J S A V = (h : House J S A V) (first c : Core S A V) (past : List Move) (run : IsRun h first past c) →
    AskAsUsers h → JobsMeetContract h → IsStart first → first.world.next + length past ≤ depth →
    (m : Move) (begun : ℕ) (t : S) (stage : Stage) (words : List ℕ) → asker h c m.who ≡ Job begun t stage words → IsReadyIn h c m →
    IsJobsMove run m begun t stage words

-- ---- each of a run's moves, at its place

-- who asked for the move with an index
abbrev pub asker_at : {J S A V : Type 0} {h : House J S A V} {first c : Core S A V} {past : List Move} → IsRun h first past c → ℕ → Asker S
asker_at Begins k = Nobody
asker_at {h = h} (Goes past c m d run ready settles) k = if nat_lt k (length past) then asker_at run k else asker h c m.who

-- a job's move, from the world before it to the world after it
pub record MovesAt {J S A V : Type 0} {h : House J S A V} {first c : Core S A V} {past : List Move} (run : IsRun h first past c) (k begun : ℕ) (t : S)
    (stage : Stage) (words : List ℕ) : Type 0 where
  pub index : ℕ
  pub job : J
  pub ends : List (JobEnd A)
  pub start : S
  pub nester : Path
  pub its : slice_get h.jobs index ≡ Some job
  pub starts : h.begins job ends ≡ Some start
  pub may : MayBegin (world_at run begun) nester (h.nester job)
  pub stays : birth_at (world_at run k) nester ≡ Some (h.nester job)
  -- the move of the history, by the porter of its nester
  pub move : Move
  pub placed : slice_get past k ≡ Some move
  pub space : move.who.space ≡ h.nester job
  pub asked : h.machine.head t ≡ Asks stage words
  pub ready : IsReadyAt (world_at run k) (call_of nester stage words)
  pub goes : world_at run (k + 1) ≡ after (world_at run k) (call_of nester stage words)
  pub at : ((begun ≡ k) × (t ≡ start)) ⊎ AtWork h.machine nester (world_at run begun) start (world_at run k) t

-- each move of a history that a job has made leads from the world before it to the world after it by a call of its machine
abbrev pub JobsMovesInHistory : Type 0 → Type 0 → Type 0 → Type 0 → Type 0
JobsMovesInHistory J S A V = (h : House J S A V) (first c : Core S A V) (past : List Move) (run : IsRun h first past c) →
    AskAsUsers h → JobsMeetContract h → IsStart first → first.world.next + length past ≤ depth →
    (k begun : ℕ) (t : S) (stage : Stage) (words : List ℕ) → k < length past → asker_at run k ≡ Job begun t stage words → MovesAt run k begun t stage words
