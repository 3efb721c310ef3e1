-- A job at work as what a run does at its places: which moves of the history are the job's own, and which are others'.
use Rattle.std.specs.Prelude.{◌≡◌, ℕ, ◌+◌, ◌≤◌, List, length, take, Some}
use Rattle.std.specs.List.{slice_get}
use Rattle.fk_model.specs.declared.moves.Move.{Move}
use Rattle.fk_model.specs.Places.{Path}
use Rattle.fk_model.specs.Runs.{Event}
use Rattle.fk_model.specs.Searches.{depth}
use Rattle.fk_model.specs.World.{World}
use Rattle.laws_jobs.specs.Machines.{Machine, Interleaved, AtWork}
use Rattle.laws_jobs.specs.Machines.Head.{Stops}
use Rattle.laws_jobs.specs.Machines.Interleaved.{Here, Another, Own}
use Rattle.laws_jobs.specs.Jobs.{MayBegin}
use Rattle.laws_runs.specs.Cores.{House, Core, Asker, IsRun, world_at}
use Rattle.laws_runs.specs.Cores.Asker.{Nobody, Others, Job}
use Rattle.laws_runs.specs.Cores.JobEnd.{Worked}
use Rattle.laws_runs.specs.Composed.{AskAsUsers, JobsMeetContract, IsStart}
use Rattle.laws_runs.specs.Turning.{asker_at}

abbrev pub IsOthers : {S : Type 0} → Asker S → Type 0
IsOthers Nobody = ⊥
IsOthers (Others ask) = Unit {0}
IsOthers (Job begun s stage words) = ⊥

-- an interleaving is what a run does from a place on: its worlds are the run's, others' moves are others' there, and its own moves are
-- those for which the job asks in these very states. (Its machine may be a part of the house's, whose states it has as `into` says)
abbrev pub IsPlaced : {J S A V T B : Type 0} {h : House J S A V} {first c : Core S A V} {past : List Move} → IsRun h first past c → {m : Machine T B}
    → (T → S) →
    (begun : ℕ) {nester : Path} (k : ℕ) {w : World} {s : T} {es : List Event} {v : World} {t : T} → Interleaved m nester w s es v t → Type 0
IsPlaced run into begun k (Here w s sound) = w ≡ world_at run k
IsPlaced run into begun k (Another w s e es v t sound works move rest) = (w ≡ world_at run k) × IsOthers (asker_at run k) × IsPlaced run into begun (k + 1) rest
IsPlaced run into begun k (Own w s stage words es v t sound asked ready rest) =
    (w ≡ world_at run k) × (asker_at run k ≡ Job begun (into s) stage words) × IsPlaced run into begun (k + 1) rest

-- and so from a job's first move on
pub record WorksThere {J S A V T B : Type 0} {h : House J S A V} {first c : Core S A V} {past : List Move} (run : IsRun h first past c) {m : Machine T B}
    (into : T → S) (begun : ℕ) {nester : Path} {w : World} {s : T} {v : World} {t : T} (work : AtWork m nester w s v t) : Type 0 where
  pub first_asks : asker_at run begun ≡ Job begun (into s) work.stage work.words
  pub placed : IsPlaced run into begun (begun + 1) work.run

-- a job that has ended was at work at its places, from its first move to its last
pub record EndedThere {J S A V : Type 0} {h : House J S A V} {first c : Core S A V} {past : List Move} (run : IsRun h first past c)
    (index : ℕ) (end : A) (begun last : ℕ) : Type 0 where
  pub job : J
  pub start : S
  pub nester : Path
  pub its : slice_get h.jobs index ≡ Some job
  pub starts : h.begins job (take index c.ends) ≡ Some start
  pub may : MayBegin (world_at run begun) nester (h.nester job)
  pub state : S
  pub work : AtWork h.machine nester (world_at run begun) start (world_at run (last + 1)) state
  pub long : begun + length work.events ≡ last
  pub there : WorksThere run (λ (s : S). s) begun work
  pub stopped : h.machine.head state ≡ Stops end

-- one that has ended was at work at its places: what its machine did among others' moves are the run's moves from its first to its last, and its own are those
-- for which it asked there
abbrev pub EndsAreThere : Type 0 → Type 0 → Type 0 → Type 0 → Type 0
EndsAreThere J S A V = (h : House J S A V) (first c : Core S A V) (past : List Move) (run : IsRun h first past c) →
    AskAsUsers h → JobsMeetContract h → IsStart first → first.world.next + length past ≤ depth →
    (index : ℕ) (end : A) (begun last : ℕ) → slice_get c.ends index ≡ Some (Worked end begun last) → EndedThere run index end begun last
