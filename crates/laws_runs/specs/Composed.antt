-- What a run of a core is for its jobs: each job's moves are its machine's among those of users and native servers, from its
-- first to its last, whatever went before and comes after.
use Rattle.std.specs.Prelude.{◌≡◌, ℕ, ◌+◌, ◌<◌, ◌≤◌, true, nat_le, List, [], length, take, Some, None, if◌then◌else◌}
use Rattle.std.specs.List.{slice_get}
use Rattle.fk_model.specs.declared.moves.Ask.{Ask}
use Rattle.fk_model.specs.declared.moves.Move.{Move}
use Rattle.fk_model.specs.declared.names.Who.{Who}
use Rattle.fk_model.specs.Places.{Path}
use Rattle.fk_model.specs.Searches.{depth}
use Rattle.laws_moves.specs.Frozen.Users.{is_users}
use Rattle.laws_moves.specs.Savable.Savable.{IsSound}
use Rattle.laws_jobs.specs.Machines.{Machine, AtWork, calls_made}
use Rattle.fk_model.specs.World.{World}
use Rattle.fk_model.specs.Sound.{IsClean}
use Rattle.laws_jobs.specs.Machines.Head.{Stops}
use Rattle.laws_jobs.specs.Jobs.{MayBegin, MeetsContract}
use Rattle.laws_runs.specs.Cores.{JobEnd, House, Work, Core, Asker, asker, IsRun, world_at}
use Rattle.laws_runs.specs.Cores.Asker.{Job}
use Rattle.laws_runs.specs.Cores.IsRun.{Begins, Goes}
use Rattle.laws_runs.specs.Cores.JobEnd.{Worked}

-- native servers ask for what users may
module _ {J S A V : Type 0} where
  abbrev pub AskAsUsers : House J S A V → Type 0
  AskAsUsers h = (v : V) (w : World) (who : Who) (ask : Ask) → h.servers.asks v w who ≡ Some ask → is_users ask ≡ true

  -- each of the scenario's jobs meets its contract, however those before it have ended
  abbrev pub JobsMeetContract : House J S A V → Type 0
  JobsMeetContract h = (index : ℕ) (j : J) (ends : List (JobEnd A)) (s : S) → slice_get h.jobs index ≡ Some j → h.begins j ends ≡ Some s →
      MeetsContract h.machine (h.nester j) s

-- a run may begin so
pub record IsStart {S A V : Type 0} (c : Core S A V) : Type 0 where
  pub sound : IsSound c.world
  pub clean : IsClean c.world
  pub ends : c.ends ≡ []
  pub work : c.work ≡ None
  pub events : c.events ≡ 0

-- ---- how many moves are made for jobs

abbrev pub is_jobs : {S : Type 0} → Asker S → ℕ
is_jobs (Job begun state stage words) = 1
is_jobs other = 0

-- of the first k moves of a run
abbrev pub job_moves : {J S A V : Type 0} {h : House J S A V} {first c : Core S A V} {past : List Move} → IsRun h first past c → ℕ → ℕ
job_moves Begins k = 0
job_moves {h = h} (Goes past c m d run ready settles) k =
    if nat_le k (length past) then job_moves run k else job_moves run (length past) + is_jobs (asker h c m.who)

-- a job at work, whose calls lead from one such count to another
pub record WorksSo {S A : Type 0} (m : Machine S A) (nester : Path) (w : World) (s : S) (v : World) (t : S) (before now : ℕ) : Type 0 where
  pub work : AtWork m nester w s v t
  pub count : before + calls_made work ≡ now

-- ---- what comes of it

-- the job with an index began at a place of the history, and from there on to another place, both in between, what the run
-- did is an interleaving of its machine, whose calls are all moves that the run makes for jobs
pub record HasWorked {J S A V : Type 0} {h : House J S A V} {first c : Core S A V} {past : List Move} (run : IsRun h first past c)
    (index : ℕ) (ends : List (JobEnd A)) (begun upto : ℕ) : Type 0 where
  pub job : J
  pub start : S
  pub nester : Path
  pub its : slice_get h.jobs index ≡ Some job
  pub starts : h.begins job ends ≡ Some start
  pub may : MayBegin (world_at run begun) nester (h.nester job)
  pub within : (begun < upto) × (upto ≤ length past)
  pub throughout : (k : ℕ) → begun < k → k ≤ upto → (t : S)
      × WorksSo h.machine nester (world_at run begun) start (world_at run k) t (job_moves run begun) (job_moves run k)

-- and it has ended there
pub record HasEnded {J S A V : Type 0} {h : House J S A V} {first c : Core S A V} {past : List Move} (run : IsRun h first past c)
    (index : ℕ) (end : A) (begun last : ℕ) : Type 0 where
  pub worked : HasWorked run index (take index c.ends) begun (last + 1)
  pub state : S
  pub there : WorksSo h.machine worked.nester (world_at run begun) worked.start (world_at run (last + 1)) state (job_moves run begun) (job_moves run (last + 1))
  pub stopped : h.machine.head state ≡ Stops end

pub record IsComposed {J S A V : Type 0} {h : House J S A V} {first c : Core S A V} {past : List Move} (run : IsRun h first past c) : Type 0 where
  pub sound : (k : ℕ) → k ≤ length past → IsSound (world_at run k)
  pub ended : (index : ℕ) (end : A) (begun last : ℕ) → slice_get c.ends index ≡ Some (Worked end begun last) → HasEnded run index end begun last
  pub working : (k : Work S) → c.work ≡ Some k → HasWorked run (length c.ends) c.ends k.begun (length past)

-- whatever the moves of a run, each job's moves are its machine's among others' moves
abbrev pub RunIsComposed : Type 0 → Type 0 → Type 0 → Type 0 → Type 0
RunIsComposed J S A V = (h : House J S A V) (first c : Core S A V) (past : List Move) (run : IsRun h first past c) →
    AskAsUsers h → JobsMeetContract h → IsStart first → first.world.next + length past ≤ depth → IsComposed run

-- ---- a history has one run

-- a history has one run: the core that it comes to is determined, and so is the world after each of its moves
abbrev pub OneRun : Type 0 → Type 0 → Type 0 → Type 0 → Type 0
OneRun J S A V = (h : House J S A V) (first c d : Core S A V) (past : List Move) (run : IsRun h first past c) (other : IsRun h first past d) →
    (c ≡ d) × ((k : ℕ) → world_at run k ≡ world_at other k)
