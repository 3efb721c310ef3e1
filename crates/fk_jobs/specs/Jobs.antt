-- A scenario's jobs in code: what is planned, how the first of them have ended, and what the next one has come to.
use Rattle.std.specs.Prelude.{◌≡◌, ℕ, Bool, true, false, List, [], ◌∷◌, ◌++◌, length, Option, Some, None, is_some}
use Rattle.std.specs.List.{slice_get}
use Rattle.fk_model.specs.declared.moves.Ask.{Ask}
use Rattle.fk_model.specs.declared.moves.Ask.TheVariants as asks
use Rattle.fk_model.specs.declared.stage.Stage.{Stage}
use Rattle.laws_jobs.specs.Machines.{Head}
use Rattle.laws_jobs.specs.Machines.Head.{Stops, Asks}
use Rattle.laws_house.specs.Houses as houses
use Rattle.laws_house.specs.Houses.{Job, State, End, machine, begins}
use Rattle.laws_house.specs.Houses.State.{Checking, Restoring}
use Rattle.laws_restore.specs.Restore.Restore.State.{Makes}
use Rattle.laws_runs.specs.Cores as runs
use Rattle.laws_runs.specs.Cores.{JobEnd, Work, work_of}
use Rattle.laws_runs.specs.Cores.JobEnd.{Worked, Idle}
use Rattle.fk_jobs.specs.declared.plan.PlannedJob.{PlannedJob}
use Rattle.fk_jobs.specs.declared.plan.Task.{Task}
use Rattle.fk_jobs.specs.declared.plan.Task.TheVariants as tasks
use Rattle.fk_jobs.specs.declared.plan.Source.{Source}
use Rattle.fk_jobs.specs.declared.plan.Source.TheVariants as sources

-- ---- what is planned

abbrev pub source_of : Source → houses.Source
source_of (sources.Given image) = houses.Given image
source_of (sources.MadeBy job) = houses.MadeBy job

abbrev pub task_of : Task → houses.Task
task_of (tasks.Checkpoint slot) = houses.Checkpoint slot
task_of (tasks.Restore slot pairs source) = houses.Restore slot pairs (source_of source)

-- a job that is planned so
abbrev pub job_of : PlannedJob → Job
job_of p = record { nester = p.nester; at = p.at; task = task_of p.task }

-- ---- jobs one after the other

-- all of them, how the first have ended, and the next one, where it has made a move; and whether there is room for an answer
pub record Queue : Type 0 where
  pub jobs : List Job
  pub ends : List (JobEnd End)
  pub work : Option (Work State)
  pub ready : Bool

-- the one whose turn it is
abbrev pub current : Queue → Option Job
current q = slice_get q.jobs (length q.ends)

-- the first state of the next job, where it can begin
abbrev pub first_of : List (JobEnd End) → Option Job → Option State
first_of ends None = None
first_of ends (Some j) = begins j ends

abbrev pub state_from : Option (Work State) → Option State → Option State
state_from (Some k) first = Some k.state
state_from None first = first

-- its state, or its first one
abbrev pub state_of : Queue → Option State
state_of q = state_from q.work (first_of q.ends (current q))

-- ---- what it asks for, and what it hears

-- a machine's next call, where it has one to make
abbrev pub call_at : Head End → Option Ask
call_at (Asks stage words) = Some (asks.Call stage words)
call_at (Stops end) = None

-- the call of this stage with these words, if there is a stage
abbrev pub call_with : Option Stage → List ℕ → Option Ask
call_with None words = None
call_with (Some stage) words = Some (asks.Call stage words)

-- the call for which a job in this state asks
abbrev pub asked_by : Option State → Option Ask
asked_by None = None
asked_by (Some s) = call_at (machine.head s)

-- by the answer to its next call a job's memory grows: by each of a checkpoint's, which gathers an image, and by the first of a restore's, before which the
-- restore is made
abbrev pub grows : State → Bool
grows (Checking slot s) = true
grows (Restoring slot pairs image Makes) = true
grows (Restoring slot pairs image other) = false

-- by the answer to it the job's memory grows
abbrev pub grows_by : Option State → Bool
grows_by None = false
grows_by (Some s) = grows s

-- it goes on, or has ended with the move at this place of the history
abbrev pub goes_on : Queue → ℕ → ℕ → State → Head End → Queue
goes_on q begun events s (Asks stage words) =
    record { jobs = q.jobs; ends = q.ends; work = Some (record { begun = begun; state = s }); ready = false }
goes_on q begun events s (Stops end) = record { jobs = q.jobs; ends = q.ends ++ Worked end begun events ∷ []; work = None; ready = false }

abbrev pub hears_at : Queue → ℕ → ℕ → State → Queue
hears_at q begun events s = goes_on q begun events s (machine.head s)

abbrev pub hears_by : Queue → ℕ → ℕ → List ℕ → Option (Work State) → Queue
hears_by q events status words None = q
hears_by q events status words (Some k) = hears_at q k.begun events (machine.next k.state status words)

-- an answer to the call at a place of the history
abbrev pub hears : Queue → ℕ → ℕ → List ℕ → Queue
hears q events status words = hears_by q events status words (work_of events q.work (first_of q.ends (current q)))

-- the one at work has ended
abbrev pub HasStopped : Head End → Type 0
HasStopped (Asks stage words) = ⊥
HasStopped (Stops end) = Unit {0}

abbrev pub HasEnded : Option (Work State) → Type 0
HasEnded None = ⊥
HasEnded (Some k) = HasStopped (machine.head k.state)

-- with the move at this place: the next one's turn has come
abbrev pub passed_by : Queue → ℕ → Option (Work State) → Queue
passed_by q last None = q
passed_by q last (Some k) = hears_at q k.begun last k.state

abbrev pub passed : Queue → ℕ → Queue
passed q last = passed_by q last q.work

-- the one whose turn it is has ended without a move
abbrev pub with_idle : Queue → runs.Unmoved → Queue
with_idle q why = record { jobs = q.jobs; ends = q.ends ++ Idle why ∷ []; work = q.work; ready = false }

-- ---- the same as the code has it

abbrev pub shown_work : {W : Type 0} → (W → State) → Option W → Option ℕ → Option (Work State)
shown_work state None begun = None
shown_work state (Some w) None = None
shown_work state (Some w) (Some begun) = Some (record { begun = begun; state = state w })

-- the place of its first move, which is this one where it has made none
abbrev pub begun_from : Option ℕ → ℕ → ℕ
begun_from None events = events
begun_from (Some begun) events = begun

-- the state of a machine, or its first one where it isn't made yet
abbrev pub made_state : {W : Type 0} → (W → State) → Option W → Option State → Option State
made_state state None first = first
made_state state (Some w) first = Some (state w)

-- the machine of the one whose turn it is, at its first state where it has made no move
pub record IsSeated {W : Type 0} (state : W → State) (porter : Option W) (begun : Option ℕ) (ends : List (JobEnd End)) (job : Option Job) : Type 0 where
  pub there : is_some porter ≡ true → is_some job ≡ true
  pub going : is_some begun ≡ true → is_some porter ≡ true
  pub fresh : begun ≡ None → made_state state porter (first_of ends job) ≡ first_of ends job

-- it is made, where it can begin, and has room for an answer
abbrev pub IsReadied : {W : Type 0} → (W → Type 0) → Option W → Option State → Type 0
IsReadied has_room None first = first ≡ None
IsReadied has_room (Some w) first = has_room w
