-- Moments: the run's core that a kernel with its servers and its jobs is at a moment, and which moves are ready there.
use Rattle.std.specs.Prelude.{◌≡◌, ℕ, ◌<◌, ◌%◌, ◌==◌, ◌&&◌, ◌||◌, nat_le, nat_lt, Bool, true, false, List, Option, Some, None, IfSome}
use Rattle.std.specs.Prelude.{is_some}
use Rattle.fk_model.specs.declared.limits.TheConstants.{LAST_PORTER_SLOT}
use Rattle.fk_model.specs.declared.moves.Ask.{Ask}
use Rattle.fk_model.specs.declared.moves.Ask.TheVariants as asks
use Rattle.fk_model.specs.declared.moves.Move.{Move}
use Rattle.fk_model.specs.declared.names.Who.{Who}
use Rattle.fk_model.specs.Who.{event_of}
use Rattle.fk_model.specs.World.{World}
use Rattle.fk_jobs.specs.Jobs.{Queue, current, asked_by, state_of}
use Rattle.fk_jobs.specs.Turns.{core_of}
use Rattle.fk_served.specs.Events.{is_who}
use Rattle.fk_served.specs.Kernels.{Kept}
use Rattle.fk_served.specs.Kernels.{world_of as world}
use Rattle.laws_house.specs.Houses as houses
use Rattle.laws_house.specs.Houses.{Job, End}
use Rattle.laws_jobs.specs.Machines.{IsReadyAt}
use Rattle.laws_runs.specs.Cores.{House, Core, IsReadyIn, IsReadyBy, IsDueJob, asker, others_ask}
use Rattle.laws_runs.specs.Cores.Asker.{Others}
use Rattle.fk_served.specs.Acts.{IsReadyFor}
use Rattle.fk_served.specs.Served.{Services, asked, servers}
use Rattle.fk_core.specs.declared.moment.moment.Moment as moments

-- the servers and the jobs
abbrev pub house : List Job → House Job houses.State End Services
house jobs = houses.house jobs servers

abbrev pub RunCore : Type 0
RunCore = Core houses.State End Services

-- a kernel with its servers and what its jobs have come to, after so many moves
abbrev pub core_at : Kept → Services → Queue → ℕ → RunCore
core_at m services q events = core_of (world m) services q events

-- what a moment in code shows
abbrev pub seen : {S W : Type 0} → moments.Moment S W → RunCore
seen c = core_at c.kernel.now c.services.now.list c.jobs.now c.events

-- a move is ready in a core
abbrev pub IsReadyMove : List Job → RunCore → Move → Type 0
IsReadyMove jobs c m = IsReadyIn (house jobs) c m

-- at a moment in code
abbrev pub IsReadyNow : {S W : Type 0} → moments.Moment S W → Move → Type 0
IsReadyNow c m = IsReadyMove c.jobs.now.jobs (seen c) m

-- and the budget has one more
abbrev pub MayBeMade : {S W : Type 0} → moments.Moment S W → Move → Type 0
MayBeMade c m = (c.events < c.budget) × IsReadyNow c m

-- some move is
abbrev pub IsAnyMove : List Job → RunCore → Type 0
IsAnyMove jobs c = (m : Move) × IsReadyMove jobs c m

-- the job whose turn it is is due
abbrev pub IsDue : List Job → RunCore → Type 0
IsDue jobs c = IsDueJob (house jobs) c

-- a move of a user or a server is ready
abbrev pub IsOthersMove : List Job → RunCore → Move → Type 0
IsOthersMove jobs c m = (ask : Ask) × (asker (house jobs) c m.who ≡ Others ask) × IsReadyAt c.world (event_of c.world ask m)

-- a move is ready as that of a user or a server, were its name no porter's
abbrev pub IsAskedMove : List Job → RunCore → Move → Type 0
IsAskedMove jobs c m = IsReadyBy (house jobs) c m (others_ask (asked c.servers c.world m.who))

-- the call that the job asks for whose turn it is is ready, were it due
abbrev pub IsCalledMove : Queue → RunCore → Move → Type 0
IsCalledMove q c m = IsReadyFor c.world m (asked_by (state_of q))

-- ---- the job whose turn it is

-- the name of a job's porter
abbrev pub porter_of : Option Job → Option Who
porter_of None = None
porter_of (Some j) = Some (record { space = j.nester; slot = LAST_PORTER_SLOT })

-- a name is that of the porter whose job's turn it is
abbrev pub is_porter : Queue → Who → Bool
is_porter q who = is_who (porter_of (current q)) who

-- a job's time has come: it has made a move, or so many moves are made
abbrev pub is_timely_by : Bool → ℕ → Option Job → Bool
is_timely_by at_work events None = false
is_timely_by at_work events (Some j) = at_work || nat_le j.at events

-- the next job is at work, or its time has come
abbrev pub is_timely : Queue → ℕ → Bool
is_timely q events = is_timely_by (is_some q.work) events (current q)

-- it goes first: its time has come, the number of moves is even, and the budget has one more
abbrev pub has_come : Queue → ℕ → ℕ → Bool
has_come q budget events = is_timely q events && events % 2 == 0 && nat_lt events budget

-- at an even number of moves the move that is chosen is a job's, where one is due and ready
abbrev pub IsFirstDue : Queue → ℕ → RunCore → Option Move → Type 0
IsFirstDue q budget c chosen = c.events % 2 ≡ 0 → c.events < budget → (m : Move) → is_porter q m.who ≡ true → IsReadyMove q.jobs c m
    → IfSome chosen (λ m. is_porter q m.who ≡ true)

-- ---- acts of servers

-- no user's move is ready, but maybe the porter's whose job's turn it is
abbrev pub AreUsersIdle : Queue → World → Type 0
AreUsersIdle q w = (m : Move) → is_porter q m.who ≡ false → IsReadyAt w (event_of w asks.Run m) → ⊥

-- there is no move left: none is ready, or the budget is used
abbrev pub IsOver : List Job → ℕ → RunCore → Type 0
IsOver jobs budget c = c.events < budget → IsAnyMove jobs c → ⊥
