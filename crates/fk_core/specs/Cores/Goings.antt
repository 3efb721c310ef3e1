-- Goings: a core that a run has come to, which goes on.
use Rattle.std.specs.Prelude.{◌≡◌, ℕ, List, [], map, None}
use Rattle.fk_model.specs.declared.moves.Move.{Move}
use Rattle.fk_model.specs.Places.{Path}
use Rattle.fk_model.specs.Sound.{Errand, Saves, Makes, Start, IsSoundStart}
use Rattle.fk_model.specs.Who.{named}
use Rattle.laws_house.specs.Houses.{Job, Task}
use Rattle.laws_house.specs.Houses.Task.{Checkpoint, Restore}
use Rattle.laws_runs.specs.Cores.{IsRun}
use Rattle.fk_core.specs.declared.cores.turns.Core as cores
use Rattle.fk_core.specs.Cores.Cores.{RunCore, house, run_core}

-- a core knows neither the paths of its jobs' nesters nor the names of images
abbrev pub errand_by : ℕ → Task → Errand
errand_by birth (Checkpoint slot) = Saves birth slot None None
errand_by birth (Restore slot pairs source) = Makes birth slot pairs

abbrev pub errand_of : Job → Errand
errand_of j = errand_by j.nester j.task

-- with what the runs from a core begin, where these are the nesters
abbrev pub start_at : List Job → ℕ → List Path → RunCore → Start
start_at jobs budget nesters c = record {
  world = c.world;
  ports = map (λ e. named c.world e.0) c.servers;
  nesters = nesters;
  jobs = map errand_of jobs;
  budget = budget;
}

-- a core from which runs begin: its world, its servers, its jobs and its budget are a sound start, and no job has begun
pub record IsFirstCore (jobs : List Job) (budget : ℕ) (c : RunCore) : Type 0 where
  pub nesters : List Path
  pub sound : IsSoundStart (start_at jobs budget nesters c)
  pub ends : c.ends ≡ []
  pub work : c.work ≡ None
  pub events : c.events ≡ 0

-- a core was come to by a run from such a one
pub record HasCome (jobs : List Job) (budget : ℕ) (c : RunCore) : Type 0 where
  pub first : RunCore
  pub past : List Move
  pub run : IsRun (house jobs) first past c
  pub begins : IsFirstCore jobs budget first

-- a core in code was
abbrev pub IsReachable : {S W : Type 0} → cores.Core S W → Type 0
IsReachable core = HasCome core.jobs.jobs core.budget (run_core core)
