-- The host with which a scenario begins.
use Rattle.std.specs.Prelude.{◌≡◌, ℕ, List, Result, Err, map}
use Rattle.fk_boot.specs.FirstWorld.{booted}
use Rattle.fk_boot.specs.Services.{first_services}
use Rattle.fk_model.specs.Places.{Path}
use Rattle.fk_model.specs.Sound.{IsSoundStart}
use Rattle.fk_boot.specs.Starts.{ports_by, start_with}
use Rattle.fk_model.specs.Who.{named}
use Rattle.fk_scenario.specs.declared.fields.fail.ScenarioError.{ScenarioError}
use Rattle.fk_scenario.specs.declared.fields.fail.ScenarioFail.{ScenarioFail}
use Rattle.fk_scenario.specs.declared.fields.fail.ScenarioFail.TheVariants as fails
use Rattle.fk_scenario.specs.declared.scenario.scenario.Scenario.{Scenario}
use Rattle.fk_served.specs.Kernels.{Kept}
use Rattle.fk_served.specs.Kernels.{world_of as world}
use Rattle.fk_served.specs.Served.{Services}

-- its world is the scenario's first one, each server stands at its port as it is at first, and with the scenario's jobs and its budget it is a sound start: so a
-- job may begin, and what is to be saved can be
pub record IsFirst (s : Scenario) (kernel : Kept) (services : Services) : Type 0 where
  pub world_is : world kernel ≡ booted s
  pub servers : map (λ e. (named (world kernel) e.0, e.1)) services ≡ first_services s.servers
  pub sound : IsSoundStart (start_with s (world kernel) (ports_by (world kernel) services) s.budget)

-- a refusal is the document's first, unless there was no memory
abbrev pub IsRefused : Result Scenario ScenarioError → ScenarioFail → Type 0
IsRefused read fails.NoMemory = Unit {0}
IsRefused read (fails.Scenario error) = read ≡ Err error
