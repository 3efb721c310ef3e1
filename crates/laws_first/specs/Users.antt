-- The program's own servers and jobs are such as its runs suppose.
use Rattle.std.specs.Prelude.{List, Option}
use Rattle.fk_image.specs.declared.image.image.Image.{Image}
use Rattle.fk_scenario.specs.declared.scenario.scenario.Scenario.{Scenario}
use Rattle.fk_scenario.specs.Scenario.Kept.{KeepsScenario}
use Rattle.fk_boot.specs.FirstWorld.{booted}
use Rattle.fk_served.specs.Served.{servers}
use Rattle.laws_runs.specs.Composed.{AskAsUsers}
use Rattle.laws_house.specs.Houses.{Job, house, jobs_of}
use Rattle.laws_house.specs.Laws.{NameUsersSlots, SaveUsersAlone}

-- servers ask for what users may
abbrev pub ServersAskAsUsers : Type 0
ServersAskAsUsers = (jobs : List Job) → AskAsUsers (house jobs servers)

-- jobs name users' slots, whatever images are given for them
abbrev pub ScenarioJobsNameUsersSlots : Type 0
ScenarioJobsNameUsersSlots = (s : Scenario) → KeepsScenario s → (images : List (Option Image)) → NameUsersSlots (jobs_of s.jobs images)

-- and in what they save lies no porter and no served port of the first world
abbrev pub ScenarioJobsSaveUsersAlone : Type 0
ScenarioJobsSaveUsersAlone = (s : Scenario) → KeepsScenario s → (images : List (Option Image)) → SaveUsersAlone (jobs_of s.jobs images) (booted s)
