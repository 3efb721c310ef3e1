-- The runs of the program: from the first world of a scenario that was read, with its servers and its jobs.
use Rattle.std.specs.Prelude.{◌≡◌, ◌≤◌, List, [], length, Option, None}
use Rattle.fk_model.specs.declared.moves.Move.{Move}
use Rattle.fk_image.specs.declared.image.image.Image.{Image}
use Rattle.fk_scenario.specs.declared.scenario.scenario.Scenario.{Scenario}
use Rattle.fk_scenario.specs.Scenario.Kept.{KeepsScenario}
use Rattle.fk_boot.specs.FirstWorld.{booted}
use Rattle.fk_served.specs.Served.{Services, servers}
use Rattle.laws_moves.specs.Savable.Savable.{IsSound}
use Rattle.laws_runs.specs.Cores.{Core, IsRun}
use Rattle.laws_house.specs.Houses.{State, End, house, jobs_of}
use Rattle.laws_house.specs.Laws.{IsGrounded}
use Rattle.laws_house.specs.Transparency.{IsTransparent}

-- whatever images are given for its jobs, each is as the laws over runs suppose
abbrev pub ProgramsAreGrounded : Type 0
ProgramsAreGrounded = (s : Scenario) (images : List (Option Image)) (first : Core State End Services) (past : List Move) → KeepsScenario s →
    first.world ≡ booted s → IsSound first.world → first.ends ≡ [] → first.work ≡ None → first.events ≡ 0 → length past ≤ s.budget →
    IsGrounded (jobs_of s.jobs images) servers first past

-- so all of them hold of it
abbrev pub ProgramsRunTransparently : Type 0
ProgramsRunTransparently = (s : Scenario) (images : List (Option Image)) (first c : Core State End Services) (past : List Move)
    (run : IsRun (house (jobs_of s.jobs images) servers) first past c) → KeepsScenario s → first.world ≡ booted s → IsSound first.world →
    first.ends ≡ [] → first.work ≡ None → first.events ≡ 0 → length past ≤ s.budget → IsTransparent run
