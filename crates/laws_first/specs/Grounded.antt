-- A run from the first world of a scenario: what the laws of checkpoints and restores suppose of it, and so what they say of it.
use Rattle.std.specs.Prelude.{◌≡◌, ◌≤◌, List, [], length, None}
use Rattle.fk_model.specs.declared.moves.Move.{Move}
use Rattle.fk_scenario.specs.declared.scenario.scenario.Scenario.{Scenario}
use Rattle.fk_scenario.specs.Scenario.Kept.{KeepsScenario}
use Rattle.fk_boot.specs.FirstWorld.{booted}
use Rattle.laws_moves.specs.Savable.Savable.{IsSound}
use Rattle.laws_runs.specs.Cores.{Servers, Core, IsRun}
use Rattle.laws_runs.specs.Composed.{AskAsUsers}
use Rattle.laws_house.specs.Houses.{Job, State, End, house}
use Rattle.laws_house.specs.Laws.{NameUsersSlots, SaveUsersAlone, IsGrounded}
use Rattle.laws_house.specs.Transparency.{IsTransparent}

-- a core is one with which a scenario begins, with jobs and servers that its reader has seen to be in order
pub record Begins {V : Type 0} (s : Scenario) (jobs : List Job) (servers : Servers V) (first : Core State End V) : Type 0 where
  pub keeps : KeepsScenario s
  pub world : first.world ≡ booted s
  pub sound : IsSound (booted s)
  pub ends : first.ends ≡ []
  pub work : first.work ≡ None
  pub events : first.events ≡ 0
  pub users : AskAsUsers (house jobs servers)
  pub slots : NameUsersSlots jobs
  pub alone : SaveUsersAlone jobs (booted s)

-- a run from a scenario's first world is as the laws of checkpoints and restores suppose, where its servers ask for what users may, its jobs name users' slots,
-- and no porter and no served port lies in what they save
abbrev pub ScenariosAreGrounded : Type 0 → Type 0
ScenariosAreGrounded V = (s : Scenario) (jobs : List Job) (servers : Servers V) (first : Core State End V) (past : List Move) → Begins s jobs servers first →
    length past ≤ s.budget → IsGrounded jobs servers first past

-- all laws of checkpoints and restores hold of a run from a scenario's first world
abbrev pub ScenariosRunTransparently : Type 0 → Type 0
ScenariosRunTransparently V = (s : Scenario) (jobs : List Job) (servers : Servers V) (first c : Core State End V) (past : List Move)
    (run : IsRun (house jobs servers) first past c) → Begins s jobs servers first → length past ≤ s.budget → IsTransparent run
