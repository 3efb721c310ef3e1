-- The command `check`: what a text comes to.
use Rattle.std.specs.Prelude.{◌≡◌, ℕ, suc, ◌+◌, List, [], ◌∷◌, ◌++◌, length, codes, decimal, Result, Ok, Err}
use Rattle.fk_scenario.specs.declared.entries.types.SpaceEntry.{SpaceEntry}
use Rattle.fk_scenario.specs.declared.fields.fail.ScenarioError.{ScenarioError}
use Rattle.fk_scenario.specs.declared.scenario.scenario.Scenario.{Scenario}
use Rattle.fk_commands.specs.declared.status.Status.{Status}
use Rattle.fk_commands.specs.declared.status.Status.TheVariants.{Ok as Done, BadScenario}
use Rattle.fk_commands.specs.declared.outcome.Outcome.{Outcome}
use Rattle.fk_commands.specs.Outcomes.{without_report, IsRefused}

-- the root's own entry adds no space
abbrev pub spaces_of : List ℕ → ℕ
spaces_of [] = 0
spaces_of (slot ∷ path) = 1

abbrev pub space_count : List SpaceEntry → ℕ
space_count [] = 0
space_count (s ∷ ss) = spaces_of s.path + space_count ss

abbrev pub counts : ℕ → ℕ → ℕ → ℕ → List ℕ
counts spaces objects servers jobs =
    codes "ok spaces " ++ (decimal spaces ++ (codes " objects " ++ (decimal objects
    ++ (codes " servers " ++ (decimal servers ++ (codes " jobs " ++ (decimal jobs ++ codes "\n")))))))

-- how many spaces there are with the root, and how many objects, servers and jobs
abbrev pub counted : Scenario → List ℕ
counted s = counts (1 + space_count s.spaces) (length s.objects) (length s.servers) (length s.jobs)

-- a text that is no scenario is refused, and of a scenario the counts are told
abbrev pub IsCheck : Result Scenario ScenarioError → Outcome → List ℕ → Type 0
IsCheck (Err e) outcome text = IsRefused (BadScenario e.rule e.section e.index) outcome text
IsCheck (Ok s) outcome text = (outcome ≡ without_report Done) × (text ≡ counted s)
