-- The commands `play`, `run` and `soak`: what a scenario comes to, by a trace or by itself.
use Rattle.std.specs.Prelude.{◌≡◌, ℕ, List, [], Option, Some, None, Result, Ok, Err}
use Rattle.fk_causes.specs.Shelf.{FileMap, HasAt}
use Rattle.fk_commands.specs.declared.outcome.Outcome.{Outcome}
use Rattle.fk_commands.specs.declared.status.Status.{Status}
use Rattle.fk_commands.specs.declared.status.Status.TheVariants.{BadScenario, Absent}
use Rattle.fk_commands.specs.Files.{trace_name}
use Rattle.fk_commands.specs.Outcomes.{IsRefused}
use Rattle.fk_plays.specs.Images.{FindsImages, NeedImage}
use Rattle.fk_runs.specs.Runs.Made.{Images}
use Rattle.fk_runs.specs.Runs.Runs.{IsPlayedFrom, IsRunFrom, IsSoakFrom}
use Rattle.fk_scenario.specs.declared.fields.fail.ScenarioError.{ScenarioError}
use Rattle.fk_scenario.specs.declared.scenario.scenario.Scenario.{Scenario}

-- with images for its jobs, or the refusal of the first that the shelf has not
abbrev pub IsWith : (Images → Outcome → List ℕ → Type 0) → Result Images Status → Outcome → List ℕ → Type 0
IsWith Is (Err status) outcome text = IsRefused status outcome text
IsWith Is (Ok images) outcome text = Is images outcome text

-- what is said of a scenario with the images that the files of the shelf give for its jobs
pub record IsWithImages (files : Option FileMap) (s : Scenario) (Is : Images → Outcome → List ℕ → Type 0) (outcome : Outcome) (text : List ℕ) : Type 0 where
  pub found : Result Images Status
  pub finds : FindsImages files [] s.jobs found
  pub is : IsWith Is found outcome text

-- the trace may not be there
abbrev pub IsTraced : List ℕ → Scenario → Images → Option (List ℕ) → Outcome → List ℕ → Type 0
IsTraced name s images None outcome text = IsRefused (Absent name) outcome text
IsTraced name s images (Some trace) outcome text = IsPlayedFrom s images trace outcome text

-- a play of whatever the shelf may have under the name of the trace
abbrev pub IsPlayedBy : List ℕ → Option FileMap → Scenario → Images → Outcome → List ℕ → Type 0
IsPlayedBy name files s images outcome text = (trace : Option (List ℕ)) × HasAt files (trace_name name) trace × IsTraced name s images trace outcome text

-- what a scenario, or its refusal, and the files of the shelf come to
abbrev pub IsPlay : List ℕ → Option FileMap → Result Scenario ScenarioError → Outcome → List ℕ → Type 0
IsPlay name files (Err e) outcome text = IsRefused (BadScenario e.rule e.section e.index) outcome text
IsPlay name files (Ok s) outcome text = IsWithImages files s (IsPlayedBy name files s) outcome text

-- what a scenario comes to by itself
abbrev pub IsWholeRun : Option FileMap → Result Scenario ScenarioError → Outcome → List ℕ → Type 0
IsWholeRun files (Err e) outcome text = IsRefused (BadScenario e.rule e.section e.index) outcome text
IsWholeRun files (Ok s) outcome text = IsWithImages files s (IsRunFrom s) outcome text

-- what that of `soak` with so many processes comes to
abbrev pub IsSoak : ℕ → Result Scenario ScenarioError → Outcome → List ℕ → Type 0
IsSoak count (Err e) outcome text = IsRefused (BadScenario e.rule e.section e.index) outcome text
IsSoak count (Ok s) outcome text = IsSoakFrom count s outcome text

-- a text has a scenario
abbrev pub IsScenario : Result Scenario ScenarioError → Type 0
IsScenario reading = (s : Scenario) × (reading ≡ Ok s)

-- one whose jobs need an image of the shelf
abbrev pub IsScenarioWithImages : Result Scenario ScenarioError → Type 0
IsScenarioWithImages reading = (s : Scenario) × (reading ≡ Ok s) × NeedImage [] s.jobs
