-- A report of a scenario that was read is transparent.
use Rattle.std.proofs.Common.{◌≡◌, ℕ, List, Option, Some, None, Ok}
use Rattle.fk_commands.specs.declared.outcome.Report.{Report}
use Rattle.fk_run.specs.Jobs.{ReportIsTransparent, MadeReportIsTransparent}
use Rattle.fk_commands.specs.Tables.{Rules}
use Rattle.fk_plays.proofs.Transparencies.{reports_are_transparent}
use Rattle.fk_scenario.proofs.InScenario.Kept.{scenario_kept}
use Rattle.fk_scenario.specs.declared.scenario.scenario.Scenario.{Scenario}
use Rattle.fk_scenario.specs.Scenario.Kept.{KeepsScenario}
use Rattle.fk_scenario.specs.Scenario.Reading.{scenario_in, scenario_reading, tree_of}

pub read-keeps : (rules : Rules) (bytes : List ℕ) (s : Scenario) → scenario_reading rules bytes ≡ Ok s → KeepsScenario s
unfolding scenario_reading
read-keeps rules bytes s read = by (tree_of bytes) read
  where
    by : (tree : _) → scenario_in rules tree ≡ Ok s → KeepsScenario s
    by None read = absurd (cc)
    by (Some ms) read = scenario_kept rules ms s read

has : (rules : Rules) (report : Report) → ReportIsTransparent rules report
has rules report = λ bytes s given first read is_begun is. reports_are_transparent s given first report (read-keeps rules bytes s read) is_begun is

pub holds : (rules : Rules) (report : Option Report) → MadeReportIsTransparent rules report
holds rules None = tt
holds rules (Some report) = has rules report
