-- What a report says of the subtrees that the jobs of its run have saved and made again.
use Rattle.std.specs.Prelude.{◌≡◌, ℕ, List, Option, Ok, IfSome}
use Rattle.fk_commands.specs.declared.outcome.Report.{Report}
use Rattle.fk_plays.specs.Cores.{RunCore}
use Rattle.fk_plays.specs.First.{IsBegun}
use Rattle.fk_commands.specs.Tables.{Rules}
use Rattle.fk_plays.specs.Transparency.{IsTransparentReport}
use Rattle.fk_plays.specs.Made.{Images}
use Rattle.fk_plays.specs.Runs.{IsReported}
use Rattle.fk_scenario.specs.declared.scenario.scenario.Scenario.{Scenario}
use Rattle.fk_scenario.specs.Scenario.Reading.{scenario_reading}

-- whatever scenario some bytes have from whose first core its history is a run, whatever its servers are, and whatever images were given for the jobs
abbrev pub ReportIsTransparent : Rules → Report → Type 0
ReportIsTransparent rules report = (bytes : List ℕ) (s : Scenario) (given : Images) (first : RunCore) → scenario_reading rules bytes ≡ Ok s →
    IsBegun s first → (is : IsReported s.jobs given first s.budget report) → IsTransparentReport s given first report is

-- of the run that was made, if one was
abbrev pub MadeReportIsTransparent : Rules → Option Report → Type 0
MadeReportIsTransparent rules report = IfSome report (ReportIsTransparent rules)
