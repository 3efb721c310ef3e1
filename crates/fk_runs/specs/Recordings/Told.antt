-- What is prepared of a recorded run that has come to a core.
use Rattle.std.specs.Prelude.{◌≡◌, ℕ, List, Option, Some, None}
use Rattle.fk_commands.specs.declared.outcome.Report.{Report}
use Rattle.fk_commands.specs.declared.prepared.Prepared.{Prepared}
use Rattle.fk_first.specs.Core as cores
use Rattle.fk_first.specs.Cores.{RunCore, run_core}
use Rattle.fk_model.specs.declared.moves.Move.{Move}
use Rattle.fk_runs.specs.Recordings.Ports.{ports_of}
use Rattle.fk_runs.specs.Recordings.Written.{written_of, AreSmallTaps}
use Rattle.fk_runs.specs.RunReports.Made.{Images, IsMade, IsText}
use Rattle.fk_scenario.specs.declared.scenario.scenario.Scenario.{Scenario}
use Rattle.fk_workers.specs.Books.Shown.{Shown}

-- what contracts see of a core in code
abbrev pub shown : {S W : Type 0} → cores.Core S W → Shown
shown c = record { jobs = c.jobs.jobs; budget = c.budget; core = run_core c }

-- a report with a record
abbrev pub with_record : List ℕ → Option Report → Option Report
with_record text None = None
with_record text (Some report) = Some (record report { recorded = Some text })

abbrev pub recorded_by : List ℕ → Prepared → Prepared
recorded_by text made = record made { report = with_record text made.report }

-- what is prepared of any run is prepared, with the record of what the taps of the core have noted
pub record IsTold (s : Scenario) (given : Images) (last : RunCore) (budget : ℕ) (history : List Move) (made : Prepared) : Type 0 where
  pub plain : Prepared
  pub is_made : IsMade (IsText s.jobs) s.jobs given last budget history plain
  pub told : made ≡ recorded_by (written_of (ports_of s.servers) last.servers) plain
  pub small : AreSmallTaps last.servers
