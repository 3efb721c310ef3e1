-- Outcomes of calls that come to nothing besides a report.
use Rattle.std.specs.Prelude.{◌≡◌, ℕ, List, [], Option, None}
use Rattle.fk_commands.specs.declared.status.Status.{Status}
use Rattle.fk_commands.specs.declared.outcome.Outcome.{Outcome}
use Rattle.fk_commands.specs.declared.outcome.Report.{Report}

abbrev pub reported : Status → Option Report → Outcome
reported status report = record { status = status; report = report; extra = None }

abbrev pub without_report : Status → Outcome
without_report status = reported status None

-- a refusal: there is no run, and nothing is written
abbrev pub IsRefused : Status → Outcome → List ℕ → Type 0
IsRefused status outcome text = (outcome ≡ without_report status) × (text ≡ [])
