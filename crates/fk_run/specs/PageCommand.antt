-- The command `page`: the outcome and the output that a text calls for.
use Rattle.std.specs.Prelude.{◌≡◌, ◌⊎◌, ℕ, List, [], Some, None, Result, Ok, Err, string_bytes}
use Rattle.std.specs.Bool.{OnFalse}
use Rattle.fk_commands.specs.declared.outcome.Outcome.{Outcome}
use Rattle.fk_commands.specs.declared.prepared.Prepared.{Prepared}
use Rattle.fk_commands.specs.declared.status.Status.{Status}
use Rattle.fk_commands.specs.declared.status.Status.TheVariants.{Ok as Done, BadScenario, Budget, NotPaged}
use Rattle.fk_commands.specs.Outcomes.{without_report, IsRefused}
use Rattle.fk_commands.specs.Status.{progress_of, Finished, was_cut_short}
use Rattle.fk_extras.specs.declared.extra.Extra.{Extra}
use Rattle.fk_extras.specs.declared.extra.Extra.TheVariants.{Paged as WasPaged}
use Rattle.fk_extras.specs.declared.paged.Paged.{Paged}
use Rattle.fk_pager.specs.Pages.{MayBePaged, IsPageOf}
use Rattle.fk_report.specs.declared.end.End.{End}
use Rattle.fk_report.specs.declared.end.End.TheVariants as ends
use Rattle.fk_scenario.specs.declared.fields.fail.ScenarioError.{ScenarioError}
use Rattle.fk_scenario.specs.declared.scenario.scenario.Scenario.{Scenario}

-- the budget is used, or all was done
abbrev pub status_of : End → ℕ → Status
status_of ends.Budget budget = Budget budget
status_of ends.Halted budget = Done
status_of ends.Quiet budget = Done
status_of ends.Listed budget = Done

-- a run with a pager as an outcome: it has no report
abbrev pub outcome_of : Scenario → Paged → Outcome
outcome_of s p = record { status = status_of p.end s.budget; report = None; extra = Some (WasPaged p) }

-- a scenario that may not be paged is refused; any other runs
abbrev pub IsScenarioPaged : (slot room : ℕ) → Scenario → Outcome → List ℕ → Type 0
IsScenarioPaged slot room s outcome text =
    ((MayBePaged slot s → ⊥) × IsRefused NotPaged outcome text) ⊎ ((p : Paged) × (outcome ≡ outcome_of s p) × IsPageOf slot room s p text)

abbrev pub IsPageCommand : (slot room : ℕ) → Result Scenario ScenarioError → Outcome → List ℕ → Type 0
IsPageCommand slot room (Err e) outcome text = IsRefused (BadScenario e.rule e.section e.index) outcome text
IsPageCommand slot room (Ok s) outcome text = IsScenarioPaged slot room s outcome text

-- what is prepared, with what it comes to besides, as an outcome
abbrev pub outcome_with : Prepared → Extra → Outcome
outcome_with run extra = record { status = run.status; report = run.report; extra = Some extra }

-- what is prepared has the outcome and the output that are due, and so has a refusal, unless the call was cut short
abbrev pub IsDone : (slot room : ℕ) → Result Scenario ScenarioError → Result (Prepared × Extra) Status → Type 0
IsDone slot room reading (Ok made) =
    IsPageCommand slot room reading (outcome_with made.0 made.1) (string_bytes made.0.output) × (progress_of made.0.status ≡ Finished)
IsDone slot room reading (Err status) =
    OnFalse (was_cut_short status) (IsPageCommand slot room reading (without_report status) [])
