-- What a call of the top says of the run in its report.
use Rattle.std.proofs.Common.{◌≡◌, ℕ, Bool, true, false, List, [], Option, Some, None, Result, Ok, Err, length, nat_lt, refl, sym, ap, ◌∙◌, subst}
use Rattle.std.specs.Bool.{MatchBool}
use Rattle.fk_causes.specs.declared.whole.TheConstants.{LIMIT}
use Rattle.fk_causes.specs.Shelf.{FileMap}
use Rattle.fk_commands.specs.declared.outcome.Outcome.{Outcome}
use Rattle.fk_commands.specs.declared.outcome.Report.{Report}
use Rattle.fk_commands.specs.declared.status.Status.{Status}
use Rattle.fk_model.specs.declared.moves.Rule.{Rule}
use Rattle.fk_words.specs.Commands.{Exec, Check, Run, Play, Show, Soak, Record, Replay, Page}
use Rattle.fk_plays.proofs.Grounds.{first-begun}
use Rattle.fk_plays.specs.Images.{FindsImages}
use Rattle.fk_run.specs.Jobs.{MadeReportIsTransparent}
use Rattle.fk_plays.specs.Made.{Images, IsText}
use Rattle.fk_commands.specs.Outcomes.{IsRefused}
use Rattle.fk_plays.specs.Play.{IsWith, IsTraced, IsPlayedBy, IsPlay, IsWholeRun}
use Rattle.fk_plays.specs.Runs.{IsAlone, IsPlayed, IsRunFrom, IsPlayedFrom}
use Rattle.fk_scenario.specs.declared.fields.fail.ScenarioError.{ScenarioError}
use Rattle.fk_scenario.specs.declared.scenario.scenario.Scenario.{Scenario}
use Rattle.fk_scenario.specs.Scenario.Reading.{scenario_reading}
use Rattle.fk_run.specs.TwoCalls.{ReportedRun, ReportsAreOfRuns}

-- a refusal has no report
refused : (status : Status) (outcome : Outcome) (text : List ℕ) (report : Report) → outcome.report ≡ Some report → IsRefused status outcome text → ⊥
refused status outcome text report has is = let both = sym (ap (λ (o : Outcome). o.report) is.0) ∙ has in absurd (cc)

module _ (rules : List (List ℕ × Rule)) (bytes : List ℕ) (files : FileMap) (outcome : Outcome) (text : List ℕ) (report : Report)
    (has : outcome.report ≡ Some report) (transparency : MadeReportIsTransparent rules (Some report)) where
  not_refused : (status : Status) → IsRefused status outcome text → ReportedRun files report
  not_refused status is = absurd (refused status outcome text report has is)

  -- what came of a scenario with images
  of_run : (s : Scenario) (given : Images) → scenario_reading rules bytes ≡ Ok s → FindsImages (Some files) [] s.jobs (Ok given)
      → IsRunFrom s given outcome text
      → ReportedRun files report
  of_run s given read found is =
      let ran : IsAlone (IsText s.jobs) s.jobs given is.first s.budget outcome.status (Some report) text =
      subst (λ (r : Option Report). IsAlone (IsText s.jobs) s.jobs given is.first s.budget outcome.status r text) has is.ran in
      record {
        scenario = s;
        given = given;
        found = found;
        first = is.first;
        is = ran.0.0;
        transparency = transparency bytes s given is.first read (first-begun s is.first is.is_first) ran.0.0;
      }

  of_play : (s : Scenario) (given : Images) (trace : List ℕ) → scenario_reading rules bytes ≡ Ok s → FindsImages (Some files) [] s.jobs (Ok given)
      → IsPlayedFrom s given trace outcome text → ReportedRun files report
  of_play s given trace read found is =
      let played : IsPlayed s.jobs given is.first s.budget trace outcome.status (Some report) text =
      subst (λ (r : Option Report). IsPlayed s.jobs given is.first s.budget trace outcome.status r text) has is.played in
      record {
        scenario = s;
        given = given;
        found = found;
        first = is.first;
        is = played.1.0;
        transparency = transparency bytes s given is.first read (first-begun s is.first is.is_first) played.1.0;
      }

  of_trace : (name : List ℕ) (s : Scenario) (given : Images) → scenario_reading rules bytes ≡ Ok s → FindsImages (Some files) [] s.jobs (Ok given)
      → (trace : Option (List ℕ)) → IsTraced name s given trace outcome text → ReportedRun files report
  of_trace name s given read found None is = not_refused _ is
  of_trace name s given read found (Some trace) is = of_play s given trace read found is

  -- and of its images
  run_found : (s : Scenario) → scenario_reading rules bytes ≡ Ok s → (found : Result Images Status) → FindsImages (Some files) [] s.jobs found
      → IsWith (IsRunFrom s) found outcome text → ReportedRun files report
  run_found s read (Err status) found is = not_refused status is
  run_found s read (Ok given) found is = of_run s given read found is

  play_found : (name : List ℕ) (s : Scenario) → scenario_reading rules bytes ≡ Ok s → (found : Result Images Status) → FindsImages (Some files) [] s.jobs found
      → IsWith (IsPlayedBy name (Some files) s) found outcome text → ReportedRun files report
  play_found name s read (Err status) found is = not_refused status is
  play_found name s read (Ok given) found is = of_trace name s given read found is.0 is.2

  -- and of its text
  run_read : (reading : Result Scenario ScenarioError) → scenario_reading rules bytes ≡ reading → IsWholeRun (Some files) reading outcome text
      → ReportedRun files report
  run_read (Err e) read is = not_refused _ is
  run_read (Ok s) read is = run_found s read is.found is.finds is.is

  play_read : (name : List ℕ) (reading : Result Scenario ScenarioError) → scenario_reading rules bytes ≡ reading → IsPlay name (Some files) reading outcome text
      → ReportedRun files report
  play_read name (Err e) read is = not_refused _ is
  play_read name (Ok s) read is = play_found name s read is.found is.finds is.is

  run_long : (long : Bool) (status : Status) → MatchBool long (IsRefused status outcome text)
      (IsWholeRun (Some files) (scenario_reading rules bytes) outcome text)
      → ReportedRun files report
  run_long true status is = not_refused status is
  run_long false status is = run_read (scenario_reading rules bytes) refl is

  play_long : (name : List ℕ) (long : Bool) (status : Status)
      → MatchBool long (IsRefused status outcome text) (IsPlay name (Some files) (scenario_reading rules bytes) outcome text) → ReportedRun files report
  play_long name true status is = not_refused status is
  play_long name false status is = play_read name (scenario_reading rules bytes) refl is

pub reports_are_of_runs : ReportsAreOfRuns
reports_are_of_runs rules (Run trace) left files outcome report text runs has due transparency =
    run_long rules due.bytes files outcome text report has transparency (nat_lt LIMIT (length due.bytes)) _ due.called_for
reports_are_of_runs rules (Play name) left files outcome report text runs has due transparency =
    play_long rules due.bytes files outcome text report has transparency name (nat_lt LIMIT (length due.bytes)) _ due.called_for
reports_are_of_runs rules Exec left files outcome report text runs has due transparency = absurd runs
reports_are_of_runs rules Check left files outcome report text runs has due transparency = absurd runs
reports_are_of_runs rules (Show name) left files outcome report text runs has due transparency = absurd runs
reports_are_of_runs rules (Soak count) left files outcome report text runs has due transparency = absurd runs
reports_are_of_runs rules (Record name watch) left files outcome report text runs has due transparency = absurd runs
reports_are_of_runs rules (Replay name) left files outcome report text runs has due transparency = absurd runs
reports_are_of_runs rules (Page slot room) left files outcome report text runs has due transparency = absurd runs
