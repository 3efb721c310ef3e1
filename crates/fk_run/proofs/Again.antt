-- A run that left its trace plays again.
use Rattle.std.proofs.Common.{◌≡◌, ℕ, Bool, true, false, List, [], ◌∷◌, ◌++◌, Option, Some, None, IfSome, Result, Ok, Err, OnOk, All, nat_lt, length, refl, ap}
use Rattle.std.proofs.Common.{inr, ◌⊎◌}
use Rattle.std.specs.Bool.{MatchBool}
use Rattle.std.specs.Prelude.{⊤}
use Rattle.fk_causes.specs.declared.whole.TheConstants.{LIMIT}
use Rattle.fk_causes.specs.Shelf.{FileMap, HasAt}
use Rattle.fk_causes.specs.declared.shelf.ShelfFail.{ShelfFail}
use Rattle.fk_commands.specs.Files.{image_name, record_name, trace_name}
use Rattle.fk_commands.specs.declared.outcome.Report.{Report}
use Rattle.fk_commands.specs.declared.status.Status.{Status}
use Rattle.fk_commands.specs.declared.status.Status.TheVariants.{BadScenario, TooLong}
use Rattle.fk_commands.specs.Outcomes.{reported, IsRefused}
use Rattle.fk_image.specs.declared.image.image.Image.{Image}
use Rattle.fk_model.specs.declared.job.JobSpec.{JobSpec}
use Rattle.fk_plays.specs.Images.{needed, Finds, FindsImages}
use Rattle.fk_plays.specs.Images.FindsImages.{NoJob, Found, Refused, Later}
use Rattle.fk_plays.specs.Play.{IsPlay, IsPlayedBy, IsWith, IsWholeRun}
use Rattle.fk_run.specs.Again.{HasSame, PlaysAgain}
use Rattle.fk_puts.specs.Small.{AreSmall}
use Rattle.fk_commands.specs.declared.outcome.Outcome.{Outcome}
use Rattle.fk_model.specs.declared.moves.Move.{Move}
use Rattle.fk_plays.proofs.Again.{record_plays_again, replays_play_again}
use Rattle.fk_plays.specs.Again.{without_record}
use Rattle.fk_plays.specs.Recorded.{IsWholeRecord}
use Rattle.fk_plays.specs.Recording.{watch_place, IsRecordedFrom}
use Rattle.fk_plays.specs.Recorded.{IsReplay, IsReplayedWith}
use Rattle.fk_responders.specs.declared.note.Watch.{Watch}
use Rattle.fk_run.proofs.Transparency.{read-keeps}
use Rattle.fk_scenario.specs.Scenario.Kept.{KeepsScenario}
use Rattle.fk_words.specs.Commands.{Command, Run, Play, Record, Replay, leaves}
use Rattle.fk_puts.specs.Puts.{HasPut}
use Rattle.fk_commands.specs.Tables.{Rules}
use Rattle.fk_plays.proofs.Replayed.{plays-again}
use Rattle.fk_plays.specs.Made.{Images}
use Rattle.fk_plays.specs.Runs.{IsRunFrom}
use Rattle.fk_scenario.specs.declared.scenario.scenario.Scenario.{Scenario}
use Rattle.fk_scenario.specs.Scenario.Reading.{scenario_reading}
use Rattle.fk_scenario.specs.declared.fields.fail.ScenarioError.{ScenarioError}
use Rattle.fk_trace_text.specs.Trace.{IsMove, EachMayFollow, trace_text}

-- the shelf has the trace of a run
abbrev HasTrace : List ℕ → Option Report → Option FileMap → Type 0
HasTrace name None files = Unit {0}
HasTrace name (Some report) files = HasAt files (trace_name name) (Some (trace_text report.history))

-- what files have that others have too, is found there
module _ (these those : Option FileMap) (same : (image : List ℕ) → HasSame these those (image_name image)) where
  finds : (need : Option (List ℕ)) (found : Result (Option Image) Status) → Finds these need found → Finds those need found
  finds None found is = is
  finds (Some name) found is = (is.0, same name is.0 is.1, is.2)

  finds-images : (before jobs : List JobSpec) (found : Result Images Status) → FindsImages these before jobs found → FindsImages those before jobs found
  finds-images _ _ _ (NoJob before) = NoJob before
  finds-images _ _ _ (Found before job jobs image images one more) =
      Found before job jobs image images (finds (needed before job) (Ok image) one) (finds-images (before ++ job ∷ []) jobs (Ok images) more)
  finds-images _ _ _ (Refused before job jobs status one) = Refused before job jobs status (finds (needed before job) (Err status) one)
  finds-images _ _ _ (Later before job jobs image status one more) =
      Later before job jobs image status (finds (needed before job) (Ok image) one) (finds-images (before ++ job ∷ []) jobs (Err status) more)

module _ (name : List ℕ) (before later : Option FileMap) (same : (image : List ℕ) → HasSame before later (image_name image)) (status : Status)
    (text : List ℕ) where
  by_itself : (report : Option Report) (s : Scenario) (given : Images) → HasTrace name report later → IfSome report (λ r. All IsMove r.history)
      → IsRunFrom s given (reported status report) text → IsPlayedBy name later s given (reported status report) text
  by_itself None s given has small is = absurd is.ran
  by_itself (Some report) s given has small is = (
    Some (trace_text report.history),
    has,
    record { first = is.first; is_first = is.is_first; played = plays-again s.jobs given is.first s.budget status report text small is.ran },
  )

  with_ : (report : Option Report) (s : Scenario) (found : Result Images Status) → HasTrace name report later → IfSome report (λ r. All IsMove r.history)
      → IsWith (IsRunFrom s) found (reported status report) text
      → IsWith (IsPlayedBy name later s) found (reported status report) text
  with_ report s (Err refusal) has small is = is
  with_ report s (Ok given) has small is = by_itself report s given has small is

  read : (report : Option Report) → HasTrace name report later → IfSome report (λ r. All IsMove r.history) → (reading : Result Scenario ScenarioError)
      → IsWholeRun before reading (reported status report) text
      → IsPlay name later reading (reported status report) text
  read report has small (Err e) is = is
  read report has small (Ok s) is = record {
    found = is.found;
    finds = finds-images before later same [] s.jobs is.found is.finds;
    is = with_ report s is.found has small is.is;
  }

  unless_long : (report : Option Report) → HasTrace name report later → IfSome report (λ r. All IsMove r.history) → (reading : Result Scenario ScenarioError)
      → (b : Bool) → MatchBool b (IsRefused TooLong (reported status report) text)
      (IsWholeRun before reading (reported status report) text)
      → MatchBool b (IsRefused TooLong (reported status report) text)
      (IsPlay name later reading (reported status report) text)
  unless_long report has small reading true is = is
  unless_long report has small reading false is = read report has small reading is

-- the trace is there later too
there : (name : List ℕ) (now later : Option FileMap) (report : Option Report) → HasSame now later (trace_name name) → HasTrace name report now
    → HasTrace name report later
there name now later None same has = tt
there name now later (Some report) same has = same (Some (trace_text report.history)) has

-- a shelf that has the trace of a run, whose names are as small as their types
again : (rules : Rules) (name : List ℕ) (now : Option FileMap) (report : Option Report) → HasTrace name report now
    → IfSome report (λ r. All IsMove r.history) → PlaysAgain rules (Some (Run (Some name))) now report
again rules name now report has small = λ before later bytes status text traced same called.
    unless_long name before later same status text report (there name now later report traced has) small (scenario_reading rules bytes)
    (nat_lt LIMIT (length bytes)) called

-- ---- what was recorded

-- moves whose names are small are a trace, whatever they are
all-follow : (done moves : List Move) → EachMayFollow (λ _ _. ⊤) done moves
all-follow done [] = tt
all-follow done (m ∷ ms) = (tt, all-follow (done ++ m ∷ []) ms)

module _ (rules : Rules) (name : List ℕ) (watch : ℕ) (sees : (watch ≡ 0) ⊎ (watch ≡ 1)) (before later : Option FileMap)
    (same : (image : List ℕ) → HasSame before later (image_name image)) (status : Status) (text told : List ℕ) (report : Report)
    (recorded : report.recorded ≡ Some told) (has_trace : HasAt later (trace_name name) (Some (trace_text report.history)))
    (has_record : HasAt later (record_name name) (Some told)) (small : All IsMove report.history) where
  abbrev before-it : Outcome
  before-it = reported status (Some report)

  abbrev behind-it : Outcome
  behind-it = reported status (Some (without_record report))

  -- a run is no refusal
  no-refusal : (refusal : Status) → IsRefused refusal before-it text → ⊥
  no-refusal refusal is = let none : Some report ≡ None = ap (λ (o : Outcome). o.report) is.0 in cc

  by_record : (s : Scenario) (given : Images) → KeepsScenario s → IsRecordedFrom watch s given before-it text → IsReplayedWith name later s given behind-it text
  by_record s given keeps is = (
    Some (trace_text report.history),
    has_trace,
    inr (
      report.history,
      record { legal = record { ranges = small; follow = all-follow [] report.history }; spelled = refl },
      (Some told, has_record, record_plays_again s given watch status report text told keeps sees small recorded is),
    ),
  )

  with_record : (s : Scenario) (found : Result Images Status) → KeepsScenario s → IsWith (IsRecordedFrom watch s) found before-it text
      → IsWith (IsReplayedWith name later s) found behind-it text
  with_record s (Err refusal) keeps is = absurd (no-refusal refusal is)
  with_record s (Ok given) keeps is = by_record s given keeps is

  read_record : (reading : Result Scenario ScenarioError) → ((s : Scenario) → reading ≡ Ok s → KeepsScenario s)
      → IsWholeRecord watch before reading before-it text
      → IsReplay name later reading behind-it text
  read_record (Err e) keeps is = absurd (no-refusal (BadScenario e.rule e.section e.index) is)
  read_record (Ok s) keeps is = record {
    found = is.found;
    finds = finds-images before later same [] s.jobs is.found is.finds;
    is = with_record s is.found (keeps s refl) is.is;
  }

  recorded_unless_long : (reading : Result Scenario ScenarioError) → ((s : Scenario) → reading ≡ Ok s → KeepsScenario s) → (b : Bool)
      → MatchBool b (IsRefused TooLong before-it text) (IsWholeRecord watch before reading before-it text)
      → MatchBool b (IsRefused TooLong behind-it text) (IsReplay name later reading behind-it text)
  recorded_unless_long reading keeps true is = absurd (no-refusal TooLong is)
  recorded_unless_long reading keeps false is = read_record reading keeps is

-- a report that was recorded
record_again : (rules : Rules) (name : List ℕ) (watch : Watch) (now : Option FileMap) (report : Report) → All IsMove report.history
    → PlaysAgain rules (Some (Record name watch)) now (Some report)
record_again rules name watch now report small = λ sees before later bytes status text told recorded has_trace has_record same called.
    recorded_unless_long rules name (watch_place watch) sees before later same status text told report recorded has_trace has_record small
    (scenario_reading rules bytes) (λ s reading. read-keeps rules bytes s reading) (nat_lt LIMIT (length bytes)) called

-- what a command has put
put : (rules : Rules) (command : Option Command) (report : Option Report) (old now : Option FileMap) → HasPut (leaves command) report old now
    → AreSmall (leaves command) report
    → PlaysAgain rules command now report
put rules (Some (Run (Some name))) None old now has small = again rules name now None tt tt
put rules (Some (Run (Some name))) (Some report) old now has small = again rules name now (Some report) has.2.0 small
put rules (Some (Record name watch)) (Some report) old now has small = record_again rules name watch now report small
put rules (Some (Replay name)) (Some report) old now has small = λ s given first trace status text is_first played.
    replays_play_again s given first trace status report text is_first played
put rules other report old now has small = tt

pub again_by : (rules : Rules) (r : Result (Unit {0}) ShelfFail) (command : Option Command) (report : Option Report) (old now : Option FileMap)
    → OnOk r (HasPut (leaves command) report old now) → OnOk r (AreSmall (leaves command) report) → OnOk r (PlaysAgain rules command now report)
again_by rules (Ok done) command report old now has small = put rules command report old now has small
again_by rules (Err fail) command report old now has small = has
