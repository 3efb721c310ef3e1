-- What comes of a trace and a record, or of their refusals.
use Rattle.std.proofs.Common.{◌≡◌, ℕ, List, [], Option, Some, None, Result, Ok, Err, refl, ap, inl, inr}
use Rattle.std.specs.Prelude.{⊤}
use Rattle.fk_causes.specs.Causes.{Rose}
use Rattle.fk_causes.specs.Shelf.{FileMap, HasAt}
use Rattle.fk_commands.specs.declared.prepared.Prepared.{Prepared}
use Rattle.fk_commands.specs.declared.status.Status.{Status}
use Rattle.fk_commands.specs.declared.status.Status.TheVariants.{Ok as Done, Usage, TooLong, BadText, BadScenario, Absent, BadImage, BadTrace, JobRefused}
use Rattle.fk_commands.specs.declared.status.Status.TheVariants.{Budget, ReadFault, WriteFault, ShelfFault, NoMemory, NotPaged, BadRecord}
use Rattle.fk_commands.specs.Files.{record_name, trace_name}
use Rattle.fk_commands.specs.Outcomes.{without_report, IsRefused}
use Rattle.fk_commands.specs.Prepared.{ComesTo, IsFileFail, IsRefusal}
use Rattle.fk_commands.proofs.Comes.{comes-also}
use Rattle.fk_model.specs.declared.moves.Move.{Move}
use Rattle.fk_plays.specs.Recorded.{IsReplayedWith, IsTraceFail}
use Rattle.fk_runs.specs.Recordings.Replaying.{IsReplayedBy}
use Rattle.fk_runs.specs.Runs.Made.{Images}
use Rattle.fk_scenario.specs.declared.scenario.scenario.Scenario.{Scenario}
use Rattle.fk_trace_text.specs.Trace as traces

-- the name that is told is the one that was asked for
told-absent : (told_name name : List ℕ) → told_name ≡ name → IsRefused (Absent name) (without_report (Absent told_name)) []
told-absent told_name name same = (ap (λ n. without_report (Absent n)) same, refl)

module _ (name : List ℕ) (files : Option FileMap) (before now : ℕ) (s : Scenario) (given : Images) where
  -- a trace that isn't had
  pub no-trace : (status : Status) → IsTraceFail name files before now status → ComesTo (IsReplayedWith name files s given) (Err status)
  no-trace Done fail = absurd fail
  no-trace Usage fail = absurd fail
  no-trace TooLong fail = absurd fail
  no-trace (BadText line reason) fail = absurd fail
  no-trace (BadScenario rule section index) fail = absurd fail
  no-trace (Absent told_name) fail = (None, fail.1, told-absent told_name name fail.0)
  no-trace (BadImage told_name offset reason) fail = absurd fail
  no-trace (BadTrace index) fail = (Some fail.0, fail.1, inl (index, fail.2, (refl, refl)))
  no-trace (JobRefused job) fail = absurd fail
  no-trace (Budget budget) fail = absurd fail
  no-trace ReadFault fail = absurd fail
  no-trace WriteFault fail = absurd fail
  no-trace ShelfFault fail = tt
  no-trace NoMemory fail = tt
  no-trace NotPaged fail = absurd fail
  no-trace (BadRecord line) fail = absurd fail

  pub trace-refusal : (status : Status) → IsTraceFail name files before now status → IsRefusal ⊥ (Rose before now) status
  trace-refusal Done fail = fail
  trace-refusal Usage fail = fail
  trace-refusal TooLong fail = tt
  trace-refusal (BadText line reason) fail = tt
  trace-refusal (BadScenario rule section index) fail = tt
  trace-refusal (Absent told_name) fail = tt
  trace-refusal (BadImage told_name offset reason) fail = tt
  trace-refusal (BadTrace index) fail = tt
  trace-refusal (JobRefused job) fail = fail
  trace-refusal (Budget budget) fail = fail
  trace-refusal ReadFault fail = fail
  trace-refusal WriteFault fail = fail
  trace-refusal ShelfFault fail = fail
  trace-refusal NoMemory fail = tt
  trace-refusal NotPaged fail = tt
  trace-refusal (BadRecord line) fail = tt

  module _ (trace : List ℕ) (moves : List Move) (there : HasAt files (trace_name name) (Some trace)) (spells : traces.Spells (λ _ _. ⊤) trace moves) where
    -- no record is had
    pub no-record : (status : Status) → IsFileFail (record_name name) name files before now status → ComesTo (IsReplayedWith name files s given) (Err status)
    no-record Done fail = absurd fail
    no-record Usage fail = absurd fail
    no-record TooLong fail = absurd fail
    no-record (BadText line reason) fail = absurd fail
    no-record (BadScenario rule section index) fail = absurd fail
    no-record (Absent told_name) fail = (Some trace, there, inr (moves, spells, (None, fail.1, told-absent told_name name fail.0)))
    no-record (BadImage told_name offset reason) fail = absurd fail
    no-record (BadTrace index) fail = absurd fail
    no-record (JobRefused job) fail = absurd fail
    no-record (Budget budget) fail = absurd fail
    no-record ReadFault fail = absurd fail
    no-record WriteFault fail = absurd fail
    no-record ShelfFault fail = tt
    no-record NoMemory fail = tt
    no-record NotPaged fail = absurd fail
    no-record (BadRecord line) fail = absurd fail

    pub with-record : (bytes : List ℕ) (r : Result Prepared Status) → HasAt files (record_name name) (Some bytes)
        → ComesTo (IsReplayedBy s given trace bytes) r → ComesTo (IsReplayedWith name files s given) r
    with-record bytes r has comes =
        comes-also (IsReplayedBy s given trace bytes) (IsReplayedWith name files s given)
        (λ outcome text is. (Some trace, there, inr (moves, spells, (Some bytes, has, is)))) r comes
