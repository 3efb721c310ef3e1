-- What is prepared of a command, with what it comes to besides a report.
use Rattle.std.specs.Prelude.{◌≡◌, ℕ, Bool, true, false, List, [], Result, Ok, Err, string_bytes}
use Rattle.std.specs.Bool.{OnFalse}
use Rattle.fk_commands.specs.declared.outcome.Outcome.{Outcome}
use Rattle.fk_commands.specs.declared.status.Status.{Status}
use Rattle.fk_commands.specs.Outcomes.{without_report}
use Rattle.fk_commands.specs.Status.{progress_of, Finished, was_cut_short}
use Rattle.fk_run.specs.declared.made.Made.{Made}
use Rattle.fk_words.specs.Commands.{Command, Page}

-- the outcome once the output is written
abbrev pub outcome_of : Made → Outcome
outcome_of made = record { status = made.prepared.status; report = made.prepared.report; extra = made.extra }

-- what is prepared has the outcome and the output that are due, and so has a refusal, unless the call was cut short
abbrev pub MadeComesTo : (Outcome → List ℕ → Type 0) → Result Made Status → Type 0
MadeComesTo IsDue (Ok made) = IsDue (outcome_of made) (string_bytes made.prepared.output) × (progress_of made.prepared.status ≡ Finished)
MadeComesTo IsDue (Err status) = OnFalse (was_cut_short status) (IsDue (without_report status) [])

-- a command comes to something besides a report
abbrev pub has_extra : Command → Bool
has_extra (Page slot room) = true
has_extra other = false
