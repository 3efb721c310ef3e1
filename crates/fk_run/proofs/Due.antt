-- What is due, from what the parts of a call come to.
use Rattle.std.proofs.Common.{◌≡◌, ℕ, Bool, true, false, List, [], Option, Some, None, IsSome, Result, Ok, Err, IfErr, refl, sym, subst, append-nil}
use Rattle.std.proofs.Common.{string_bytes}
use Rattle.std.specs.Bool.{OnFalse}
use Rattle.std.specs.Io.KnownBytes.{Appends}
use Rattle.fk_causes.specs.Causes.{MayHold, AppendsPrefix, Rose}
use Rattle.fk_causes.specs.Shelf.{FileMap}
use Rattle.fk_commands.specs.declared.prepared.Prepared.{Prepared}
use Rattle.fk_commands.specs.declared.status.Status.{Status}
use Rattle.fk_commands.specs.declared.status.Status.TheVariants.{Usage}
use Rattle.fk_words.specs.Commands.{Command, Show, Soak, Files, NoFiles, RunFiles, RecordFiles}
use Rattle.fk_commands.specs.Outcomes.{without_report}
use Rattle.fk_commands.specs.declared.outcome.Outcome.{Outcome}
use Rattle.fk_commands.specs.declared.outcome.Report.{Report}
use Rattle.fk_extras.specs.declared.extra.Extra.{Extra}
use Rattle.fk_commands.specs.Prepared.{ComesTo, IsRefusal, IsRefusedAt, IsCaused}
use Rattle.fk_commands.specs.Status.{row_of, progress_of, Progress, Words, Reading, Refusing, Writing, Finished, was_cut_short}
use Rattle.fk_commands.specs.Status.{Failed, Nothing, Source, Sink, Shelf, Memory}
use Rattle.fk_commands.specs.Tables.{Rules}
use Rattle.fk_commands.proofs.Comes.{comes-also}
use Rattle.fk_commands.specs.Show.{IsShow}
use Rattle.fk_gen.specs.Soak.{scenario}
use Rattle.fk_plays.specs.Play.{IsSoak}
use Rattle.fk_scenario.specs.Scenario.Reading.{scenario_reading}
use Rattle.fk_puts.specs.Puts.{HasPutSome}
use Rattle.fk_run.specs.declared.made.Made.{Made}
use Rattle.fk_run.specs.Made.{outcome_of}
use Rattle.fk_run.specs.Top.{IsDue, IsDone, IsCutOff, HasFailed, GetsToShelf}

-- what a source may hold: what it tells, or else anything
pub held : (left : Option (List ℕ)) → (bytes : List ℕ) × MayHold left bytes
held None = ([], tt)
held (Some bytes) = (bytes, refl)

appended-nothing : (written : Option (List ℕ)) → Appends written written []
appended-nothing None = tt
appended-nothing (Some bytes) = sym (append-nil bytes)

-- words that are no command
pub no-command : (rules : Rules) (command : Option Command) → command ≡ None →
    (left : Option (List ℕ)) (files : Option FileMap) (written : Option (List ℕ)) → IsDone rules command left files written written (without_report Usage)
no-command rules command none left files written = record {
  text = [];
  due = record { bytes = (held left).0; held = (held left).1; called_for = rw none (refl, refl) };
  written = appended-nothing written;
}

-- `show` looks at no source, which may hold anything
pub show-due : (rules : Rules) (name : List ℕ) (left : Option (List ℕ)) (files : Option FileMap) (r : Result Prepared Status) →
    ComesTo (IsShow name files) r → ComesTo (IsDue rules (Some (Show name)) left files) r
show-due rules name left files r comes =
    comes-also (IsShow name files)
    (IsDue rules (Some (Show name)) left files) (λ outcome text shown. record { bytes = (held left).0; held = (held left).1; called_for = shown }) r comes

-- nor does `soak`
pub soak-due : (rules : Rules) (count : ℕ) (left : Option (List ℕ)) (files : Option FileMap) (r : Result Prepared Status) →
    ComesTo (IsSoak count (scenario_reading rules (scenario count))) r → ComesTo (IsDue rules (Some (Soak count)) left files) r
soak-due rules count left files r comes =
    comes-also (IsSoak count (scenario_reading rules (scenario count)))
    (IsDue rules (Some (Soak count)) left files) (λ outcome text ran. record { bytes = (held left).0; held = (held left).1; called_for = ran }) r comes

-- `show` asks the shelf whatever the source holds
pub show-refused : (rules : Rules) (AtSource AtShelf : Type 0) (name : List ℕ) (left : Option (List ℕ)) (r : Result Prepared Status) →
    IfErr r (IsRefusal ⊥ AtShelf) → IfErr r (IsRefusal AtSource (AtShelf × GetsToShelf rules (Some (Show name)) left))
show-refused rules AtSource AtShelf name left (Ok run) h = h
show-refused rules AtSource AtShelf name left (Err status) h = by (row_of status).came (row_of status).failed h
  where
    caused : (failed : Failed) → IsCaused ⊥ AtShelf failed → IsCaused AtSource (AtShelf × GetsToShelf rules (Some (Show name)) left) failed
    caused Nothing h = h
    caused Source h = absurd h
    caused Sink h = h
    caused Shelf h = (h, ((held left).0, (held left).1, tt))
    caused Memory h = h

    by : (came : Progress) (failed : Failed) → IsRefusedAt ⊥ AtShelf came failed
        → IsRefusedAt AtSource (AtShelf × GetsToShelf rules (Some (Show name)) left) came failed
    by Words failed h = h
    by Reading failed h = caused failed h
    by Refusing failed h = caused failed h
    by Writing failed h = h
    by Finished failed h = h

-- without a run nothing is put
pub puts_nothing : (left : Files) (old new : Option FileMap) → new ≡ old → HasPutSome left None old new
puts_nothing NoFiles old new same = same
puts_nothing (RunFiles trace) old new same = same
puts_nothing (RecordFiles name) old new same = same

module _ (rules : Rules) (command : Option Command) (left : Option (List ℕ)) (files : Option FileMap) (run : Made) (outcome : Outcome) where
  abbrev output : List ℕ
  output = string_bytes run.prepared.output

  -- what is prepared is due, and was done whole
  pub done-whole : (old new : Option (List ℕ)) → IsDue rules command left files (outcome_of run) output
      → OnFalse (was_cut_short outcome.status) (outcome ≡ outcome_of run) → OnFalse (was_cut_short outcome.status) (Appends old new output)
      → OnFalse (was_cut_short outcome.status) (IsDone rules command left files old new outcome)
  done-whole old new due same written = by (was_cut_short outcome.status) same written
    where
      by : (b : Bool) → OnFalse b (outcome ≡ outcome_of run) → OnFalse b (Appends old new output) → OnFalse b (IsDone rules command left files old new outcome)
      by true same written = tt
      by false same written = record {
        text = output;
        due = subst (λ (o : Outcome). IsDue rules command left files o output) (sym same) due;
        written = written;
      }

  -- the outcome is that but for its status
  abbrev IsAlike : Type 0
  IsAlike = (outcome.report ≡ run.prepared.report) × (outcome.extra ≡ run.extra)

  abbrev so-far : Option Report → Option Extra → Outcome
  so-far report extra = record { status = run.prepared.status; report = report; extra = extra }

  but-for-status : IsDue rules command left files (outcome_of run) output → IsAlike
      → IsDue rules command left files (record outcome { status = run.prepared.status }) output
  but-for-status due same =
      subst (λ (extra : Option Extra). IsDue rules command left files (so-far outcome.report extra) output) (sym same.1)
      (subst (λ (report : Option Report). IsDue rules command left files (so-far report run.extra) output) (sym same.0) due)

  -- or up to the writing
  pub done-front : (old new : Option (List ℕ)) → IsDue rules command left files (outcome_of run) output → progress_of run.prepared.status ≡ Finished → IsAlike
      → AppendsPrefix old new output → IsCutOff rules command left files old new outcome
  done-front old new due finished same written = record {
    status = run.prepared.status;
    finished = finished;
    text = output;
    due = but-for-status due same;
    written = written;
  }

  -- or up to a put
  pub unput : (gets_before gets_now puts_before puts_now : ℕ) → IsDue rules command left files (outcome_of run) output
      → progress_of run.prepared.status ≡ Finished → IsAlike → IsSome outcome.report → Rose puts_before puts_now
      → HasFailed gets_before gets_now puts_before puts_now rules command left files outcome outcome.report
  unput gb gn pb pn due finished same some rose = by outcome.report some
    where
      by : (report : Option Report) → IsSome report → HasFailed gb gn pb pn rules command left files outcome report
      by None some = absurd (cc)
      by (Some report) some = (
        rose,
        record { status = run.prepared.status; finished = finished; text = output; due = but-for-status due same },
      )
