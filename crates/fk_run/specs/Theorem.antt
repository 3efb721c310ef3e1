-- The theorem: what one call of `fluke_top`, or of `fluke_alone`, promises. It is the last definition of this file; what it names stands above it.
--
-- A call does a command over a source of bytes, a sink of bytes and a shelf of files. It is handed native servers' rules by a table. What the
-- words call for is one line a word (`IsCalledFor` in Top.antt); what a status says of a call is one row a status (`row_of` in Status.antt).
use Rattle.std.specs.Prelude.{◌≡◌, ◌↔◌, ℕ, List, Option, Some, None, IsSome}
use Rattle.std.specs.Bool.{OnTrue, OnFalse}
use Rattle.std.specs.Io.KnownBytes.{IsAtEnd, Keeps}
use Rattle.fk_causes.specs.Causes.{Rose}
use Rattle.fk_causes.specs.Shelf.{FileMap}
use Rattle.fk_commands.specs.declared.outcome.Outcome.{Outcome}
use Rattle.fk_commands.specs.declared.status.Status.TheVariants.{Usage, ReadFault, WriteFault, ShelfFault}
use Rattle.fk_commands.specs.Status.{was_cut_short, has_written_nothing, may_report, has_put_all, has_put_none}
use Rattle.fk_commands.specs.Status.{is_read_fault, is_write_fault, is_shelf_fault}
use Rattle.fk_commands.specs.Tables.{Rules}
use Rattle.fk_puts.specs.Puts.{HasPut, HasPutSome, KeepsFiles}
use Rattle.fk_run.specs.Again.{PlaysAgain}
use Rattle.fk_run.specs.Complete.{IsComplete}
use Rattle.fk_run.specs.Jobs.{MadeReportIsTransparent}
use Rattle.fk_run.specs.Top.{IsDone, IsCutOff, HasFailed, has_read_all}
use Rattle.fk_words.specs.Commands.{Command, reads_source, uses_shelf, leaves}

-- ---- what a call is seen to do

-- source, sink and shelf at one moment: what they tell of what they hold, if they do, and how often each has failed
pub record Outside (R W H : Type 0) : Type 0 where
  pub source : R
  pub sink : W
  pub shelf : H
  -- the bytes that the source has left
  pub left : Option (List ℕ)
  -- the bytes that the sink has been given
  pub written : Option (List ℕ)
  -- the files that the shelf has
  pub files : Option FileMap
  pub failed_reads : ℕ
  pub failed_writes : ℕ
  pub failed_gets : ℕ
  pub failed_puts : ℕ

-- by what their traits tell of them
abbrev pub outside : {R W H : Type 0} → (R → Option (List ℕ)) → (R → ℕ) → (W → Option (List ℕ)) → (W → ℕ) → (H → Option FileMap) → (H → ℕ) → (H → ℕ)
    → R → W → H → Outside R W H
outside left failed_reads written failed_writes files failed_gets failed_puts source sink shelf = record {
  source = source;
  sink = sink;
  shelf = shelf;
  left = left source;
  written = written sink;
  files = files shelf;
  failed_reads = failed_reads source;
  failed_writes = failed_writes sink;
  failed_gets = failed_gets shelf;
  failed_puts = failed_puts shelf;
}

-- ---- 1. Validation of the words: what is no command is refused, and nothing else is; what a command has no use for stays untouched

pub record ChecksWords {R W H : Type 0} (command : Option Command) (before after : Outside R W H) (outcome : Outcome) : Type 0 where
  pub usage : (outcome.status ≡ Usage) ↔ (command ≡ None)
  pub untouched : outcome.status ≡ Usage → (after.source ≡ before.source) × (after.sink ≡ before.sink) × (after.shelf ≡ before.shelf)
  pub source : OnFalse (reads_source command) (after.source ≡ before.source)
  pub shelf : OnFalse (uses_shelf command) (after.shelf ≡ before.shelf)

-- ---- 2. Functional correctness: unless the outside or the memory failed, the outcome and the bytes written are those that are called for

abbrev pub IsCorrect : {R W H : Type 0} → Rules → Option Command → Outside R W H → Outside R W H → Outcome → Type 0
IsCorrect rules command before after outcome =
    OnFalse (was_cut_short outcome.status) (IsDone rules command before.left before.files before.written after.written outcome)

-- ---- 3. No false fault: one is told only of a part of the outside that failed in this call, and only once all that comes before it is done

pub record HasCauses {R W H : Type 0} (rules : Rules) (command : Option Command) (before after : Outside R W H) (outcome : Outcome) : Type 0 where
  pub read_fault : outcome.status ≡ ReadFault → Rose before.failed_reads after.failed_reads
  pub write_fault : outcome.status ≡ WriteFault → Rose before.failed_writes after.failed_writes
  -- of a write once all is done up to the writing: a prefix of the output is written
  pub cut_off : outcome.status ≡ WriteFault → IsCutOff rules command before.left before.files before.written after.written outcome
  -- of a get once the command came to the shelf, and then there is no run; of a put once the run is made
  pub shelf_fault : outcome.status ≡ ShelfFault → HasFailed before.failed_gets after.failed_gets before.failed_puts after.failed_puts rules command
      before.left before.files outcome outcome.report

-- ---- 4. No hidden fault: where another status is told, no part of the outside has failed in this call

pub record HidesNone {R W H : Type 0} (before after : Outside R W H) (outcome : Outcome) : Type 0 where
  pub reads : OnFalse (is_read_fault outcome.status) (after.failed_reads ≡ before.failed_reads)
  pub writes : OnFalse (is_write_fault outcome.status) (after.failed_writes ≡ before.failed_writes)
  pub gets : OnFalse (is_shelf_fault outcome.status) (after.failed_gets ≡ before.failed_gets)
  pub gets_of_run : IsSome outcome.report → after.failed_gets ≡ before.failed_gets
  pub puts : OnFalse (is_shelf_fault outcome.status) (after.failed_puts ≡ before.failed_puts)
  pub puts_of_none : outcome.report ≡ None → after.failed_puts ≡ before.failed_puts

-- ---- 5. The status tells how far the call came: whether all of the source was read, whether anything was written, whether there may be a report

pub record CameSoFar {R W H : Type 0} (command : Option Command) (before after : Outside R W H) (outcome : Outcome) : Type 0 where
  pub all_read : OnTrue (has_read_all command outcome.status) (IsAtEnd after.left)
  pub nothing : OnTrue (has_written_nothing outcome.status) (Keeps before.written after.written)
  pub no_report : OnFalse (may_report outcome.status) (outcome.report ≡ None)
  pub no_extra : OnFalse (may_report outcome.status) (outcome.extra ≡ None)

-- ---- 6. Files: a run's images, its trace and its record are put, all other files are as before, and the trace plays again, by the record too

pub record PutsFiles {R W H : Type 0} (rules : Rules) (command : Option Command) (before after : Outside R W H) (outcome : Outcome) : Type 0 where
  pub put : OnTrue (has_put_all outcome.status) (HasPut (leaves command) outcome.report before.files after.files)
  -- those before one that failed
  pub some : outcome.status ≡ ShelfFault → HasPutSome (leaves command) outcome.report before.files after.files
  pub no_put : OnTrue (has_put_none outcome.status) ((after.files ≡ before.files) × (after.failed_puts ≡ before.failed_puts))
  -- whatever the status
  pub others : KeepsFiles (leaves command) before.files after.files
  -- by the trace that a run has left `play` comes to the same status, report and text, and so does `replay` by the trace and the record
  pub again : OnTrue (has_put_all outcome.status) (PlaysAgain rules command after.files outcome.report)

-- ---- 7. Transparency is `MadeReportIsTransparent` in Jobs.antt: it is about the run in the report alone

-- ---- 8. Completeness: where no part of the outside failed in this call, right input is answered, unless memory lacks

abbrev pub AnswersRight : {R W H : Type 0} → Rules → Option Command → Outside R W H → Outside R W H → Outcome → Type 0
AnswersRight rules command before after outcome =
    ¬ (Rose before.failed_reads after.failed_reads) → ¬ (Rose before.failed_writes after.failed_writes) → ¬ (Rose before.failed_gets after.failed_gets)
    → ¬ (Rose before.failed_puts after.failed_puts)
    → IsComplete rules command before.left before.files after.files before.written after.written outcome

-- ---- the theorem

-- of a call with these rules and this command, from one moment of the outside to the next, with this outcome
pub record Theorem {R W H : Type 0} (rules : Rules) (command : Option Command) (before after : Outside R W H) (outcome : Outcome) : Type 0 where
  pub words : ChecksWords command before after outcome
  pub correct : IsCorrect rules command before after outcome
  pub causes : HasCauses rules command before after outcome
  pub hides : HidesNone before after outcome
  pub came : CameSoFar command before after outcome
  pub files : PutsFiles rules command before after outcome
  pub transparency : MadeReportIsTransparent rules outcome.report
  pub complete : AnswersRight rules command before after outcome
