-- How small the names in a history are that is put.
use Rattle.std.specs.Prelude.{⊤, ℕ, List, Option, Some, None, All}
use Rattle.fk_commands.specs.declared.outcome.Report.{Report}
use Rattle.fk_model.specs.declared.moves.Move.{Move}
use Rattle.fk_words.specs.Commands.{Files, NoFiles, RunFiles, RecordFiles}
use Rattle.fk_trace_text.specs.Trace.{IsMove}

-- a history that was put under a name has names as small as their types
abbrev pub IsSmall : Option (List ℕ) → List Move → Type 0
IsSmall None history = ⊤
IsSmall (Some name) history = All IsMove history

-- the history that a command puts
abbrev pub AreSmall : Files → Option Report → Type 0
AreSmall NoFiles report = ⊤
AreSmall (RunFiles trace) None = ⊤
AreSmall (RunFiles trace) (Some report) = IsSmall trace report.history
AreSmall (RecordFiles name) None = ⊤
AreSmall (RecordFiles name) (Some report) = All IsMove report.history
