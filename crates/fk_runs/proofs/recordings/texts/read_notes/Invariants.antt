use Rattle.std.proofs.Common.{take}
use Rattle.std.specs.List.{All}
use Rattle.fk_record_text.specs.Record.{IsNote}
use Rattle.fk_trace.specs.Taps.{noted}
use Rattle.fk_runs.proofs.recordings.texts.read_notes.Given as goal

abbrev pub invariant-loop-note : goal.invariant-loop-note
invariant-loop-note l = All IsNote (noted (take l.note-index l.notes))
