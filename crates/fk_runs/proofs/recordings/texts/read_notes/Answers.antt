use Rattle.std.proofs.Common.{◌≤◌, List, [], ◌∷◌, length, take, subst, sym, rules}
use Rattle.std.proofs.lemmas.List.{take_all, take_more, map-append}
use Rattle.std.proofs.lemmas.List.Elements.{All-push}
use Rattle.std.specs.List.{All, slice_index_or}
use Rattle.fk_record_text.specs.Record.{IsNote}
use Rattle.fk_responders.specs.Notes.{note_of}
use Rattle.fk_responders.specs.declared.note.Note.{Note}
use Rattle.fk_model.specs.declared.thread.Turn.TheVariants.{Client}
use Rattle.fk_responders.specs.declared.note.Note.TheVariants.{Taken}
use Rattle.fk_trace.specs.Taps.{noted}
use Rattle.fk_runs.proofs.recordings.texts.read_notes.Goals as goal

pub loop-note-preserved : goal.loop-note-preserved
loop-note-preserved c =
    let notes = c.args.notes.now in
    let at = c.loop-note.note-index in
    let first : Note = Taken Client 0 in
    subst (λ (ns : List Note). All IsNote (noted ns)) (sym (take_more notes at first c.loop-note-test.true))
    (subst (All IsNote) (sym (map-append note_of (take at notes) (slice_index_or notes at first ∷ [])))
    (All-push IsNote (noted (take at notes)) (note_of (slice_index_or notes at first)) c.loop-note.invariant c.read_note.ensures))

pub returns : goal.returns
returns c =
    let whole : length c.args.notes.now ≤ c.loop-note.note-index = search rules in
    subst (λ (ns : List Note). All IsNote (noted ns)) (take_all c.loop-note.note-index c.args.notes.now whole) c.loop-note.invariant
