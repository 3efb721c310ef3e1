use Rattle.std.proofs.Common.{◌++◌, string_bytes, sym, ap, ◌∙◌, codes}
use Rattle.std.proofs.lemmas.List.Folds.{flat_map-map}
use Rattle.fk_record_text.specs.Record.{ended_line, note_text, port_text}
use Rattle.fk_responders.specs.Notes.{note_of}
use Rattle.fk_runs.proofs.recordings.texts.push_post.Goals as goal

pub returns-in_ok-push_lines-in-Tap-clause-lines : goal.returns-in_ok-push_lines-in-Tap-clause-lines
returns-in_ok-push_lines-in-Tap-clause-lines c =
    let port = port_text c.args.ports.now c.args.place in
    let told = rw (c.port_at.ensures, c.notes-notes.ensures) at c.in_ok-push_lines-in-Tap.ensures in
    rw c.in-Tap.is
    (told
    ∙ ap (λ lines. string_bytes c.args.text.now ++ lines)
    (sym (flat_map-map (λ note. ended_line (port ++ (codes " " ++ note_text note))) note_of c.in-Tap.tap.notes.items)))
