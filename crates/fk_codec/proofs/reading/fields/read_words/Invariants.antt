use Rattle.std.proofs.Common.{◌≡◌, ◌-◌, length, take}
use Rattle.fk_image.specs.Format.Fields.{read_many}
use Rattle.fk_image.specs.Format.Reading.{read_word, read_words, same_state}
use Rattle.fk_codec.proofs.reading.fields.read_words.Given as goal

abbrev pub invariant-loop-i : goal.invariant-loop-i
invariant-loop-i g l = (length l.numbers ≡ g.row.N) ×
    (read_many read_word same_state (g.row.N - l.i) 0 (take l.i l.numbers) l.rest ≡ read_words g.row.N l.bytes)
