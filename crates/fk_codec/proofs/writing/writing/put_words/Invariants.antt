use Rattle.std.proofs.Common.{◌≡◌, ◌++◌, drop}
use Rattle.fk_image.specs.Format.Spelling as spells
use Rattle.fk_codec.proofs.writing.writing.put_words.Given as goal

abbrev pub invariant-loop-word : goal.invariant-loop-word
invariant-loop-word l = l.out.items ++ spells.words_bytes (drop l.word-index l.words) ≡ l.fn.out.items ++ spells.words_bytes l.words
