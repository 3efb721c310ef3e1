use Rattle.std.proofs.Common.{◌≡◌, true, take}
use Rattle.fk_model.specs.Whole.{are_words}
use Rattle.fk_runs.proofs.recordings.texts.read_words.Given as goal

abbrev pub invariant-loop-word : goal.invariant-loop-word
invariant-loop-word l = are_words (take l.word-index l.words) ≡ true
