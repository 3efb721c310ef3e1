use Rattle.std.proofs.Common.{◌≡◌, ◌+◌, ◌%◌, ◌^◌, sum, take}
use Rattle.fk_soak.proofs.line.sum_words.Given as goal

abbrev pub invariant-loop-word : goal.invariant-loop-word
invariant-loop-word l = l.total ≡ (l.before + sum (take l.word-index l.words)) % 2 ^ 64
