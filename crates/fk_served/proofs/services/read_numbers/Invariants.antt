use Rattle.std.proofs.Common.{◌≡◌, true, take}
use Rattle.fk_model.specs.Whole.{are_words}
use Rattle.fk_served.proofs.services.read_numbers.Given as goal

abbrev pub invariant-loop-number : goal.invariant-loop-number
invariant-loop-number l = are_words (take l.number-index l.numbers) ≡ true
