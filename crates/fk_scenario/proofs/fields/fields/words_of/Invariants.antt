use Rattle.std.proofs.Common.{◌≡◌, [], drop}
use Rattle.fk_scenario.specs.Fields.Fields as spec
use Rattle.fk_scenario.proofs.fields.fields.words_of.Given as goal

abbrev pub invariant-loop-number : goal.invariant-loop-number
invariant-loop-number l = spec.words_from l.words (drop l.number-index l.numbers) ≡ spec.words_from [] l.numbers
