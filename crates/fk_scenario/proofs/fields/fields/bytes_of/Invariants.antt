use Rattle.std.proofs.Common.{◌≡◌, [], drop}
use Rattle.fk_scenario.specs.Fields.Fields as spec
use Rattle.fk_scenario.proofs.fields.fields.bytes_of.Given as goal

abbrev pub invariant-loop-number : goal.invariant-loop-number
invariant-loop-number l = spec.bytes_from l.bytes (drop l.number-index l.numbers) ≡ spec.bytes_from [] l.numbers
