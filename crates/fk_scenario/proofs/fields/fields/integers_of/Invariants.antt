use Rattle.std.proofs.Common.{◌≡◌, [], drop}
use Rattle.toml.specs.View.{items_view}
use Rattle.fk_scenario.specs.Fields.Fields as spec
use Rattle.fk_scenario.proofs.fields.fields.integers_of.Given as goal

abbrev pub invariant-loop-value : goal.invariant-loop-value
invariant-loop-value l = spec.integers_from l.numbers (items_view (drop l.value-index l.value-items)) ≡ spec.integers_from [] (items_view l.value-items)
