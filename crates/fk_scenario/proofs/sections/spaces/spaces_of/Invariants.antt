use Rattle.std.proofs.Common.{◌≡◌, [], drop}
use Rattle.toml.specs.View.{items_view}
use Rattle.fk_scenario.specs.Sections.Spaces as spec
use Rattle.fk_scenario.proofs.sections.spaces.spaces_of.Given as goal

abbrev pub invariant-loop-value : goal.invariant-loop-value
invariant-loop-value l = spec.spaces_from l.programs l.spaces (items_view (drop l.value-index l.value-items))
    ≡ spec.spaces_from l.programs [] (items_view l.value-items)
