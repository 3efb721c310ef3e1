use Rattle.std.proofs.Common.{◌≡◌, [], drop}
use Rattle.toml.specs.View.{items_view}
use Rattle.fk_scenario.specs.Sections.Objects as spec
use Rattle.fk_scenario.proofs.sections.objects.objects_of.Given as goal

abbrev pub invariant-loop-value : goal.invariant-loop-value
invariant-loop-value l = spec.objects_from l.spaces l.objects (items_view (drop l.value-index l.value-items))
    ≡ spec.objects_from l.spaces [] (items_view l.value-items)
