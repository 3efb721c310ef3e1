use Rattle.std.proofs.Common.{◌≡◌, drop}
use Rattle.fk_scenario.specs.Scenario.Aims as definitions
use Rattle.fk_scenario.proofs.scenario.aims.check_aims.Given as goal

abbrev pub invariant-loop-object : goal.invariant-loop-object
invariant-loop-object l = definitions.aims_from l.spaces l.objects l.place (drop l.object-index l.object-items)
    ≡ definitions.aims_from l.spaces l.objects 0 l.objects
