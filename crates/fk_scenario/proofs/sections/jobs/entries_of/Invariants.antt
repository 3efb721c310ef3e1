use Rattle.std.proofs.Common.{◌≡◌, [], drop}
use Rattle.toml.specs.View.{items_view}
use Rattle.fk_scenario.specs.Sections.Jobs as definitions
use Rattle.fk_scenario.proofs.sections.jobs.entries_of.Given as goal

abbrev pub invariant-loop-value : goal.invariant-loop-value
invariant-loop-value l = definitions.entries_from l.jobs (items_view (drop l.value-index l.value-items))
    ≡ definitions.entries_from [] (items_view l.value-items)
