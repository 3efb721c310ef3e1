use Rattle.std.proofs.Common.{◌≡◌, [], drop}
use Rattle.toml.specs.View.{items_view}
use Rattle.fk_scenario.specs.Entries.Jobs as definitions
use Rattle.fk_scenario.proofs.entries.jobs.lists_of.Given as goal

abbrev pub invariant-loop-value : goal.invariant-loop-value
invariant-loop-value l = definitions.lists_from l.lists (items_view (drop l.value-index l.value-items)) ≡ definitions.lists_from [] (items_view l.value-items)
