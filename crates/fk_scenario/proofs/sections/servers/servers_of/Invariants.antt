use Rattle.std.proofs.Common.{◌≡◌, [], drop}
use Rattle.toml.specs.View.{items_view}
use Rattle.fk_scenario.specs.Entries.Servers.{rules_view}
use Rattle.fk_scenario.specs.Sections.Servers as definitions
use Rattle.fk_scenario.proofs.sections.servers.servers_of.Given as goal

abbrev pub invariant-loop-value : goal.invariant-loop-value
invariant-loop-value l = definitions.servers_from (rules_view l.rules) l.servers (items_view (drop l.value-index l.value-items))
    ≡ definitions.servers_from (rules_view l.rules) [] (items_view l.value-items)
