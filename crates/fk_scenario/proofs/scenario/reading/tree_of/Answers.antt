use Rattle.toml.specs.View.{table_view}
use Rattle.fk_scenario.proofs.InScenario.Trees.{tree_found, no_tree}
use Rattle.fk_scenario.proofs.scenario.reading.tree_of.Goals as goal

pub returns-in-Ok-clause-found : goal.returns-in-Ok-clause-found
returns-in-Ok-clause-found c =
    let both = c.in-Ok.ensures.ok in
    tree_found c.args.bytes.now (table_view c.in-Ok.table) both.0 both.1

pub returns-else-is_memory-clause-found : goal.returns-else-is_memory-clause-found
returns-else-is_memory-clause-found c = no_tree c.args.bytes.now (λ utf8. c.in-Err.ensures.refused (λ m. let t = c.is_memory.ensures.1 m in absurd (cc t)) utf8)
