use Rattle.toml.specs.View.{table_view}
use Rattle.fk_scenario.specs.Entries.Servers.{rules_view}
use Rattle.fk_scenario.proofs.InScenario.Kept.{scenario_kept}
use Rattle.fk_scenario.proofs.InScenario.Tables.{scenario-has}
use Rattle.fk_scenario.proofs.scenario.reading.read_scenario.Goals as goal

pub returns-clause-keeps : goal.returns-clause-keeps
returns-clause-keeps c = scenario_kept (rules_view c.args.rules.now) (table_view c.in-Some.table) c.in_ok-scenario.scenario c.in_ok-scenario.ensures

pub returns-clause-rules : goal.returns-clause-rules
returns-clause-rules c = scenario-has (rules_view c.args.rules.now) (table_view c.in-Some.table) c.in_ok-scenario.scenario c.in_ok-scenario.ensures
