use Rattle.std.proofs.Common.{rules, ◌≡◌, map, string_bytes, Ok, inl, subst}
use Rattle.fk_scenario.specs.Scenario.Reading.{scenario_reading}
use Rattle.fk_scenario.specs.Scenario.Rules.{server_rules}
use Rattle.fk_commands.proofs.lend.lend_scenario.Goals as goal

pub returns-in-Ok-scenario_in : goal.returns-in-Ok-scenario_in
returns-in-Ok-scenario_in g c =
    let scenario = c.in-Ok-scenario_in.scenario in
    let table : map (λ r. (string_bytes r.name, r.rule)) c.loop-rule.list.items ≡ server_rules = search rules in
    inl (
      scenario,
      subst (λ rules. scenario_reading rules c.args.text.now ≡ Ok scenario) table c.in-Ok-scenario_in.ensures.read,
      subst (λ reader. g.W.ScenarioReader.looks reader scenario c.scenario.new.self) c.loop-watch.invariant.0 c.scenario.ensures,
    )
