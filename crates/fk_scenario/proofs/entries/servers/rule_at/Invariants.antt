use Rattle.std.proofs.Common.{◌≡◌, drop}
use Rattle.fk_scenario.specs.Entries.Servers as definitions
use Rattle.fk_scenario.proofs.entries.servers.rule_at.Given as goal

abbrev pub invariant-loop-rule_name : goal.invariant-loop-rule_name
invariant-loop-rule_name l = definitions.rule_from l.index (definitions.rules_view (drop l.rule_name-index l.rules)) l.name
    ≡ definitions.rule_from 0 (definitions.rules_view l.rules) l.name
