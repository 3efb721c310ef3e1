use Rattle.std.proofs.Common.{◌≡◌, ◌++◌, map, drop, string_bytes}
use Rattle.fk_responders.specs.Tables.{rule_text}
use Rattle.fk_responders.specs.Notes.{all_watches}
use Rattle.fk_scenario.specs.Scenario.Rules.{server_rules}
use Rattle.fk_commands.proofs.lend.lend_scenario.Given as goal

-- the reader hasn't been called; the rules of the responders that stand there, and those that are left
abbrev pub invariant-loop-rule : goal.invariant-loop-rule
invariant-loop-rule g l = (l.reader ≡ l.fn.reader)
    × (map (λ r. (string_bytes r.name, r.rule)) l.list.items ++ map (λ rule. (rule_text rule, rule)) (drop l.rule-index l.rule-items) ≡ server_rules)

-- the reader hasn't been called; the watches of the observers that stand there, and those that are left
abbrev pub invariant-loop-watch : goal.invariant-loop-watch
invariant-loop-watch g l = (l.reader ≡ l.fn.reader)
    × (map (λ o. o.watch) l.observers.items ++ drop l.watch-index l.watch-items ≡ all_watches)
