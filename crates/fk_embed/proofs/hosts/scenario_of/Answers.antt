use Rattle.std.proofs.Common.{◌≡◌, IfOk, map, ap, ◌∙◌, subst, string_bytes}
use Rattle.std.proofs.lemmas.Simd.{map-map}
use Rattle.fk_responders.specs.Tables.{rules_view}
use Rattle.fk_scenario.specs.Scenario.Kept.{HasRules, rules_of}
use Rattle.fk_embed.proofs.hosts.scenario_of.Goals as goal

pub returns-in-Ok-clause-rules : goal.returns-in-Ok-clause-rules
returns-in-Ok-clause-rules g c =
    let same : rules_of (rules_view c.in-Ok.rules.items) ≡ map (λ r. r.rule) c.args.table.now.list.items =
    ap rules_of c.in-Ok.ensures ∙ map-map (λ r. r.1) (λ r. (string_bytes r.name, r.rule)) c.args.table.now.list.items in
    subst (λ rules. IfOk c.read_scenario.result (HasRules rules)) same (rw c.deref.ensures.value at c.read_scenario.ensures.rules)
