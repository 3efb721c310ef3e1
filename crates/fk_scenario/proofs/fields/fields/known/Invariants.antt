use Rattle.std.proofs.Common.{◌≡◌, map}
use Rattle.toml.specs.View.{members_view, table_view}
use Rattle.fk_scenario.specs.Fields.Fields as spec
use Rattle.fk_scenario.proofs.fields.fields.known.Given as goal

abbrev pub invariant-loop-key : goal.invariant-loop-key
invariant-loop-key l = spec.known (map (λ k. k.now) l.keys) (members_view l.key-iterator) ≡ spec.known (map (λ k. k.now) l.keys) (table_view l.table)
