use Rattle.std.proofs.Common.{◌≡◌, drop, map}
use Rattle.fk_scenario.specs.Fields.Fields.{is_among}
use Rattle.fk_scenario.proofs.fields.fields.is_among.Given as goal

abbrev pub invariant-loop-known : goal.invariant-loop-known
invariant-loop-known l = is_among (map (λ k. k.now) (drop l.known-index l.keys)) l.key ≡ is_among (map (λ k. k.now) l.keys) l.key
