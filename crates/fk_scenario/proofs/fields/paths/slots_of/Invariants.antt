use Rattle.std.proofs.Common.{◌≡◌, [], drop, map}
use Rattle.fk_scenario.specs.Fields.Paths as spec
use Rattle.fk_scenario.proofs.fields.paths.slots_of.Given as goal

abbrev pub invariant-loop-piece : goal.invariant-loop-piece
invariant-loop-piece l = spec.slots_from l.slots (map (λ x. x.now) (drop l.piece-index l.pieces)) ≡ spec.slots_from [] (map (λ x. x.now) l.pieces)
