use Rattle.std.proofs.Common.{◌≡◌, drop}
use Rattle.laws_restore.specs.Rooms.Restoring.{bound_by}
use Rattle.fk_restore.proofs.positions.binding.bound.Given as goal

abbrev pub invariant-loop-pair : goal.invariant-loop-pair
invariant-loop-pair l = bound_by (drop l.pair-index l.pairs) l.slot ≡ bound_by l.pairs l.slot
