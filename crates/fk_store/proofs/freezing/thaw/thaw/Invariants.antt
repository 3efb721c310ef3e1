use Rattle.std.proofs.Common.{◌≤◌, IfSome}
use Rattle.fk_store.specs.Holds.Frozen.{marked}
use Rattle.fk_store.specs.Freezing.Freezing.{AreFrozen, weight}
use Rattle.fk_store.proofs.freezing.thaw.thaw.Given as goal

-- each space that is to be marked is, all along
abbrev pub invariant-loop-next : goal.invariant-loop-next
invariant-loop-next l = record { frozen : AreFrozen l.bodies l.frozen; slot : IfSome l.next (λ at. at.1 ≤ 256) }

abbrev pub decreases-loop-next : goal.decreases-loop-next
decreases-loop-next l = weight (marked l.frozen) l.next
