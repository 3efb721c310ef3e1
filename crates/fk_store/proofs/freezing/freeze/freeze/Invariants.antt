use Rattle.std.proofs.Common.{◌≡◌, ◌≤◌, true, IfSome}
use Rattle.fk_store.specs.Holds.Frozen.{mark_at, unmarked}
use Rattle.fk_store.specs.Freezing.Freezing.{AreFrozenUpTo, weight}
use Rattle.fk_store.proofs.freezing.freeze.freeze.Given as goal

-- what isn't marked yet, and is to be, is yet to come
abbrev pub invariant-loop-next : goal.invariant-loop-next
invariant-loop-next l = record {
  closed : AreFrozenUpTo l.bodies l.frozen l.top l.next;
  marked : mark_at l.frozen l.top ≡ true;
  slot : IfSome l.next (λ at. at.1 ≤ 256);
}

abbrev pub decreases-loop-next : goal.decreases-loop-next
decreases-loop-next l = weight (unmarked l.frozen) l.next
