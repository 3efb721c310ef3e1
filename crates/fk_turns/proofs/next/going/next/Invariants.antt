use Rattle.std.proofs.Common.{length}
use Rattle.fk_turns.specs.Moved.Kept.{AreKept}
use Rattle.fk_turns.specs.Next.Waiting.{standing, ArePassed}
use Rattle.fk_turns.proofs.next.going.next.Given as goal

-- the lists are kept, and whoever was before is queued
abbrev pub invariant-loop-who : goal.invariant-loop-who
invariant-loop-who l = record {
  kept : AreKept l.store l.turns.waits l.turns.marks;
  passed : ArePassed l.store (standing l.fn.turns.waits) (standing l.turns.waits);
}

abbrev pub decreases-loop-who : goal.decreases-loop-who
decreases-loop-who l = length l.turns.waits.ready
