use Rattle.std.proofs.Common.{subst, arith}
use Rattle.fk_store_graph.proofs.InBodies.ProceedLaws.{none-of}
use Rattle.fk_store.specs.Freezing.Freezing.{AreFrozenUpTo}
use Rattle.fk_store.proofs.InFreezing.FreezeLaws.{begins, ends, was_marked, top_marked}
use Rattle.fk_store.proofs.freezing.freeze.freeze.Goals as goal

pub returns-then-not-mark : goal.returns-then-not-mark
returns-then-not-mark c = was_marked c.args.bodies.now c.requires.known c.args.top c.args.who c.requires.born _ _ c.requires.closed c.mark.ensures.marks
    (c.mark.ensures.same c.if-not-mark.true)

pub loop-next-init : goal.loop-next-init
loop-next-init c = record {
  closed = begins c.args.bodies.now c.requires.known c.args.top c.args.who c.requires.born _ _ c.requires.closed c.mark.ensures.marks;
  marked = top_marked _ _ c.args.top c.mark.ensures.marks;
  slot = omega arith;
}

pub loop-next-preserved : goal.loop-next-preserved
loop-next-preserved c = record {
  closed = c.freeze_next-next.ensures.closed;
  marked = c.freeze_next-next.ensures.marked;
  slot =
      c.freeze_next-next.ensures.slot;
}

pub loop-next-smaller : goal.loop-next-smaller
loop-next-smaller c = rw c.in-Some.is c.freeze_next-next.ensures.falls

pub freeze_next-next-requires-clause-slot : goal.freeze_next-next-requires-clause-slot
freeze_next-next-requires-clause-slot c = rw c.in-Some.is at c.loop-next.invariant.slot

pub freeze_next-next-requires-clause-closed : goal.freeze_next-next-requires-clause-closed
freeze_next-next-requires-clause-closed c = rw c.in-Some.is at c.loop-next.invariant.closed

pub returns : goal.returns
returns c = ends c.args.bodies.now c.requires.known c.args.top c.loop-next.frozen
    (subst (λ o. AreFrozenUpTo c.args.bodies.now c.loop-next.frozen c.args.top o) (none-of c.loop-next.next c.in_default.not-Some) c.loop-next.invariant.closed)
