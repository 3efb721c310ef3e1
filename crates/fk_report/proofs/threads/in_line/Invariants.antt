use Rattle.fk_store.specs.Store.World.{world}
use Rattle.fk_report.specs.Threads.{IsLine}
use Rattle.fk_report.proofs.ThreadScans.{AreFound, left_from}
use Rattle.fk_report.proofs.threads.in_line.Given as goal

-- each user thread stands in the line, or is yet to come
abbrev pub invariant-loop-at : goal.invariant-loop-at
invariant-loop-at l = record {
  line : IsLine (world l.store) l.line.threads l.line.last.items;
  found : AreFound l.store l.at l.line.threads;
}

abbrev pub decreases-loop-at : goal.decreases-loop-at
decreases-loop-at l = left_from l.at
