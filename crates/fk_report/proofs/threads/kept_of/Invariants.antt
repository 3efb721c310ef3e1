use Rattle.std.specs.BTreeMap.{values}
use Rattle.fk_store.specs.Store.World.{world}
use Rattle.fk_report.specs.Threads.{AreKept}
use Rattle.fk_report.proofs.ThreadScans.{AreFound, left_from}
use Rattle.fk_report.proofs.threads.kept_of.Given as goal

-- each user thread is kept, or is yet to come
abbrev pub invariant-loop-at : goal.invariant-loop-at
invariant-loop-at l = record {
  kept : AreKept (world l.store) l.kept.entries;
  found : AreFound l.store l.at (values l.kept);
}

abbrev pub decreases-loop-at : goal.decreases-loop-at
decreases-loop-at l = left_from l.at
