use Rattle.std.proofs.Common.{◌≡◌, ◌+◌, ◌≤◌, true, length}
use Rattle.std.specs.List.{sum_by}
use Rattle.fk_model.specs.ObjectRows.{pointer_count}
use Rattle.fk_store.specs.Store.Paths.{path, place}
use Rattle.fk_store.specs.Store.World.{world}
use Rattle.fk_store.proofs.InStore.finding.Outside.{one_there}
use Rattle.fk_store.proofs.store.store.Store.count_leaders.Given as goal

-- what was counted, and what is yet to come
abbrev pub invariant-loop-from : goal.invariant-loop-from
invariant-loop-from l = record {
  total : l.leaders.1 ≡ true →
      l.count + sum_by (one_there l.fn.self (path l.fn.self l.fn.base) (path l.fn.self l.fn.nester)) l.leaders.0
      ≡ pointer_count (world l.fn.self) (path l.fn.self l.fn.base) (path l.fn.self l.fn.nester) (place (path l.fn.self) l.fn.who);
  low : l.count + length l.leaders.0 ≤ 5497558138880;
}

abbrev pub decreases-loop-from : goal.decreases-loop-from
decreases-loop-from l = length l.leaders.0
