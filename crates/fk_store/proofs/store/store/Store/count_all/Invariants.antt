use Rattle.fk_store.specs.Store.Paths.{path, place}
use Rattle.fk_store.specs.Store.World.{world}
use Rattle.fk_store.proofs.InStore.finding.Counting.{IsCounted, left_from}
use Rattle.fk_store.proofs.InStore.finding.Outside.{weight}
use Rattle.fk_store.proofs.store.store.Store.count_all.Given as goal

-- what was counted, and what is yet to come
abbrev pub invariant-loop-at : goal.invariant-loop-at
invariant-loop-at l = IsCounted l.self (weight (world l.self) (path l.self l.base) (path l.self l.nester) (place (path l.self) l.who)) l.at l.count

abbrev pub decreases-loop-at : goal.decreases-loop-at
decreases-loop-at l = left_from l.self l.at
