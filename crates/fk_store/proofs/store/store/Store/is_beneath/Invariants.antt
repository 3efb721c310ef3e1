use Rattle.fk_store.proofs.InStore.finding.Within.{IsUp}
use Rattle.fk_store.proofs.store.store.Store.is_beneath.Given as goal

abbrev pub invariant-loop-at : goal.invariant-loop-at
invariant-loop-at l = IsUp l.self l.base l.fn.space l.at

abbrev pub decreases-loop-at : goal.decreases-loop-at
decreases-loop-at l = l.at
