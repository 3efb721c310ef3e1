use Rattle.std.proofs.Common.{sym}
use Rattle.fk_store.proofs.InStore.finding.HoldLaws.{decider-free}
use Rattle.fk_store.proofs.store.store.Store.decider.Goals as goal

-- nothing is held
pub returns-else-is_any_held-clause-decider : goal.returns-else-is_any_held-clause-decider
returns-else-is_any_held-clause-decider c = rw (← c.self.view_is) (sym (decider-free _ (c.is_any_held.ensures c.if-is_any_held.false) _))
