use Rattle.fk_store.proofs.InStore.finding.Unfrozen.{unfrozen}
use Rattle.fk_store.proofs.store.store.Store.is_frozen.Goals as goal

-- nothing above it is held
pub returns-else-may_be_frozen : goal.returns-else-may_be_frozen
returns-else-may_be_frozen c = rw (← c.self.view_is) (unfrozen _ c.self.invariant c.args.space (c.may_be_frozen.ensures c.if-may_be_frozen.false))
