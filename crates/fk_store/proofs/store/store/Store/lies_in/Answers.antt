use Rattle.fk_store.proofs.InStore.finding.Within.{space_of}
use Rattle.fk_store.proofs.store.store.Store.lies_in.Goals as goal

pub is_beneath-requires-clause-space : goal.is_beneath-requires-clause-space
is_beneath-requires-clause-space c = rw (← c.self.view_is) (space_of _ c.self.invariant c.args.who (rw (← c.self.view_is) at c.requires.live))
