use Rattle.fk_store.proofs.InStore.finding.HeldBirths.{held-birth}
use Rattle.fk_store.proofs.store.store.Store.held_births.Goals as goal

pub returns : goal.returns
returns c = rw (← c.self.view_is) (held-birth _ c.self.invariant)
