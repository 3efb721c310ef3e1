use Rattle.fk_store.proofs.InStore.finding.Outside.{slots-live}
use Rattle.fk_store.proofs.store.store.Store.slots.Goals as goal

pub returns : goal.returns
returns c = rw (← c.self.view_is) (slots-live _ c.self.invariant c.slots.ensures)
