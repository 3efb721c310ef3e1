use Rattle.fk_store.proofs.InStore.finding.HeldBirths.{all-held}
use Rattle.fk_store.proofs.store.store.Store.held.Goals as goal

pub returns : goal.returns
returns c = rw (← c.self.view_is) (all-held _ c.self.invariant c.held.result c.held.ensures)
