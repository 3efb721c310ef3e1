use Rattle.fk_store.proofs.InHolds.HeldLaws.{told_in}
use Rattle.fk_store.proofs.holds.held.Held.all.Goals as goal

pub returns-else-self : goal.returns-else-self
returns-else-self c = rw (← c.self.view_is, c.as_slice.ensures.value) (told_in _ _ c.if-self.false)
