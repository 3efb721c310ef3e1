use Rattle.fk_store.proofs.InStore.finding.Sizes.{registers-long, registers-shaped, pages-long}
use Rattle.fk_store.proofs.store.store.Store.sizes.Goals as goal

pub returns : goal.returns
returns c = rw (← c.self.view_is) (record {
  pages = pages-long _ c.self.invariant;
  registers = registers-long _ c.self.invariant;
  shaped =
      registers-shaped _ c.self.invariant;
})
