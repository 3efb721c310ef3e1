use Rattle.fk_store.proofs.InStore.finding.Enumerated.{home-some, home-place, home-older}
use Rattle.fk_store.proofs.store.store.Store.home.Goals as goal

pub returns : goal.returns
returns c = rw (← c.self.view_is) (record {
  some = home-some _ c.self.invariant c.args.space c.home.result c.home.ensures;
  place = home-place _ c.self.invariant c.args.space c.home.result c.home.ensures;
  older = home-older _ c.self.invariant c.args.space c.home.result c.home.ensures;
})
