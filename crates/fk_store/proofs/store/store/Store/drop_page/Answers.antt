use Rattle.fk_store.proofs.InStore.changing.PageLaws.{drop_page-kept, drop_page-world, kinds-pages, paths-pages}
use Rattle.fk_store.proofs.store.store.Store.drop_page.Goals as goal

pub invariant_of-self : goal.invariant_of-self
invariant_of-self c = rw c.remove.ensures (drop_page-kept _ c.self.invariant c.args.space c.args.page)

pub returns : goal.returns
returns c = rw (← c.self.view_is) (record {
  world = rw c.remove.ensures (drop_page-world _ c.self.invariant c.args.space c.args.page);
  kinds = kinds-pages _ c.self.invariant c.remove.new.self;
  paths = paths-pages _ c.self.invariant c.remove.new.self;
})
