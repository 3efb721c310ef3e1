use Rattle.std.proofs.Common.{◌≡◌, drop}
use Rattle.fk_model.specs.World.{apply_all}
use Rattle.fk_store.specs.Store.Paths.{path}
use Rattle.fk_store.specs.Store.World.{world, IsSpace}
use Rattle.fk_boot.specs.FirstWorld as definitions
use Rattle.fk_boot.proofs.pages.put_zeros.Given as goal

abbrev pub invariant-loop-page : goal.invariant-loop-page
invariant-loop-page l = record {
  rest : apply_all (definitions.zero_pages (path l.fn.store l.space) (drop l.page-index l.pages))
      (world l.store) ≡ apply_all (definitions.zero_pages (path l.fn.store l.space) l.pages) (world l.fn.store);
  path : path l.store ≡ path l.fn.store;
  space : IsSpace l.store l.space;
}
