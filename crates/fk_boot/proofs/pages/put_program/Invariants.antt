use Rattle.std.proofs.Common.{◌≡◌}
use Rattle.std.specs.List.{flat_map}
use Rattle.fk_model.specs.World.{apply_all}
use Rattle.fk_model.specs.Searches.{slots}
use Rattle.fk_store.specs.Store.Paths.{path}
use Rattle.fk_store.specs.Store.World.{world, IsSpace}
use Rattle.fk_boot.specs.FirstWorld as definitions
use Rattle.fk_boot.proofs.pages.put_program.Given as goal

abbrev pub invariant-loop-page : goal.invariant-loop-page
invariant-loop-page l = record {
  world : world l.store ≡ apply_all (flat_map (definitions.program_page (path l.fn.store l.space) l.words) (slots l.page)) (world l.fn.store);
  path : path l.store ≡ path l.fn.store;
  space : IsSpace l.store l.space;
}
