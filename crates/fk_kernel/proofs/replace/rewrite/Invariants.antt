use Rattle.std.proofs.Common.{◌≡◌, All, drop}
use Rattle.fk_store.specs.Store.Paths.{path}
use Rattle.fk_store.specs.Store.World.{world}
use Rattle.fk_kernel.specs.Replaced.{IsPageThere, rewritten}
use Rattle.fk_kernel.proofs.replace.rewrite.Given as goal

-- the pages that are left lead to the end, and each is there
abbrev pub invariant-loop-page : goal.invariant-loop-page
invariant-loop-page l = record {
  paths : path l.store ≡ path l.fn.store;
  rest : rewritten (path l.fn.store) (drop l.page-index l.pages) (world l.store) ≡ rewritten (path l.fn.store) l.pages (world l.fn.store);
  there : All (IsPageThere (path l.fn.store) (world l.store)) l.pages;
}
