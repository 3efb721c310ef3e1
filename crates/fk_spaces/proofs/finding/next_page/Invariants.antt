use Rattle.std.proofs.Common.{◌≡◌, None}
use Rattle.fk_model.specs.Searches.{lowest}
use Rattle.fk_store.specs.Store.Paths.{path}
use Rattle.fk_store.specs.Store.World.{world}
use Rattle.fk_spaces.proofs.NextPages.{from_on}
use Rattle.fk_spaces.proofs.finding.next_page.Given as goal

-- none so far
abbrev pub invariant-loop-page : goal.invariant-loop-page
invariant-loop-page l = lowest l.page (from_on (world l.store) (path l.store l.space) l.from) ≡ None
