use Rattle.std.proofs.Common.{◌≡◌, None}
use Rattle.fk_model.specs.Searches.{lowest}
use Rattle.fk_store.specs.Store.Paths.{path}
use Rattle.fk_store.specs.Store.World.{world}
use Rattle.fk_pager.specs.Desks.{region_in}
use Rattle.fk_pager.proofs.desks.first_region.Given as goal

-- none so far
abbrev pub invariant-loop-slot : goal.invariant-loop-slot
invariant-loop-slot l = lowest l.slot (region_in (world l.store) (path l.store l.space)) ≡ None
