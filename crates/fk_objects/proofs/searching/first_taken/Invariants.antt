use Rattle.std.proofs.Common.{◌≡◌, None}
use Rattle.fk_model.specs.ObjectRows.{taken_from}
use Rattle.fk_model.specs.Searches.{lowest}
use Rattle.fk_store.specs.Store.Paths.{path}
use Rattle.fk_store.specs.Store.World.{world}
use Rattle.fk_objects.proofs.searching.first_taken.Given as goal

-- none so far
abbrev pub invariant-loop-slot : goal.invariant-loop-slot
invariant-loop-slot l = lowest l.slot (taken_from (world l.store) (path l.store l.space) l.last l.from) ≡ None
