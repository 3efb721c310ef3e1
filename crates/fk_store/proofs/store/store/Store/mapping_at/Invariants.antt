use Rattle.std.proofs.Common.{◌≡◌, ◌≤◌, ◌-◌, None}
use Rattle.fk_model.specs.Searches.{lowest}
use Rattle.fk_store.specs.Store.Paths.{path}
use Rattle.fk_store.specs.Store.World.{world}
use Rattle.fk_store.specs.Store.Reaches.{covering_mapping}
use Rattle.fk_store.proofs.store.store.Store.mapping_at.Given as goal

-- none so far
abbrev pub invariant-loop-slot : goal.invariant-loop-slot
invariant-loop-slot l = record {
  none : lowest l.slot (covering_mapping (world l.self) (path l.self l.space) l.page) ≡ None;
  within : l.slot ≤ 256;
}

abbrev pub decreases-loop-slot : goal.decreases-loop-slot
decreases-loop-slot l = 256 - l.slot
