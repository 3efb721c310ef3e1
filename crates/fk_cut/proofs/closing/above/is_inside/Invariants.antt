use Rattle.std.proofs.Common.{◌≡◌}
use Rattle.fk_model.specs.Places.{is_within}
use Rattle.fk_store.specs.Store.World.{place_of, IsLive}
use Rattle.fk_cut.proofs.closing.above.is_inside.Given as goal

abbrev pub invariant-loop-root : goal.invariant-loop-root
invariant-loop-root l = record {
  live : IsLive l.store l.at;
  same : is_within (place_of l.store l.root) (place_of l.store l.at) ≡ is_within (place_of l.store l.root) (place_of l.store l.fn.who);
}

abbrev pub decreases-loop-root : goal.decreases-loop-root
decreases-loop-root l = l.at.space
