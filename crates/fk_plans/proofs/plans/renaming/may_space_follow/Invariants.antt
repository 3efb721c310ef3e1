use Rattle.std.proofs.Common.{◌≡◌, ◌<◌, ℕ, true, ◌∷◌}
use Rattle.fk_model.specs.Freezing.{may_follow}
use Rattle.fk_store.specs.Store.Paths.{path, place}
use Rattle.fk_store.specs.Store.World.{world}
use Rattle.fk_plans.proofs.plans.renaming.may_space_follow.Given as goal

-- those so far may follow
abbrev pub invariant-loop-slot : goal.invariant-loop-slot
invariant-loop-slot l = (k : ℕ) → k < l.slot →
    may_follow (world l.store) (place (path l.store) l.me) (place (path l.store) l.renamed) (k ∷ path l.store l.renamed.space) ≡ true
