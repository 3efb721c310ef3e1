use Rattle.std.proofs.Common.{ℕ, ◌<◌, ◌∷◌, IsSome}
use Rattle.fk_model.specs.SyncRows.{asleep_on}
use Rattle.fk_store.specs.Store.Paths.{path}
use Rattle.fk_store.specs.Store.World.{world}
use Rattle.fk_turns.specs.Picks.Stands.{IsPicked}
use Rattle.fk_turns.specs.declared.picks.moves.Picker.TheVariants.{User}
use Rattle.fk_turns.proofs.picks.sleepers.wakes_one.Given as goal

-- none in the slots so far
abbrev pub invariant-loop-slot : goal.invariant-loop-slot
invariant-loop-slot l = let s = path l.store l.who.space in
    (k : ℕ) → k < l.slot → IsSome (asleep_on l.cond ((world l.store).body (k ∷ s))) → IsPicked l.store (User l.who) (k ∷ s) → ⊥
