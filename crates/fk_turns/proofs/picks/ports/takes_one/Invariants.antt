use Rattle.std.proofs.Common.{◌≡◌, ℕ, ◌<◌, ◌-◌, ◌∷◌, true}
use Rattle.fk_model.specs.LinkRows.{is_member}
use Rattle.fk_model.specs.Places.{Path}
use Rattle.fk_store.specs.Store.Paths.{path}
use Rattle.fk_store.specs.Store.World.{world}
use Rattle.fk_turns.specs.Picks.Stands.{StandsAt, IsPicked}
use Rattle.fk_turns.specs.declared.picks.moves.Picker.TheVariants.{User}
use Rattle.fk_turns.proofs.picks.ports.takes_one.Given as goal

-- nobody at the ports in the slots so far
abbrev pub invariant-loop-slot : goal.invariant-loop-slot
invariant-loop-slot l = let s = path l.store l.who.space in
    (k : ℕ) → k < l.from → is_member l.set ((world l.store).body (k ∷ s)) ≡ true →
    (q : Path) → StandsAt (world l.store) (k ∷ s) q → IsPicked l.store (User l.who) q → ⊥

abbrev pub decreases-loop-slot : goal.decreases-loop-slot
decreases-loop-slot l = 256 - l.from
