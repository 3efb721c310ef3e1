-- A thread inside serves nobody, in the whole world, where nobody inside is seen to be served by it.
use Rattle.std.specs.Prelude.{◌≡◌, ℕ, false, ◌∷◌, ◌++◌}
use Rattle.fk_model.specs.Places.{Path}
use Rattle.fk_model.specs.Objects.{Talk, Fault, holds}
use Rattle.fk_model.specs.World.{World, serves}
use Rattle.fk_model.specs.Searches.{talk_at, fault_at, is_serving}
use Rattle.fk_model.specs.Valid.{IsConsistent}
use Rattle.laws_restore.specs.Sites.Orders.{Site, Shows}
use Rattle.laws_jobs.specs.Leads.{IsUnledAt}

-- nobody outside but scratch leads in at all
abbrev pub IsUnled : Path → ℕ → World → Type 0
IsUnled nester slot w = (q : Path) → IsUnledAt nester slot (q ++ slot ∷ nester) w

abbrev pub IsIdleIn : World → Path → Type 0
IsIdleIn c z = (y : Path) → (holds (λ (talk : Talk). serves z talk.peer) (talk_at c y) ≡ false)
    × (holds (λ (fault : Fault). holds (serves z) fault.taker) (fault_at c y) ≡ false)

-- a thread inside serves nobody in the whole world, where nobody inside is seen to be served by it
abbrev pub ServesNobody : Type 0
ServesNobody = (nester : Path) (slot : ℕ) (g : Site) (w : World) (j : ℕ) (z : Path) → Shows nester slot g w → IsUnled nester slot w → IsConsistent w
    → IsIdleIn g.built (j ∷ z) → is_serving w (j ∷ (z ++ slot ∷ nester)) ≡ false
