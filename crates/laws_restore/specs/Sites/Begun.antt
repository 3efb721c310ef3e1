-- A restorer begins: its space is made, or its slot is taken.
use Rattle.std.specs.Prelude.{◌≡◌, ℕ, ◌≤◌, true, ◌⊎◌, IsSome, ◌∷◌, None}
use Rattle.fk_model.specs.declared.limits.TheConstants.{LAST_USER_SLOT}
use Rattle.fk_model.specs.declared.stage.Stage.TheVariants.{SpaceMakeHeld}
use Rattle.fk_model.specs.declared.statuses.status.TheConstants.{OK, OCCUPIED}
use Rattle.fk_model.specs.Places.{Path}
use Rattle.fk_model.specs.World.{World}
use Rattle.fk_model.specs.ObjectRows.{is_scratch}
use Rattle.fk_model.specs.Runs.{after}
use Rattle.laws_jobs.specs.Machines.{no_words, call_of}
use Rattle.laws_jobs.specs.Machines.{Reply, IsAnswered}
use Rattle.laws_restore.specs.Sites.Orders.{Site, Shows, alone}
use Rattle.laws_restore.specs.Sites.Orders.Pin.{NoPin}

abbrev pub first : Site
first = record { built = alone; spot = λ k. None; pin = NoPin }

-- a restore's first call makes an empty space in a free slot, or is told that the slot is taken and changes nothing
abbrev pub Begins : Type 0
Begins = (nester : Path) (slot : ℕ) (w : World) (reply : Reply) → slot ≤ LAST_USER_SLOT
    → ((k : ℕ) → is_scratch nester (k ∷ nester) ≡ true → w.body (k ∷ nester) ≡ None) →
    IsAnswered nester w (SpaceMakeHeld slot) no_words reply →
    ((w.body (slot ∷ nester) ≡ None) × (reply.status ≡ OK) × Shows nester slot first (after w (call_of nester (SpaceMakeHeld slot) no_words))) ⊎
    (IsSome (w.body (slot ∷ nester)) × (reply.status ≡ OCCUPIED) × (after w (call_of nester (SpaceMakeHeld slot) no_words) ≡ w))
