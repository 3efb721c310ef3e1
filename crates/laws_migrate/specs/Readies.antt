-- Where every packet that was sent has come and nothing outside both subtrees is held, a porter's call is ready.
use Rattle.std.specs.Prelude.{◌≡◌, ℕ, ◌≤◌, true, false, ◌⊎◌, List, ◌∷◌}
use Rattle.fk_model.specs.declared.limits.TheConstants.{LAST_USER_SLOT, LAST_PORTER_SLOT}
use Rattle.fk_model.specs.declared.stage.Stage.TheVariants.{SpaceMakeHeld}
use Rattle.fk_model.specs.Objects.{holds}
use Rattle.fk_model.specs.StateRows.{is_native}
use Rattle.fk_model.specs.World.{World}
use Rattle.fk_image.specs.declared.image.image.Image.{Image}
use Rattle.laws_jobs.specs.Calls.{IsUnheldOutside}
use Rattle.laws_jobs.specs.Machines.{no_words, call_of, IsReadyAt}
use Rattle.laws_handover.specs.Packets.{Codec}
use Rattle.laws_handover.specs.Handover as handover
use Rattle.laws_handover.specs.Handover.{Pair}
use Rattle.laws_handover.specs.Laws.{AllCame, is_over}
use Rattle.laws_migrate.specs.Migration.{top, kernels, Both, Step, HasRoom, IsReadyIn}
use Rattle.laws_migrate.specs.Laws.{Happens, pair_after}

-- a restore's first call is ready wherever its porter stands and nothing outside its slot is held
abbrev pub FirstIsReady : Type 0
FirstIsReady = (slot : ℕ) (v : World) → slot ≤ LAST_USER_SLOT → holds is_native (v.body (LAST_PORTER_SLOT ∷ top)) ≡ true → IsUnheldOutside (slot ∷ top) v →
    IsReadyAt v (call_of top (SpaceMakeHeld slot) no_words)

pub record IsUnhindered {P : Type 0} (codec : Codec Image P) (slot : ℕ) (p : Both codec slot) : Type 0 where
  pub came : AllCame (kernels codec slot) p
  pub near : IsUnheldOutside (slot ∷ top) p.near_world
  pub far : IsUnheldOutside (slot ∷ top) p.far_world
  pub near_room : HasRoom p.near_world
  pub far_room : HasRoom p.far_world
  pub porter : holds is_native (p.far_world.body (LAST_PORTER_SLOT ∷ top)) ≡ true

-- from the hold on, until it is over, a porter's call is ready wherever every packet that was sent has come and nothing outside the two subtrees is held
abbrev pub MigrationIsReady : Type 0 → Type 0
MigrationIsReady P = (codec : Codec Image P) (slot : ℕ) (w v : World) (es : List (Step codec slot)) (h : World) → Happens codec slot w v es h →
    IsUnhindered codec slot (pair_after codec slot w v es) →
    is_over (pair_after codec slot w v es).near (pair_after codec slot w v es).far ≡ false →
    IsReadyIn codec slot (pair_after codec slot w v es) handover.NearOwn ⊎
    IsReadyIn codec slot (pair_after codec slot w v es) handover.FarOwn
