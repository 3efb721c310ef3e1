-- A root keeps its porter, whatever users and native servers do. So a migration is ready where the far root had its porter at the beginning.
use Rattle.std.specs.Prelude.{◌≡◌, ℕ, true, false, ◌⊎◌, List, ◌∷◌}
use Rattle.fk_model.specs.declared.limits.TheConstants.{LAST_PORTER_SLOT}
use Rattle.fk_model.specs.Objects.{holds}
use Rattle.fk_model.specs.Runs.{Event, after}
use Rattle.fk_model.specs.StateRows.{is_native}
use Rattle.fk_model.specs.World.{World}
use Rattle.fk_image.specs.declared.image.image.Image.{Image}
use Rattle.laws_moves.specs.Frozen.Holding.{IsUsersMove}
use Rattle.laws_jobs.specs.Calls.{IsUnheldOutside}
use Rattle.laws_handover.specs.Packets.{Codec}
use Rattle.laws_handover.specs.Handover as handover
use Rattle.laws_handover.specs.Laws.{AllCame, is_over}
use Rattle.laws_migrate.specs.Migration.{top, kernels, Both, Step, HasRoom, IsReadyIn}
use Rattle.laws_migrate.specs.Laws.{Happens, pair_after}

-- the root's porter stands in its slot
abbrev pub HasPorter : World → Type 0
HasPorter w = holds is_native (w.body (LAST_PORTER_SLOT ∷ top)) ≡ true

-- no move of a user or a native server takes the root's porter away
abbrev pub RootKeepsPorter : Type 0
RootKeepsPorter = (w : World) (e : Event) → IsUsersMove top w e → HasPorter w → HasPorter (after w e)

-- every packet that was sent has come, nothing outside both subtrees is held, and birth numbers are left
pub record IsCalmNow {P : Type 0} (codec : Codec Image P) (slot : ℕ) (p : Both codec slot) : Type 0 where
  pub came : AllCame (kernels codec slot) p
  pub near : IsUnheldOutside (slot ∷ top) p.near_world
  pub far : IsUnheldOutside (slot ∷ top) p.far_world
  pub near_room : HasRoom p.near_world
  pub far_room : HasRoom p.far_world

-- a porter's call is ready wherever the far root had its porter at the beginning, whatever was done before the copy is made
abbrev pub MigrationGoesOn : Type 0 → Type 0
MigrationGoesOn P = (codec : Codec Image P) (slot : ℕ) (w v : World) (es : List (Step codec slot)) (h : World) → Happens codec slot w v es h →
    HasPorter v → IsCalmNow codec slot (pair_after codec slot w v es) →
    is_over (pair_after codec slot w v es).near (pair_after codec slot w v es).far ≡ false →
    IsReadyIn codec slot (pair_after codec slot w v es) handover.NearOwn ⊎
    IsReadyIn codec slot (pair_after codec slot w v es) handover.FarOwn
