-- A closed subtree is plain, where it has no porter and no served port.
use Rattle.std.specs.Prelude.{◌≡◌, ℕ, false, ◌∷◌, ◌++◌, Option, Some}
use Rattle.fk_model.specs.Places.{Path, Ptr}
use Rattle.fk_model.specs.Objects.{holds, is_served}
use Rattle.fk_model.specs.Objects.Body.{Space}
use Rattle.fk_model.specs.World.{World}
use Rattle.fk_model.specs.StateRows.{is_native}
use Rattle.fk_model.specs.Whole.{IsWhole, IsSavable}
use Rattle.fk_model.specs.Cut.{IsPlain}
use Rattle.fk_model.specs.Closed.{IsClosed}
use Rattle.fk_model.specs.Sound.{IsUncut}

-- a subtree without a porter and without a served port
pub record IsUsersAlone (w : World) (nester : Path) (slot : ℕ) : Type 0 where
  pub birth : ℕ
  pub holder : Option Ptr
  pub root : w.body (slot ∷ nester) ≡ Some (Space birth holder)
  pub no_porter : (q : Path) → holds is_native (w.body (q ++ slot ∷ nester)) ≡ false
  pub unserved : (q : Path) → holds is_served (w.body (q ++ slot ∷ nester)) ≡ false

-- what lies in the slots of scratch is told by what can be saved
abbrev pub ClosedIsPlain : Type 0
ClosedIsPlain = (w : World) (nester : Path) (slot : ℕ) → IsWhole w → IsSavable w → IsUncut w → IsUsersAlone w nester slot → IsClosed w nester slot →
    IsPlain w nester slot
