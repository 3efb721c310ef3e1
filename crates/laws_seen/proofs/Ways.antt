-- Ways: a move that isn't seen as other is onward or unseen.
use Rattle.std.proofs.Common.{◌≡◌, ◌⊎◌, inl, inr, ℕ, ◌∷◌, Bool, true, false, Option, Some, None, refl}
use Rattle.fk_model.specs.Places.{Path}
use Rattle.fk_model.specs.World.{World}
use Rattle.fk_model.specs.Runs.{Event}
use Rattle.fk_model.specs.Further.{Onward}
use Rattle.fk_model.specs.Seen.{IsSeen, FitsNoRow, LeavesCut, writes_through, changes_of, seen_row}
use Rattle.fk_model.specs.Seen.Seen.{Onwards, Unseen, Other}
use Rattle.laws_seen.specs.Ways.{WhatIsntOtherIsOnwardOrUnseen}
use Rattle.laws_seen.proofs.Stable.{stable_bool}
use Rattle.laws_seen.proofs.Bodies.{stable_world}

module _ (w : World) (nester : Path) (slot : ℕ) (e : Event) (not_other : IsSeen w nester slot e Other → ⊥) where
  -- where no row fits, the cut stays and nobody inside comes to serve the outside, for neither can be otherwise
  left : FitsNoRow w (slot ∷ nester) e → LeavesCut w nester slot e
  left none = (
    stable_world _ _ (λ differ. not_other (none, λ leaves. differ leaves.0)),
    stable_bool _ _ (λ differ. not_other (none, λ leaves. differ leaves.1)),
  )

  unseen : FitsNoRow w (slot ∷ nester) e → ((m : Onward) × IsSeen w nester slot e (Onwards m)) ⊎ IsSeen w nester slot e Unseen
  unseen none = inr (none, left none)

  pub one_way : ((m : Onward) × IsSeen w nester slot e (Onwards m)) ⊎ IsSeen w nester slot e Unseen
  one_way = by (writes_through w (slot ∷ nester) e (changes_of w e)) refl (seen_row w (slot ∷ nester) e) refl
    where
      by : (through : Bool) → writes_through w (slot ∷ nester) e (changes_of w e) ≡ through → (row : Option Onward) → seen_row w (slot ∷ nester) e ≡ row →
          ((m : Onward) × IsSeen w nester slot e (Onwards m)) ⊎ IsSeen w nester slot e Unseen
      by true writes row is = unseen (inl writes)
      by false off None is = unseen (inr is)
      by false off (Some m) is = inl (m, (off, is))

pub what_isnt_other : WhatIsntOtherIsOnwardOrUnseen
what_isnt_other w nester slot e not_other = one_way w nester slot e not_other
