-- Members: ports of a set of a space.
use Rattle.std.proofs.Common.{◌≡◌, ℕ, Bool, true, false, ◌&&◌, cond, ◌∷◌, Option, Some, None, refl}
use Rattle.fk_model.specs.LinkRows.{is_member, slot_in_set}
use Rattle.fk_model.specs.Places.{Path, same_path}
use Rattle.fk_model.specs.Places.Ptr.{At}
use Rattle.fk_model.specs.World.{World}

-- what is in another space, or in no such set
pub no_place : (w : World) (s t : Path) (k set : ℕ) → same_path t s ≡ false → None ≡ slot_in_set w s set (At (k ∷ t))
no_place w s t k set other = rw other refl

pub no_member : (w : World) (s t : Path) (k set : ℕ) → is_member set (w.body (k ∷ t)) ≡ false → None ≡ slot_in_set w s set (At (k ∷ t))
no_member w s t k set other = by (same_path t s)
  where
    by : (b : Bool) → None ≡ cond {A = Option ℕ} (b && is_member set (w.body (k ∷ t))) (Some k) None
    by true = rw other refl
    by false = refl

pub member : (w : World) (s t : Path) (k set : ℕ) → same_path t s ≡ true → is_member set (w.body (k ∷ t)) ≡ true → Some k ≡ slot_in_set w s set (At (k ∷ t))
member w s t k set here is = rw (here, is) refl
