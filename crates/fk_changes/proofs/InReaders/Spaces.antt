-- Spaces: where an object is one, and which is which.
use Rattle.std.proofs.Common.{◌≡◌, ℕ, Bool, true, false, ◌&&◌, eqb, eq-eqb, ◌∷◌, Option, Some, refl, sym}
use Rattle.fk_model.specs.declared.names.Who.{Who}
use Rattle.fk_model.specs.Objects.Body.{Space}
use Rattle.fk_model.specs.Places.{Path, Ptr, same_path}
use Rattle.fk_model.specs.Valid.{birth_at}
use Rattle.fk_model.specs.World.{World}
use Rattle.fk_store.specs.Store.Paths.{place}

-- the space with a birth number stands where it says
pub space_there : (w : World) (x y : Path) (birth : ℕ) (holder : Option Ptr) → w.body x ≡ Some (Space birth holder) → y ≡ x → birth_at w y ≡ Some birth
space_there w x y birth holder there same = rw (same, there) refl

-- two spaces are one, where the paths of two objects in one slot of them tell these apart
pub same_space : (p : ℕ → Path) (who : Who) (n : ℕ) →
    same_path (place p who) (who.slot ∷ p n) ≡ (eqb who.space n && eqb who.slot who.slot) → eqb who.space n ≡ same_path (p who.space) (p n)
unfolding same_path
same_space p who n apart = let same : eqb who.slot who.slot ≡ true = eq-eqb who.slot who.slot refl in by (eqb who.space n) (rw same at apart)
  where
    by : (b : Bool) → same_path (p who.space) (p n) ≡ (b && true) → b ≡ same_path (p who.space) (p n)
    by true h = sym h
    by false h = sym h
