-- Ways down, slot by slot.
use Rattle.std.proofs.Common.{◌≡◌, ℕ, suc, List, [], ◌∷◌, ◌++◌, length, refl, ap}
use Rattle.fk_model.specs.Places.{Path}
use Rattle.fk_model.specs.ObjectRows.{outermost}
use Rattle.laws_checkpoint.specs.Foreign.{way_from}

abbrev pub follow : Path → List ℕ → Path
follow x [] = x
follow x (k ∷ ways) = follow (k ∷ x) ways

pub follow-way : (x : Path) (s : Path) (ways : List ℕ) → follow x (way_from ways s) ≡ follow (s ++ x) ways
follow-way x [] ways = refl
follow-way x (k ∷ s) ways = follow-way x s (k ∷ ways)

-- the last step of a way is its outermost slot
pub split : (j : ℕ) (q : Path) → (rest : Path) × ((j ∷ q ≡ rest ++ outermost (j ∷ q) ∷ []) × (length rest ≡ length q))
split j [] = ([], (refl, refl))
split j (i ∷ q) = let its = split i q in (j ∷ its.0, (ap (λ (y : Path). j ∷ y) its.1.0, ap suc its.1.1))

pub joined : (rest : Path) (k : ℕ) (y : Path) → (rest ++ k ∷ []) ++ y ≡ rest ++ k ∷ y
joined [] k y = refl
joined (j ∷ rest) k y = ap (λ (z : Path). j ∷ z) (joined rest k y)
