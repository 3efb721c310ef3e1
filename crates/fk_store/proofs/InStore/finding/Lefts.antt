-- Lefts: a walk through those whose pointers lead to an object. Of those at whose paths something holds, none is passed.
use Rattle.std.proofs.Common.{◌≡◌, ◌<◌, ◌⊎◌, inl, inr, ℕ, List, [], ◌∷◌, length, sym, ap, subst, ◌∙◌, arith}
use Rattle.fk_model.specs.declared.names.Who.{Who}
use Rattle.fk_model.specs.Places.{Path}
use Rattle.fk_model.proofs.walks.Members.{IsIn}
use Rattle.fk_store.specs.Store.Paths.{place}

-- each path of which this holds is that of one of these
abbrev pub AreLeft : (ℕ → Path) → (Path → Type 0) → List Who → Type 0
AreLeft p Holds whos = (x : Path) → Holds x → (from : Who) × (place p from ≡ x) × IsIn from whos

module _ (p : ℕ → Path) (Holds : Path → Type 0) where
  pub left_more : (from : Who) (whos more : List Who) → whos ≡ from ∷ more → (Holds (place p from) → ⊥) → AreLeft p Holds whos → AreLeft p Holds more
  left_more from whos more is off left x there =
      let found = left x there in by found.0 found.1 (subst (IsIn found.0) is found.2)
    where
      by : (q : Who) → place p q ≡ x → (from ≡ q) ⊎ IsIn q more → (q : Who) × (place p q ≡ x) × IsIn q more
      by q here (inl same) = absurd (off (subst Holds (sym (ap (place p) same ∙ here)) there))
      by q here (inr comes) = (q, here, comes)

  pub nobody_left : (whos : List Who) → whos ≡ [] → AreLeft p Holds whos → (x : Path) → Holds x → ⊥
  nobody_left whos none left x there = let found = left x there in subst (IsIn found.0) none found.2

pub fewer_left : (from : Who) (whos more : List Who) → whos ≡ from ∷ more → length more < length whos
fewer_left from whos more is = let long : length whos ≡ length (from ∷ more) = ap length is in omega (arith, long)
