-- Tabled: the finite map that rows make, where each slot of a space has a name.
use Rattle.std.specs.Prelude.{◌≡◌, ℕ, suc, ◌<◌, ◌==◌, ◌&&◌, List, [], ◌∷◌, Option, Some, None}
use Rattle.std.specs.declared.cmp.Ordering.{Ordering}
use Rattle.std.specs.declared.cmp.Ordering.TheVariants.{Less}
use Rattle.std.specs.Ordering.{eq_by_cmp}
use Rattle.std.specs.Cmp.{IsTotalOrder}
use Rattle.std.specs.FinMap.{FinMap, from_sorted, IsAntisymmetric}

abbrev pub with_first : {K V : Type 0} → K → Option V → List (K × V) → List (K × V)
with_first k None es = es
with_first k (Some v) es = (k, v) ∷ es

-- the entries of a space's cells from a slot on, and what follows
unfoldable pub row_entries : {K V : Type 0} → (ℕ → ℕ → K) → ℕ → ℕ → List (Option V) → List (K × V) → List (K × V)
row_entries name space slot [] rest = rest
row_entries name space slot (c ∷ cells) rest = with_first (name space slot) c (row_entries name space (suc slot) cells rest)

-- the entries of the rows from a space on
unfoldable pub all_entries : {K V : Type 0} → (ℕ → ℕ → K) → ℕ → List (List (Option V)) → List (K × V)
all_entries name space [] = []
all_entries name space (row ∷ rows) = row_entries name space 0 row (all_entries name (suc space) rows)

unfoldable pub map_of_rows : {K V : Type 0} → (R : K → K → Ordering) → (ℕ → ℕ → K) → List (List (Option V)) → FinMap R V
map_of_rows R name rows = from_sorted {R = R} (all_entries name 0 rows)

-- a number for what stands in a cell, and none for an empty one
abbrev pub of_cell : {V : Type 0} → (V → ℕ) → Option V → ℕ
of_cell f None = 0
of_cell f (Some v) = f v

-- each slot of a space has a name of its own, and the names are in the order of spaces and slots
pub record IsNaming {K : Type 0} (R : K → K → Ordering) (name : ℕ → ℕ → K) : Type 0 where
  pub total : IsTotalOrder R
  pub exact : IsAntisymmetric R
  pub spaces : (s j t k : ℕ) → s < t → R (name s j) (name t k) ≡ Less
  pub slots : (s j k : ℕ) → j < k → R (name s j) (name s k) ≡ Less
  pub tied : (s j t k : ℕ) → eq_by_cmp R (name s j) (name t k) ≡ (s == t && j == k)
  pub space : K → ℕ
  pub slot : K → ℕ
  pub named : (q : K) → name (space q) (slot q) ≡ q
