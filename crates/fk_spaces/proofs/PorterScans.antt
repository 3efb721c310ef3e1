-- PorterScans: which objects are yet to come in a search for a space that a porter holds.
use Rattle.std.proofs.Common.{◌≡◌, ℕ, suc, ◌+◌, ◌<◌, ◌≤◌, ◌==◌, arith, Bool, true, false, inl, inr, IsSome, List, [], ◌∷◌, length, get_or, Option}
use Rattle.std.proofs.Common.{Some, None, refl, sym, subst}
use Rattle.std.specs.List.{list_any}
use Rattle.std.proofs.lemmas.Bool.{and_parts}
use Rattle.std.proofs.lemmas.Bool.Decides.{nat_tests}
use Rattle.fk_model.specs.declared.names.Who.{Who}
use Rattle.fk_model.specs.Places.{Path, same_path}
use Rattle.fk_model.specs.Searches.{beneath}
use Rattle.fk_model.specs.SpaceRows.{has_porter}
use Rattle.fk_model.specs.Holds.{holder_of}
use Rattle.fk_model.specs.Objects.{holds}
use Rattle.fk_model.proofs.walks.Members.{IsIn, any_in, of_any}
use Rattle.fk_model.proofs.walks.PlaceLaws.{same_path_refl}
use Rattle.fk_store.specs.Store.Contents.{Contents}
use Rattle.fk_store.specs.Store.Paths.{path}
use Rattle.fk_store.specs.Store.World.{world, place_of, IsSpace}
use Rattle.fk_changes.proofs.InReaders.Beneath.{met_any}
use Rattle.fk_spaces.specs.Sought.{is_sought, is_sought_at}

pub is_there : (m : Contents) (s : Path) (who : Who) → is_sought m s who ≡ true → true ≡ list_any (has_porter (world m)) (beneath (world m) s)
is_there m s who sought =
    let both = and_parts (has_porter (world m) (place_of m who)) (list_any (same_path (place_of m who)) (beneath (world m) s)) sought in
    sym (any_in (has_porter (world m)) (place_of m who) (beneath (world m) s) (met_any s (place_of m who) (beneath (world m) s) both.1) both.0)

-- no space with a lower birth number is sought
abbrev pub NoneBelow : Contents → Path → ℕ → Type 0
NoneBelow m s most = (n : ℕ) → n < most → 0 < n → IsSpace m n → is_sought_at m s (path m n) ≡ false

pub none_so_far : (m : Contents) (s : Path) (at : ℕ) → NoneBelow m s at →
    (0 < at → IsSpace m at → is_sought_at m s (path m at) ≡ false) → NoneBelow m s (at + 1)
none_so_far m s at so_far here n low = by (n == at) refl
  where
    by : (b : Bool) → (n == at) ≡ b → 0 < n → IsSpace m n → is_sought_at m s (path m n) ≡ false
    by true e pos live =
        let same : n ≡ at = grind (arith, nat_tests) in
        subst (λ k. is_sought_at m s (path m k) ≡ false) (sym same) (here (subst (λ k. 0 < k) same pos) (subst (IsSpace m) same live))
    by false e pos live = so_far n (grind (arith, nat_tests)) pos live

holds_some : {A : Type 0} (p : A → Bool) (o : Option A) → holds p o ≡ true → IsSome o
holds_some p None h = absurd (cc)
holds_some p (Some a) h = refl

-- one that is sought has a birth number
pub is_nowhere : (m : Contents) (s : Path) →
    ((x : Path) → IsSome (holder_of ((world m).body x)) → (n : ℕ) × (n < (world m).next) × (0 < n) × IsSpace m n × (path m n ≡ x)) →
    NoneBelow m s (world m).next → false ≡ list_any (has_porter (world m)) (beneath (world m) s)
is_nowhere m s born none = by (list_any (has_porter (world m)) (beneath (world m) s)) refl
  where
    by : (b : Bool) → list_any (has_porter (world m)) (beneath (world m) s) ≡ b → false ≡ b
    by false e = refl
    by true e =
        let found = of_any (has_porter (world m)) (beneath (world m) s) e in
        let n = born found.0 (holds_some _ (holder_of ((world m).body found.0)) found.2) in
        let met = any_in (same_path found.0) found.0 (beneath (world m) s) found.1 (same_path_refl found.0) in
        let sought : is_sought_at m s found.0 ≡ true = rw (found.2, met) refl in
        let off = subst (λ x. is_sought_at m s x ≡ false) n.4 (none n.0 n.1 n.2 n.3) in
        absurd (cc)

-- ---- among those that are held

-- none of the first of them is sought
abbrev pub NoneAmong : Contents → Path → List ℕ → ℕ → Type 0
NoneAmong m s births most = (j : ℕ) → j < most → j < length births → 0 < get_or births j 0 → IsSpace m (get_or births j 0) →
    is_sought_at m s (path m (get_or births j 0)) ≡ false

pub none_among : (m : Contents) (s : Path) (births : List ℕ) (index : ℕ) → NoneAmong m s births index →
    (0 < get_or births index 0 → IsSpace m (get_or births index 0) → is_sought_at m s (path m (get_or births index 0)) ≡ false) →
    NoneAmong m s births (index + 1)
none_among m s births index so_far here j low there = by (j == index) refl
  where
    by : (b : Bool) → (j == index) ≡ b → 0 < get_or births j 0 → IsSpace m (get_or births j 0) → is_sought_at m s (path m (get_or births j 0)) ≡ false
    by true e =
        let same : j ≡ index = grind (arith, nat_tests) in
        subst (λ k. 0 < get_or births k 0 → IsSpace m (get_or births k 0) → is_sought_at m s (path m (get_or births k 0)) ≡ false) (sym same) here
    by false e = so_far j (grind (arith, nat_tests)) there

-- what is among them is read somewhere
in_read : (births : List ℕ) (n : ℕ) → IsIn n births → (i : ℕ) × (i < length births) × (get_or births i 0 ≡ n)
in_read [] n is = absurd is
in_read (b ∷ births) n (inl e) = (0, omega arith, e)
in_read (b ∷ births) n (inr is) = let found = in_read births n is in let low = found.1 in (suc found.0, omega (arith, low), found.2)

pub nowhere_among : (m : Contents) (s : Path) (births : List ℕ) (index : ℕ) → length births ≤ index →
    ((x : Path) → IsSome (holder_of ((world m).body x)) → (n : ℕ) × IsIn n births × (0 < n) × IsSpace m n × (path m n ≡ x)) →
    NoneAmong m s births index → false ≡ list_any (has_porter (world m)) (beneath (world m) s)
nowhere_among m s births index past all none = by (list_any (has_porter (world m)) (beneath (world m) s)) refl
  where
    off : (n : ℕ) → IsIn n births → 0 < n → IsSpace m n → is_sought_at m s (path m n) ≡ false
    off n is =
        let found = in_read births n is in
        let low = found.1 in
        subst (λ k. 0 < k → IsSpace m k → is_sought_at m s (path m k) ≡ false) found.2 (none found.0 (omega (arith, low, past)) found.1)

    by : (b : Bool) → list_any (has_porter (world m)) (beneath (world m) s) ≡ b → false ≡ b
    by false e = refl
    by true e =
        let found = of_any (has_porter (world m)) (beneath (world m) s) e in
        let n = all found.0 (holds_some _ (holder_of ((world m).body found.0)) found.2) in
        let met = any_in (same_path found.0) found.0 (beneath (world m) s) found.1 (same_path_refl found.0) in
        let sought : is_sought_at m s found.0 ≡ true = rw (found.2, met) refl in
        let none = subst (λ x. is_sought_at m s x ≡ false) n.4 (off n.0 n.1 n.2 n.3) in
        absurd (cc)
