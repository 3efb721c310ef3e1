-- The place of a key, as an entry is added.
use Rattle.std.proofs.Common.{◌≡◌, ℕ, ◌+◌, ◌-◌, ◌<◌, ◌≤◌, suc, zero, Bool, true, false, ◌||◌, cond, List, [], ◌∷◌, ◌++◌, length, Option, Some, None, is_some, option_copied, Bor, Vec, nat_cmp, is_eq, refl, sym, subst, ap, ◌∙◌, arith}
use Rattle.std.proofs.lemmas.Cmp.{nat_list_cmp_total}
use Rattle.std.proofs.lemmas.Map.Text.{is_eq-slice_cmp}
use Rattle.std.proofs.lemmas.Option.{slice_get_past}
use Rattle.std.proofs.lemmas.Slice.Eq.{bytes_eq-Decides}
use Rattle.std.specs.BTreeMap.{BTreeMap, Updates}
use Rattle.std.specs.Cmp.{eq_by_cmp_equiv}
use Rattle.std.specs.Cmp.Lexicographic.{slice_cmp, nat_list_eq_equiv}
use Rattle.std.specs.Map.{KeepsOthers}
use Rattle.std.specs.List.{find, list_any, position_from, slice_get, HoldsAt}
use Rattle.std.specs.Slice.{IsItemAt}
use Rattle.std.specs.Str.{bytes_eq}
use Rattle.std.specs.declared.alloc.Global.{Global}
use Rattle.fk_scenario.specs.Fields.Entries.{place_in, with_place}

-- a place is that of an entry before, or the last
abbrev or_last : Option ℕ → Option ℕ → Option ℕ
or_last (Some place) last = Some place
or_last None last = last

or_last-None : (o : Option ℕ) → o ≡ or_last o None
or_last-None None = refl
or_last-None (Some place) = refl

position_from-push : {X : Type 0} (p : X → Bool) (n : ℕ) (xs : List X) (x : X) → position_from p n (xs ++ x ∷ [])
    ≡ or_last (position_from p n xs) (cond (p x) (Some (n + length xs)) None)
position_from-push p n [] x =
    let same : n ≡ n + 0 = omega arith in
    ap (λ k. cond (p x) (Some k) None) same
position_from-push p n (y ∷ ys) x = by (p y) (position_from-push p (n + 1) ys x)
  where
    by : (t : Bool) → position_from p (n + 1) (ys ++ x ∷ []) ≡ or_last (position_from p (n + 1) ys) (cond (p x) (Some (n + 1 + length ys)) None)
        → cond t (Some n) (position_from p (n + 1) (ys ++ x ∷ []))
        ≡ or_last (cond t (Some n) (position_from p (n + 1) ys)) (cond (p x) (Some (n + length (y ∷ ys))) None)
    by true more = refl
    by false more =
        let same : n + 1 + length ys ≡ n + length (y ∷ ys) = omega arith in
        more ∙ ap (λ k. or_last (position_from p (n + 1) ys) (cond (p x) (Some k) None)) same

is_some-cond : (t : Bool) (n : ℕ) (o : Option ℕ) → is_some (cond t (Some n) o) ≡ (t || is_some o)
is_some-cond true n o = refl
is_some-cond false n o = refl

-- there is a place where an entry passes
pub is_some-position_from : {X : Type 0} (p : X → Bool) (n : ℕ) (xs : List X) → is_some (position_from p n xs) ≡ list_any p xs
is_some-position_from p n [] = refl
is_some-position_from p n (x ∷ xs) = is_some-cond (p x) n (position_from p (n + 1) xs) ∙ ap (λ t. p x || t) (is_some-position_from p (n + 1) xs)

-- a place is an index
pub position_from-below : {X : Type 0} (p : X → Bool) (n : ℕ) (xs : List X) (i : ℕ) → position_from p n xs ≡ Some i → i < n + length xs
position_from-below p n [] i h = absurd (cc)
position_from-below p n (x ∷ xs) i h = by (p x) h (position_from-below p (n + 1) xs i)
  where
    by : (t : Bool) → cond t (Some n) (position_from p (n + 1) xs) ≡ Some i → (position_from p (n + 1) xs ≡ Some i → i < n + 1 + length xs)
        → i < n + length (x ∷ xs)
    by true h more = let same : n ≡ i = cc in omega arith
    by false h more = omega (arith, more h)

position_from-from : {X : Type 0} (p : X → Bool) (n : ℕ) (xs : List X) (i : ℕ) → position_from p n xs ≡ Some i → n ≤ i
position_from-from p n [] i h = absurd (cc)
position_from-from p n (x ∷ xs) i h = by (p x) h (position_from-from p (n + 1) xs i)
  where
    by : (t : Bool) → cond t (Some n) (position_from p (n + 1) xs) ≡ Some i → (position_from p (n + 1) xs ≡ Some i → n + 1 ≤ i) → n ≤ i
    by true h more = let same : n ≡ i = cc in omega arith
    by false h more = omega (arith, more h)

found_from : {X : Type 0} (p : X → Bool) (n : ℕ) (xs : List X) (i : ℕ) → position_from p n xs ≡ Some i → find p xs ≡ slice_get xs (i - n)
found_from p n [] i h = absurd (cc)
found_from p n (x ∷ xs) i h = by (p x) h (found_from p (n + 1) xs i) (position_from-from p (n + 1) xs i)
  where
    by : (t : Bool) → cond t (Some n) (position_from p (n + 1) xs) ≡ Some i → (position_from p (n + 1) xs ≡ Some i → find p xs
        ≡ slice_get xs (i - (n + 1))) → (position_from p (n + 1) xs ≡ Some i → n + 1 ≤ i)
        → cond t (Some x) (find p xs) ≡ slice_get (x ∷ xs) (i - n)
    by true h more from =
        let same : n ≡ i = cc in
        let none : i - n ≡ 0 = omega arith in
        rw none refl
    by false h more from =
        let one : i - n ≡ suc (i - (n + 1)) = omega (arith, from h) in
        rw one (more h)

-- what is found is at the place
pub found_at : {X : Type 0} (p : X → Bool) (xs : List X) (i : ℕ) → position_from p 0 xs ≡ Some i → find p xs ≡ slice_get xs i
found_at p xs i h =
    let same : i - 0 ≡ i = omega arith in
    rw (← same) (found_from p 0 xs i h)

-- nothing is found where there is no place
pub not_found : {X : Type 0} (p : X → Bool) (n : ℕ) (xs : List X) → position_from p n xs ≡ None → find p xs ≡ None
not_found p n [] h = refl
not_found p n (x ∷ xs) h = by (p x) h (not_found p (n + 1) xs)
  where
    by : (t : Bool) → cond t (Some n) (position_from p (n + 1) xs) ≡ None → (position_from p (n + 1) xs ≡ None → find p xs ≡ None)
        → cond t (Some x) (find p xs) ≡ None
    by true h more = absurd (cc)
    by false h more = more h

-- the places with that of an entry's key are those of the entries and this one
pub with_place-added : {X : Type 0} (key : X → List ℕ) (xs : List X) (x : X) (old : List ℕ → Option ℕ) → ((q : List ℕ) → old q
    ≡ position_from (λ y. bytes_eq (key y) q) 0 xs)
    → (q : List ℕ) → with_place (key x) (length xs) old q ≡ position_from (λ y. bytes_eq (key y) q) 0 (xs ++ x ∷ [])
with_place-added key xs x old h q =
    let pushed = position_from-push (λ y. bytes_eq (key y) q) 0 xs x in
    let zero_first : 0 + length xs ≡ length xs = omega arith in
    by (old (key x)) refl (bytes_eq (key x) q) refl
    ∙ ap (λ o. or_last o (cond (bytes_eq (key x) q) (Some (length xs)) None)) (h q)
    ∙ sym (pushed ∙ ap (λ k. or_last (position_from (λ y. bytes_eq (key y) q) 0 xs) (cond (bytes_eq (key x) q) (Some k) None)) zero_first)
  where
    by : (o : Option ℕ) → old (key x) ≡ o → (t : Bool) → bytes_eq (key x) q ≡ t
        → cond (is_some o) (old q) (cond t (Some (length xs)) (old q)) ≡ or_last (old q) (cond t (Some (length xs)) None)
    by (Some v) e true d = let same : key x ≡ q = (bytes_eq-Decides (key x) q).0 d in let here : old q ≡ Some v = sym (ap old same) ∙ e in rw here refl
    by None e true d = let same : key x ≡ q = (bytes_eq-Decides (key x) q).0 d in let here : old q ≡ None = sym (ap old same) ∙ e in rw here refl
    by (Some v) e false d = or_last-None (old q)
    by None e false d = or_last-None (old q)

-- a map after one more key
pub place_in-inserted : (old new : BTreeMap (Vec ℕ Global) ℕ) (key : Vec ℕ Global) (place : ℕ)
    → Updates (λ x y. slice_cmp nat_cmp x.items y.items) old new key (Some place)
    → (q : List ℕ) → place_in new q ≡ cond (bytes_eq key.items q) (Some place) (place_in old q)
unfolding KeepsOthers
place_in-inserted old new key place h q = by (bytes_eq key.items q) refl
  where
    apart : bytes_eq key.items q ≡ false → (k : Vec ℕ Global) → is_eq (slice_cmp nat_cmp key.items k.items) ≡ true → is_eq (slice_cmp nat_cmp q k.items) ≡ false
    apart e k y =
        let same : key.items ≡ k.items = (bytes_eq-Decides key.items k.items).0 (sym (is_eq-slice_cmp key.items k.items) ∙ y) in
        is_eq-slice_cmp q k.items ∙ nat_list_eq_equiv.symm q k.items ∙ ap (λ l. bytes_eq l q) (sym same) ∙ e

    by : (t : Bool) → bytes_eq key.items q ≡ t → place_in new q ≡ cond t (Some place) (place_in old q)
    by true e = subst (λ (l : List ℕ). place_in new l ≡ Some place) ((bytes_eq-Decides key.items q).0 e) h.1
    by false e = h.3 (λ k. is_eq (slice_cmp nat_cmp q k.items)) (λ x y. (eq_by_cmp_equiv nat_list_cmp_total).congr q x.items y.items) (apart e)

held_at : {X : Type 0} (v : X) (xs : List X) (i : ℕ) → i < length xs → HoldsAt (λ y. v ≡ y) xs i → Some v ≡ slice_get xs i
held_at v [] i l h = absurd (omega (arith, l))
held_at v (x ∷ xs) zero l h = ap (λ y. Some y) (h x)
held_at v (x ∷ xs) (suc i) l h = held_at v xs i (omega (arith, l)) h

-- what a slice lends at an index
pub got_item : {X : Type 0} (xs : List X) (i : ℕ) (r : Option (Bor X)) → IsItemAt xs i r → option_copied r ≡ slice_get xs i
got_item xs i None h = sym (slice_get_past xs i h.3)
got_item xs i (Some x) h = held_at x.now xs i h.3.0 h.3.1
