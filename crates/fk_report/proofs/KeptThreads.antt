-- Kept threads: what keeping one more thread leaves, and the order in which they come out.
use Rattle.std.proofs.Common.{◌≡◌, ◌⊎◌, zero, suc, List, [], ◌∷◌, All, Contains, reverse, Some, Result, Ok, Err, IfOk, OnOk, refl, sym, ap, subst, ◌∙◌, inl, inr, arith}
use Rattle.std.proofs.lemmas.List.{reverse-reverse}
use Rattle.std.proofs.lemmas.List.Elements.{All-nil, All-cons, All-head, All-tail}
use Rattle.std.proofs.lemmas.Map.Lookups.{exact_bytes}
use Rattle.std.specs.List.{AllByRecursion}
use Rattle.std.specs.List.Sorted.{IsStrictlySortedBy}
use Rattle.std.specs.BTreeMap.{insert_entry}
use Rattle.std.specs.Map.{keys_of, values_of}
use Rattle.std.specs.Cmp.Lexicographic.{slice_cmp}
use Rattle.std.specs.Ordering.{nat_cmp}
use Rattle.std.specs.declared.cmp.Ordering.{Ordering}
use Rattle.std.specs.declared.cmp.Ordering.TheVariants.{Less, Equal, Greater}
use Rattle.fk_model.specs.Places.{Path}
use Rattle.fk_model.specs.World.{World}
use Rattle.fk_report.specs.declared.threads.ThreadState.{ThreadState}
use Rattle.fk_report.specs.Threads.{state_at, by_path, AreThreads, Slots, by_slots, IsKept, AreKept}

-- ---- what a list contains

contains-head : {X : Type 0} (x : X) (xs : List X) → Contains (x ∷ xs) x
contains-head x xs = (0, omega arith, refl)

contains-tail : {X : Type 0} (x : X) (xs : List X) (y : X) → Contains xs y → Contains (x ∷ xs) y
contains-tail x xs y (k, low, is) = (suc k, omega (arith, low), is)

contains-cases : {X : Type 0} (x : X) (xs : List X) (y : X) → Contains (x ∷ xs) y → (x ≡ y) ⊎ Contains xs y
contains-cases x xs y (zero, low, is) = inl is
contains-cases x xs y (suc k, low, is) = inr (k, omega (arith, low), is)

-- ---- one more thread

pub keeps-itself : (es : List (Slots × ThreadState)) (k : Slots) (v : ThreadState) → Contains (values_of (insert_entry by_slots es k v)) v
keeps-itself [] k v = contains-head v []
keeps-itself (e ∷ es) k v = by (by_slots k e.0) refl (keeps-itself es k v)
  where
    by : (r : Ordering) →
        by_slots k e.0 ≡ r → Contains (values_of (insert_entry by_slots es k v)) v → Contains (values_of (insert_entry by_slots (e ∷ es) k v)) v
    by Less is rest = rw is (contains-head v (values_of (e ∷ es)))
    by Equal is rest = rw is (contains-head v (values_of es))
    by Greater is rest = rw is (contains-tail e.1 (values_of (insert_entry by_slots es k v)) v rest)

module _ (w : World) (k : Slots) (v : ThreadState) (fits : IsKept w (k, v)) where
  -- threads at one path are one
  same : (e : Slots × ThreadState) → IsKept w e → by_slots k e.0 ≡ Equal → e.1 ≡ v
  same e kept is =
      let slots : reverse v.path ≡ reverse e.1.path = sym fits.0 ∙ exact_bytes k.items e.0.items is ∙ kept.0 in
      let path : v.path ≡ e.1.path = sym (reverse-reverse v.path) ∙ ap reverse slots ∙ reverse-reverse e.1.path in
      let states : Some e.1 ≡ Some v = sym kept.1 ∙ ap (state_at w) (sym path) ∙ fits.1 in
      cc

  pub keeps-kept : (es : List (Slots × ThreadState)) → AreKept w es → AreKept w (insert_entry by_slots es k v)
  keeps-kept [] kept = All-cons (IsKept w) (k, v) [] fits (All-nil _)
  keeps-kept (e ∷ es) kept = by (by_slots k e.0) refl (keeps-kept es (All-tail (IsKept w) e es kept))
    where
      by : (r : Ordering) → by_slots k e.0 ≡ r → AreKept w (insert_entry by_slots es k v) → AreKept w (insert_entry by_slots (e ∷ es) k v)
      by Less is rest = rw is (All-cons (IsKept w) (k, v) (e ∷ es) fits kept)
      by Equal is rest =
          let first = All-head (IsKept w) e es kept in
          let here : IsKept w (e.0, v) = subst (λ t. IsKept w (e.0, t)) (same e first is) first in
          rw is (All-cons (IsKept w) (e.0, v) es here (All-tail (IsKept w) e es kept))
      by Greater is rest = rw is (All-cons (IsKept w) e _ (All-head (IsKept w) e es kept) rest)

  pub keeps-others : (es : List (Slots × ThreadState)) →
      AreKept w es → (t : ThreadState) → Contains (values_of es) t → Contains (values_of (insert_entry by_slots es k v)) t
  keeps-others [] kept t (i, low, is) = absurd (omega (arith, low))
  keeps-others (e ∷ es) kept t there = by (by_slots k e.0) refl (contains-cases e.1 (values_of es) t there) (keeps-others es (All-tail (IsKept w) e es kept) t)
    where
      by : (r : Ordering) → by_slots k e.0 ≡ r → (e.1 ≡ t) ⊎ Contains (values_of es) t →
          (Contains (values_of es) t → Contains (values_of (insert_entry by_slots es k v)) t) → Contains (values_of (insert_entry by_slots (e ∷ es) k v)) t
      by Less is h rest = rw is (contains-tail v (values_of (e ∷ es)) t there)
      by Equal is (inl first) rest =
          rw is (subst (Contains (v ∷ values_of es)) (sym (same e (All-head (IsKept w) e es kept) is) ∙ first) (contains-head v (values_of es)))
      by Equal is (inr h) rest = rw is (contains-tail v (values_of es) t h)
      by Greater is (inl first) rest =
          rw is (subst (Contains (e.1 ∷ values_of (insert_entry by_slots es k v))) first (contains-head e.1 (values_of (insert_entry by_slots es k v))))
      by Greater is (inr h) rest = rw is (contains-tail e.1 (values_of (insert_entry by_slots es k v)) t (rest h))

-- ---- all of them

module _ (w : World) where
  each-kept : (es : List (Slots × ThreadState)) → AreKept w es → All (λ (t : ThreadState). state_at w t.path ≡ Some t) (values_of es)
  each-kept [] kept = All-nil _
  each-kept (e ∷ es) kept = All-cons (λ (t : ThreadState). state_at w t.path ≡ Some t)
      e.1 (values_of es) (All-head (IsKept w) e es kept).1 (each-kept es (All-tail (IsKept w) e es kept))

  before : (e : Slots × ThreadState) → IsKept w e → (es : List (Slots × ThreadState)) →
      AreKept w es → AllByRecursion (λ k. by_slots e.0 k ≡ Less) (keys_of es) → AllByRecursion (λ t. by_path e.1 t ≡ Less) (values_of es)
  before e first [] kept below = tt
  before e first (d ∷ es) kept below =
      let second = All-head (IsKept w) d es kept in
      let here : by_path e.1 d.1 ≡ Less = subst (λ x. slice_cmp nat_cmp x (reverse d.1.path) ≡ Less)
      first.0 (subst (λ y. slice_cmp nat_cmp e.0.items y ≡ Less) second.0 below.0) in
      (here, before e first es (All-tail (IsKept w) d es kept) below.1)

  in-order : (es : List (Slots × ThreadState)) → AreKept w es → IsStrictlySortedBy by_slots (keys_of es) → IsStrictlySortedBy by_path (values_of es)
  unfolding IsStrictlySortedBy
  in-order [] kept up = tt
  in-order (e ∷ es) kept up =
      (before e (All-head (IsKept w) e es kept) es (All-tail (IsKept w) e es kept) up.0, in-order es (All-tail (IsKept w) e es kept) up.1)

  -- the kept threads are those of the world, where each of them is kept
  are-threads : (es : List (Slots × ThreadState)) → AreKept w es → ((x : Path) (t : ThreadState) → state_at w x ≡ Some t → Contains (values_of es) t) →
      IsStrictlySortedBy by_slots (keys_of es) → AreThreads w (values_of es)
  are-threads es kept whole up = record { each = each-kept es kept; whole = whole; ordered = in-order es kept up }

  pub listed-threads : {E : Type 0} (es : List (Slots × ThreadState)) (result : Result (List ThreadState) E) →
      AreKept w es → ((x : Path) (t : ThreadState) → state_at w x ≡ Some t → Contains (values_of es) t) →
      IfOk result (λ threads. threads ≡ values_of es) → OnOk result (IsStrictlySortedBy by_slots (keys_of es)) → IfOk result (λ threads. AreThreads w threads)
  listed-threads es (Ok threads) kept whole is up = subst (AreThreads w) (sym is) (are-threads es kept whole up)
  listed-threads es (Err e) kept whole is up = tt
