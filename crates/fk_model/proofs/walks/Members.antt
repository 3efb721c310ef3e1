-- Members of lists, by recursion: what filter, flat_map and find leave or find.
use Rattle.std.proofs.Common.{◌≡◌, Bool, true, false, if◌then◌else◌, ◌||◌, ◌⊎◌, inl, inr, List, [], ◌∷◌, ◌++◌, Some, None, filter, find, flat_map, refl}
use Rattle.std.specs.List.{list_any}

abbrev pub IsIn : {A : Type 0} → A → List A → Type 0
IsIn x [] = ⊥
IsIn x (y ∷ ys) = (y ≡ x) ⊎ IsIn x ys

module _ {A : Type 0} where
  pub in_left : (x : A) (xs ys : List A) → IsIn x xs → IsIn x (xs ++ ys)
  in_left x [] ys h = absurd h
  in_left x (z ∷ xs) ys (inl e) = inl e
  in_left x (z ∷ xs) ys (inr h) = inr (in_left x xs ys h)

  pub in_right : (x : A) (xs ys : List A) → IsIn x ys → IsIn x (xs ++ ys)
  in_right x [] ys h = h
  in_right x (z ∷ xs) ys h = inr (in_right x xs ys h)

  pub in_either : (x : A) (xs ys : List A) → IsIn x (xs ++ ys) → IsIn x xs ⊎ IsIn x ys
  in_either x [] ys h = inr h
  in_either x (z ∷ xs) ys (inl e) = inl (inl e)
  in_either x (z ∷ xs) ys (inr h) = by (in_either x xs ys h)
    where
      by : IsIn x xs ⊎ IsIn x ys → ((z ≡ x) ⊎ IsIn x xs) ⊎ IsIn x ys
      by (inl g) = inl (inr g)
      by (inr g) = inr g

  pub in_filter : (test : A → Bool) (x : A) (xs : List A) → IsIn x xs → test x ≡ true → IsIn x (filter test xs)
  in_filter test x [] h t = absurd h
  in_filter test x (z ∷ xs) (inl e) t = rw (e, t) (inl refl)
  in_filter test x (z ∷ xs) (inr h) t = by (test z) (in_filter test x xs h t)
    where
      by : (b : Bool) → IsIn x (filter test xs) → IsIn x (if b then z ∷ filter test xs else filter test xs)
      by true g = inr g
      by false g = g

  pub of_filter : (test : A → Bool) (x : A) (xs : List A) → IsIn x (filter test xs) → IsIn x xs × (test x ≡ true)
  of_filter test x [] h = absurd h
  of_filter test x (z ∷ xs) h = by (test z) refl (of_filter test x xs) h
    where
      by : (b : Bool) → test z ≡ b → (IsIn x (filter test xs) → IsIn x xs × (test x ≡ true)) →
          IsIn x (if b then z ∷ filter test xs else filter test xs) → ((z ≡ x) ⊎ IsIn x xs) × (test x ≡ true)
      by true e rest (inl g) = (inl g, rw g at e)
      by true e rest (inr g) = let both = rest g in (inr both.0, both.1)
      by false e rest g = let both = rest g in (inr both.0, both.1)

  pub find_none : (test : A → Bool) (x : A) (xs : List A) → find test xs ≡ None → IsIn x xs → test x ≡ false
  find_none test x [] none h = absurd h
  find_none test x (z ∷ xs) none h = by (test z) refl none h (find_none test x xs)
    where
      by : (b : Bool) →
          test z ≡ b → (if b then Some z else find test xs) ≡ None → (z ≡ x) ⊎ IsIn x xs → (find test xs ≡ None → IsIn x xs → test x ≡ false) → test x ≡ false
      by true e none h rest = cc
      by false e none (inl g) rest = rw (← g) e
      by false e none (inr g) rest = rest none g

  pub find_some : (test : A → Bool) (x : A) (xs : List A) → find test xs ≡ Some x → IsIn x xs × (test x ≡ true)
  find_some test x [] h = cc
  find_some test x (z ∷ xs) h = by (test z) refl h (find_some test x xs)
    where
      by : (b : Bool) → test z ≡ b →
          (if b then Some z else find test xs) ≡ Some x → (find test xs ≡ Some x → IsIn x xs × (test x ≡ true)) → ((z ≡ x) ⊎ IsIn x xs) × (test x ≡ true)
      by true e g rest = let same : z ≡ x = cc in (inl same, rw same at e)
      by false e g rest = let both = rest g in (inr both.0, both.1)

  pub any_in : (test : A → Bool) (x : A) (xs : List A) → IsIn x xs → test x ≡ true → list_any test xs ≡ true
  any_in test x [] h t = absurd h
  any_in test x (z ∷ xs) (inl e) t = rw (e, t) refl
  any_in test x (z ∷ xs) (inr h) t = by (test z) (any_in test x xs h t)
    where
      by : (b : Bool) → list_any test xs ≡ true → (b || list_any test xs) ≡ true
      by true g = refl
      by false g = g

  pub of_any : (test : A → Bool) (xs : List A) → list_any test xs ≡ true → (x : A) × IsIn x xs × (test x ≡ true)
  of_any test [] h = cc
  of_any test (z ∷ xs) h = by (test z) refl h (of_any test xs)
    where
      by : (b : Bool) → test z ≡ b →
          (b || list_any test xs) ≡ true → (list_any test xs ≡ true → (x : A) × IsIn x xs × (test x ≡ true)) → (x : A) × ((z ≡ x) ⊎ IsIn x xs) × (test x ≡ true)
      by true e g rest = (z, inl refl, e)
      by false e g rest = let found = rest g in (found.0, inr found.1, found.2)

module _ {A B : Type 0} where
  pub in_flat_map : (f : A → List B) (y : A) (x : B) (ys : List A) → IsIn y ys → IsIn x (f y) → IsIn x (flat_map f ys)
  in_flat_map f y x [] h g = absurd h
  in_flat_map f y x (z ∷ ys) (inl e) g = in_left x (f z) (flat_map f ys) (rw e g)
  in_flat_map f y x (z ∷ ys) (inr h) g = in_right x (f z) (flat_map f ys) (in_flat_map f y x ys h g)

  pub of_flat_map : (f : A → List B) (x : B) (ys : List A) → IsIn x (flat_map f ys) → (y : A) × IsIn y ys × IsIn x (f y)
  of_flat_map f x [] h = absurd h
  of_flat_map f x (z ∷ ys) h = by (in_either x (f z) (flat_map f ys) h) (of_flat_map f x ys)
    where
      by : IsIn x (f z) ⊎ IsIn x (flat_map f ys) →
          (IsIn x (flat_map f ys) → (y : A) × IsIn y ys × IsIn x (f y)) → (y : A) × ((z ≡ y) ⊎ IsIn y ys) × IsIn x (f y)
      by (inl g) rest = (z, inl refl, g)
      by (inr g) rest = let found = rest g in (found.0, inr found.1, found.2)
