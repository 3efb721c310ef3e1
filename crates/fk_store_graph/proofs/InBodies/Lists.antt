-- Lists in which no element stands twice: two with the same elements have the same sum.
use Rattle.std.proofs.Common.{◌≡◌, ℕ, ◌+◌, inl, inr, ◌⊎◌, List, [], ◌∷◌, ◌++◌, map, filter, flat_map, cond, if◌then◌else◌, Bool, true, false, refl}
use Rattle.std.proofs.Common.{sym, ap, subst, ◌∙◌, arith}
use Rattle.std.specs.List.{sum_by}
use Rattle.std.proofs.lemmas.List.Sums.{sum_by-cons, sum_by-append}
use Rattle.fk_model.proofs.walks.Members.{IsIn, in_either, of_filter, of_flat_map}
pub use Rattle.fk_store_graph.specs.Linked.Lists.{Differ}

module _ {A : Type 0} where
  split : (x : A) (ys : List A) → IsIn x ys → (a : List A) × (b : List A) × (ys ≡ a ++ x ∷ b)
  split x [] h = absurd h
  split x (y ∷ ys) (inl e) = ([], ys, ap (λ z. z ∷ ys) e)
  split x (y ∷ ys) (inr h) = let s = split x ys h in (y ∷ s.0, s.1, ap (λ l. y ∷ l) s.2)

  into : (x z : A) (a b : List A) → IsIn z (a ++ b) → IsIn z (a ++ x ∷ b)
  into x z [] b h = inr h
  into x z (y ∷ a) b (inl e) = inl e
  into x z (y ∷ a) b (inr h) = inr (into x z a b h)

  middle : (x : A) (a b : List A) → IsIn x (a ++ x ∷ b)
  middle x [] b = inl refl
  middle x (y ∷ a) b = inr (middle x a b)

  out_of : (x z : A) (a b : List A) → IsIn z (a ++ x ∷ b) → (x ≡ z) ⊎ IsIn z (a ++ b)
  out_of x z [] b (inl e) = inl e
  out_of x z [] b (inr h) = inr h
  out_of x z (y ∷ a) b (inl e) = inr (inl e)
  out_of x z (y ∷ a) b (inr h) = elim (out_of x z a b h) [ inl e ↦ inl e | inr g ↦ inr (inr g) ]

  differ-out : (x : A) (a b : List A) → Differ (a ++ x ∷ b) → (IsIn x (a ++ b) → ⊥) × Differ (a ++ b)
  differ-out x [] b h = h
  differ-out x (y ∷ a) b h =
      let rest = differ-out x a b h.1 in
      (λ g. elim g [ inl e ↦ h.0 (subst (λ z. IsIn z (a ++ x ∷ b)) (sym e) (middle x a b)) | inr k ↦ rest.0 k ], (λ g. h.0 (into x y a b g), rest.1))

  sum-middle : (f : A → ℕ) (x : A) (a b : List A) → sum_by f (a ++ x ∷ b) ≡ f x + sum_by f (a ++ b)
  sum-middle f x a b =
      let one = sum_by-append f a (x ∷ b) in
      let two = sum_by-append f a b in
      let three = sum_by-cons f x b in
      omega (arith, one, two, three)

  pub same_sum : (f : A → ℕ) (xs ys : List A) →
      Differ xs → Differ ys → ((z : A) → IsIn z xs → IsIn z ys) → ((z : A) → IsIn z ys → IsIn z xs) → sum_by f xs ≡ sum_by f ys
  same_sum f [] [] dx dy to from = refl
  same_sum f [] (y ∷ ys) dx dy to from = absurd (from y (inl refl))
  same_sum f (x ∷ xs) ys dx dy to from =
      let s = split x ys (to x (inl refl)) in
      let out = differ-out x s.0 s.1 (subst Differ s.2 dy) in
      sum_by-cons f x xs
      ∙ ap (λ n. f x + n) (same_sum f xs (s.0 ++ s.1) dx.1 out.1
      (λ z h. elim (out_of x z s.0 s.1 (subst (IsIn z) s.2 (to z (inr h)))) [ inl e ↦ absurd (dx.0 (subst (λ w. IsIn w xs) (sym e) h)) | inr g ↦ g ])
      (λ z h.
      elim (from z (subst (IsIn z) (sym s.2) (into x z s.0 s.1 h))) [ inl e ↦ absurd (out.0 (subst (λ w. IsIn w (s.0 ++ s.1)) (sym e) h)) | inr g ↦ g ]))
      ∙ sym (sum-middle f x s.0 s.1)
      ∙ ap (sum_by f) (sym s.2)

  pub differ-append : (xs ys : List A) → Differ xs → Differ ys → ((y : A) → IsIn y xs → IsIn y ys → ⊥) → Differ (xs ++ ys)
  differ-append [] ys dx dy apart = dy
  differ-append (x ∷ xs) ys dx dy apart =
      (λ h. elim (in_either x xs ys h) [ inl a ↦ dx.0 a | inr b ↦ apart x (inl refl) b ], differ-append xs ys dx.1 dy (λ y a b. apart y (inr a) b))

  pub differ-filter : (test : A → Bool) (xs : List A) → Differ xs → Differ (filter test xs)
  differ-filter test [] h = tt
  differ-filter test (x ∷ xs) h = by (test x) (differ-filter test xs h.1)
    where
      by : (t : Bool) → Differ (filter test xs) → Differ (if t then x ∷ filter test xs else filter test xs)
      by true rest = (λ g. h.0 (of_filter test x xs g).0, rest)
      by false rest = rest

  pub differ-flat_map : {B : Type 0} (g : B → List A) (ks : List B) →
      Differ ks → ((k : B) → Differ (g k)) → ((k j : B) (y : A) → IsIn y (g k) → IsIn y (g j) → k ≡ j) → Differ (flat_map g ks)
  differ-flat_map g [] dk each apart = tt
  differ-flat_map g (k ∷ ks) dk each apart =
      differ-append (g k) (flat_map g ks) (each k) (differ-flat_map g ks dk.1 each apart)
      (λ y a b. let found = of_flat_map g y ks b in dk.0 (subst (λ j. IsIn j ks) (sym (apart k found.0 y a found.2)) found.1))

  pub sum_same : (f h : A → ℕ) (xs : List A) → ((x : A) → IsIn x xs → f x ≡ h x) → sum_by f xs ≡ sum_by h xs
  sum_same f h [] same = refl
  sum_same f h (x ∷ xs) same =
      sum_by-cons f x xs ∙ (λ i. same x (inl refl) i + sum_same f h xs (λ y g. same y (inr g)) i) ∙ sym (sum_by-cons h x xs)

  pub sum_none : (f : A → ℕ) (xs : List A) → ((x : A) → f x ≡ 0) → sum_by f xs ≡ 0
  sum_none f [] none = refl
  sum_none f (x ∷ xs) none = sum_by-cons f x xs ∙ (λ i. none x i + sum_none f xs none i)

  -- one element is taken out of the sum
  pub sum_without : (f h : A → ℕ) (x : A) (xs : List A) → Differ xs → IsIn x xs →
      h x ≡ 0 → ((y : A) → IsIn y xs → (x ≡ y → ⊥) → f y ≡ h y) → sum_by f xs ≡ f x + sum_by h xs
  sum_without f h x [] d is none same = absurd is
  sum_without f h x (y ∷ ys) d (inl e) none same =
      let rest = sum_same f h ys (λ z g. same z (inr g) (λ q. d.0 (subst (λ t. IsIn t ys) (sym q ∙ sym e) g))) in
      let one = sum_by-cons f y ys in
      let two = sum_by-cons h y ys in
      let gone : h y ≡ 0 = ap h e ∙ none in
      let here : f y ≡ f x = ap f e in
      omega (arith, one, two, rest, gone, here)
  sum_without f h x (y ∷ ys) d (inr is) none same =
      let here = same y (inl refl) (λ q. d.0 (subst (λ t. IsIn t ys) q is)) in
      let rest = sum_without f h x ys d.1 is none (λ z g. same z (inr g)) in
      let one = sum_by-cons f y ys in
      let two = sum_by-cons h y ys in
      omega (arith, one, two, here, rest)

  -- a sum over those that pass a test
  pub sum_filtered : (f : A → ℕ) (test : A → Bool) (xs : List A) → sum_by f (filter test xs) ≡ sum_by (λ x. cond (test x) (f x) 0) xs
  sum_filtered f test [] = refl
  sum_filtered f test (x ∷ xs) = by (test x) refl (sum_filtered f test xs)
    where
      by : (b : Bool) → test x ≡ b → sum_by f (filter test xs) ≡ sum_by (λ x. cond (test x) (f x) 0) xs →
          sum_by f (cond b (x ∷ filter test xs) (filter test xs)) ≡ sum_by (λ x. cond (test x) (f x) 0) (x ∷ xs)
      by true e rest =
          let one = sum_by-cons f x (filter test xs) in
          let two = sum_by-cons (λ x. cond (test x) (f x) 0) x xs in
          let here : cond (test x) (f x) 0 ≡ f x = rw e refl in
          omega (arith, one, two, here, rest)
      by false e rest =
          let two = sum_by-cons (λ x. cond (test x) (f x) 0) x xs in
          let here : cond (test x) (f x) 0 ≡ 0 = rw e refl in
          omega (arith, two, here, rest)

-- ---- of a function of each

module _ {A B : Type 0} (f : A → B) where
  pub in_mapped : (a : A) (xs : List A) → IsIn a xs → IsIn (f a) (map f xs)
  in_mapped a [] h = absurd h
  in_mapped a (x ∷ xs) (inl e) = inl (ap f e)
  in_mapped a (x ∷ xs) (inr h) = inr (in_mapped a xs h)

  pub of_mapped : (b : B) (xs : List A) → IsIn b (map f xs) → (a : A) × IsIn a xs × (f a ≡ b)
  of_mapped b [] h = absurd h
  of_mapped b (x ∷ xs) (inl e) = (x, inl refl, e)
  of_mapped b (x ∷ xs) (inr h) = let found = of_mapped b xs h in (found.0, inr found.1, found.2)

  pub sum_mapped : (g : B → ℕ) (xs : List A) → sum_by g (map f xs) ≡ sum_by (λ a. g (f a)) xs
  sum_mapped g [] = refl
  sum_mapped g (x ∷ xs) = sum_by-cons g (f x) (map f xs) ∙ (λ i. g (f x) + sum_mapped g xs i) ∙ sym (sum_by-cons (λ a. g (f a)) x xs)
