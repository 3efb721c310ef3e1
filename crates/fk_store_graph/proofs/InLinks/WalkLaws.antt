-- WalkLaws: a walk along a ring that comes back to its head has come to every pointer of it, and so it does.
use Rattle.std.proofs.Common.{◌≡◌, ◌≢◌, ℕ, zero, suc, ◌-◌, ◌<◌, ◌≤◌, ◌⊎◌, inl, inr, Bool, true, false, ◌==◌, cond, List, [], ◌∷◌, length, Option}
use Rattle.std.proofs.Common.{Some, eq-eqb, refl, sym, ap, subst, ◌∙◌, arith}
use Rattle.std.proofs.lemmas.Bool.Decides.{nat_tests}
use Rattle.fk_model.proofs.walks.Members.{IsIn}
use Rattle.fk_store_graph.specs.declared.links.links.Link.{Link}
use Rattle.fk_store_graph.specs.Links.Links.{next_at, prev_at, AreLinked, AreRings}
use Rattle.fk_store_graph.specs.Links.Lists.{Differ}
use Rattle.fk_store_graph.specs.Links.Nodes.{is_head, headed}
use Rattle.fk_store_graph.specs.Links.Rings.{put_at, IsRings}
use Rattle.fk_store_graph.specs.Links.Walks.{walked, AreLeaders}
use Rattle.fk_store_graph.proofs.InLinks.Distinct.{few_distinct}
use Rattle.fk_store_graph.proofs.InLinks.NodeLaws.{headed_head, headed_field, one_head, next_within}

-- the walk comes to the head in at most so many steps
unfoldable comes_to : ℕ → (ℕ → ℕ) → ℕ → ℕ → Bool
comes_to zero next head n = n == head
comes_to (suc left) next head n = cond (n == head) true (comes_to left next head (next n))

module _ (next prev : ℕ → ℕ) (owner : ℕ → Option ℕ) (rings : IsRings is_head next prev owner) (h : ℕ)
    (one : (m : ℕ) → is_head m ≡ true → owner m ≡ Some h → m ≡ h) where
  -- who comes before a node that was passed was passed, or is a head; so it is with the node at which the walk stands
  record IsWalk (seen : ℕ → Bool) (here : ℕ) : Type 0 where
    pub closed : (n : ℕ) → seen n ≡ true → (is_head (prev n) ≡ true) ⊎ (seen (prev n) ≡ true)
    pub stands : (is_head (prev here) ≡ true) ⊎ (seen (prev here) ≡ true)

  walk_begins : is_head h ≡ true → IsWalk (λ n. false) (next h)
  walk_begins head = record { closed = λ n h. absurd (cc); stands = inl (ap is_head (rings.back h) ∙ head) }

  walk_goes_on : (seen : ℕ → Bool) (here : ℕ) → IsWalk seen here → IsWalk (put_at seen here true) (next here)
  walk_goes_on seen here walk = record {
    closed = λ n h. by n (n == here) refl h;
    stands = inr (ap (put_at seen here true) (rings.back here) ∙ passed (here == here) (eq-eqb here here refl));
  }
    where
      passed : (b : Bool) → b ≡ true → cond b true (seen here) ≡ true
      passed true e = refl
      passed false e = absurd (cc)

      before : (n : ℕ) → (is_head (prev n) ≡ true) ⊎ (seen (prev n) ≡ true) → (c : Bool) →
          (is_head (prev n) ≡ true) ⊎ (cond c true (seen (prev n)) ≡ true)
      before n (inl a) c = inl a
      before n (inr a) true = inr refl
      before n (inr a) false = inr a

      by : (n : ℕ) (b : Bool) → (n == here) ≡ b → cond b true (seen n) ≡ true →
          (is_head (prev n) ≡ true) ⊎ (cond (prev n == here) true (seen (prev n)) ≡ true)
      by n false e s = before n (walk.closed n s) (prev n == here)
      by n true e s =
          let same : n ≡ here = grind (arith, nat_tests) in
          before n (subst (λ x. (is_head (prev x) ≡ true) ⊎ (seen (prev x) ≡ true)) (sym same) walk.stands) (prev n == here)

  -- back at the head it has passed every pointer that leads there
  walk_ends : (seen : ℕ → Bool) → IsWalk seen h → (k n : ℕ) → rings.rank n ≤ k → is_head n ≡ false → owner n ≡ Some h → seen n ≡ true
  walk_ends seen walk zero n low field leads = by (is_head (next n)) refl
    where
      last : (is_head n ≡ true) ⊎ (seen n ≡ true) → seen n ≡ true
      last (inl a) = absurd (cc)
      last (inr a) = a

      by : (b : Bool) → is_head (next n) ≡ b → seen n ≡ true
      by true is =
          let same = one (next n) is (rings.same n ∙ leads) in
          let back : prev h ≡ n = ap prev (sym same) ∙ rings.back n in
          last (subst (λ x. (is_head x ≡ true) ⊎ (seen x ≡ true)) back walk.stands)
      by false is = let a = rings.falls n h leads field in absurd (omega arith)
  walk_ends seen walk (suc k) n low field leads = by (is_head (next n)) refl (walk_ends seen walk k (next n))
    where
      last : (is_head n ≡ true) ⊎ (seen n ≡ true) → seen n ≡ true
      last (inl a) = absurd (cc)
      last (inr a) = a

      by : (b : Bool) → is_head (next n) ≡ b →
          (rings.rank (next n) ≤ k → is_head (next n) ≡ false → owner (next n) ≡ Some h → seen (next n) ≡ true) → seen n ≡ true
      by true is ih =
          let same = one (next n) is (rings.same n ∙ leads) in
          let back : prev h ≡ n = ap prev (sym same) ∙ rings.back n in
          last (subst (λ x. (is_head x ≡ true) ⊎ (seen x ≡ true)) back walk.stands)
      by false is ih =
          let a = rings.falls n h leads field in
          let there = ih (omega arith) is (rings.same n ∙ leads) in
          last (subst (λ x. (is_head x ≡ true) ⊎ (seen x ≡ true)) (rings.back n) (walk.closed (next n) there))

  -- a pointer that leads there was passed, or is yet to come
  all_come : (left : ℕ) (here : ℕ) (seen : ℕ → Bool) → IsWalk seen here → comes_to left next h here ≡ true →
      (n : ℕ) → is_head n ≡ false → owner n ≡ Some h → (seen n ≡ true) ⊎ IsIn n (walked left next h here)
  unfolding comes_to walked
  all_come zero here seen walk ends n field leads =
      let same : here ≡ h = grind (arith, nat_tests) in
      inl (walk_ends seen (subst (IsWalk seen) same walk) (rings.rank n) n (omega arith) field leads)
  all_come (suc left) here seen walk ends n field leads =
      by (here == h) refl ends (all_come left (next here) (put_at seen here true) (walk_goes_on seen here walk))
    where
      goes : (b : Bool) → (n == here) ≡ b → (cond b true (seen n) ≡ true) ⊎ IsIn n (walked left next h (next here)) →
          (seen n ≡ true) ⊎ IsIn n (here ∷ walked left next h (next here))
      goes true e found = let same : n ≡ here = grind (arith, nat_tests) in inr (inl (sym same))
      goes false e (inl passed) = inl passed
      goes false e (inr comes) = inr (inr comes)

      by : (b : Bool) → (here == h) ≡ b → cond b true (comes_to left next h (next here)) ≡ true →
          (comes_to left next h (next here) ≡ true → (n : ℕ) → is_head n ≡ false → owner n ≡ Some h →
          (put_at seen here true n ≡ true) ⊎ IsIn n (walked left next h (next here))) →
          (seen n ≡ true) ⊎ IsIn n (cond b [] (here ∷ walked left next h (next here)))
      by true e ends ih =
          let same : here ≡ h = grind (arith, nat_tests) in
          inl (walk_ends seen (subst (IsWalk seen) same walk) (rings.rank n) n (omega arith) field leads)
      by false e ends ih = goes (n == here) refl (ih ends n field leads)

  -- a node at which it doesn't stop is a pointer
  is_pointer : (here : ℕ) → owner here ≡ Some h → (here == h) ≡ false → is_head here ≡ false
  is_pointer here leads goes = by (is_head here) refl
    where
      by : (b : Bool) → is_head here ≡ b → b ≡ false
      by false e = refl
      by true e = let is : here ≡ h = one here e leads in absurd (grind (arith, nat_tests))

  -- what it comes to leads there, and nearer to the head at each step
  walked_lead : (left here : ℕ) → owner here ≡ Some h → (m : ℕ) → IsIn m (walked left next h here) →
      (rings.rank m ≤ rings.rank here) × (is_head m ≡ false) × (owner m ≡ Some h)
  unfolding walked
  walked_lead zero here leads m is = absurd is
  walked_lead (suc left) here leads m is = by (here == h) refl (walked_lead left (next here) (rings.same here ∙ leads) m) is
    where
      by : (b : Bool) → (here == h) ≡ b →
          (IsIn m (walked left next h (next here)) → (rings.rank m ≤ rings.rank (next here)) × (is_head m ≡ false) × (owner m ≡ Some h)) →
          IsIn m (cond b [] (here ∷ walked left next h (next here))) → (rings.rank m ≤ rings.rank here) × (is_head m ≡ false) × (owner m ≡ Some h)
      by true e ih is = absurd is
      by false e ih (inl same) = subst (λ x. (rings.rank x ≤ rings.rank here) × (is_head x ≡ false) × (owner x ≡ Some h)) same
          (omega arith, is_pointer here leads e, leads)
      by false e ih (inr is) =
          let found = ih is in
          let low = found.0 in
          let falls = rings.falls here h leads (is_pointer here leads e) in
          (omega (arith, low, falls), found.1, found.2)

  -- so it comes to no node twice
  walked_differ : (left here : ℕ) → owner here ≡ Some h → Differ (walked left next h here)
  unfolding walked
  walked_differ zero here leads = tt
  walked_differ (suc left) here leads = by (here == h) refl (walked_differ left (next here) (rings.same here ∙ leads))
    where
      by : (b : Bool) → (here == h) ≡ b → Differ (walked left next h (next here)) → Differ (cond b [] (here ∷ walked left next h (next here)))
      by true e rest = tt
      by false e rest = (
        λ is.
            let low = (walked_lead left (next here) (rings.same here ∙ leads) here is).0 in
            let falls = rings.falls here h leads (is_pointer here leads e) in
            absurd (omega (arith, low, falls)),
        rest,
      )

-- ---- it comes to its head

module _ (next : ℕ → ℕ) (h : ℕ) where
  -- one that doesn't makes all its steps
  walked_on : (left here : ℕ) → comes_to left next h here ≡ false → length (walked left next h here) ≡ left
  unfolding comes_to walked
  walked_on zero here goes = refl
  walked_on (suc left) here goes = by (here == h) goes (walked_on left (next here))
    where
      by : (b : Bool) → cond b true (comes_to left next h (next here)) ≡ false →
          (comes_to left next h (next here) ≡ false → length (walked left next h (next here)) ≡ left) →
          length (cond b [] (here ∷ walked left next h (next here))) ≡ suc left
      by true goes ih = absurd (cc)
      by false goes ih = ap suc (ih goes)

  -- among nodes that are there
  walked_low : (b : ℕ) → ((n : ℕ) → n < b → next n < b) → (left here : ℕ) → here < b → (m : ℕ) → IsIn m (walked left next h here) → m < b
  unfolding walked
  walked_low b within zero here low m is = absurd is
  walked_low b within (suc left) here low m is = by (here == h) (walked_low b within left (next here) (within here low) m) is
    where
      by : (c : Bool) → (IsIn m (walked left next h (next here)) → m < b) → IsIn m (cond c [] (here ∷ walked left next h (next here))) → m < b
      by true ih is = absurd is
      by false ih (inl same) = subst (λ x. x < b) same low
      by false ih (inr is) = ih is

  pub few_walked : (left here : ℕ) → length (walked left next h here) ≤ left
  unfolding walked
  few_walked zero here = omega arith
  few_walked (suc left) here = by (here == h) (few_walked left (next here))
    where
      by : (b : Bool) → length (walked left next h (next here)) ≤ left → length (cond b [] (here ∷ walked left next h (next here))) ≤ suc left
      by true few = omega arith
      by false few = omega (arith, few)

  -- ---- step by step

  pub none_left : (left here : ℕ) → left ≡ 0 → walked left next h here ≡ []
  unfolding walked
  none_left zero here none = refl
  none_left (suc left) here none = absurd (omega (arith, none))

  pub none_at_head : (left here : ℕ) → here ≡ h → walked left next h here ≡ []
  unfolding walked
  none_at_head zero here is = refl
  none_at_head (suc left) here is = let stop : (here == h) ≡ true = grind (arith, nat_tests) in rw stop refl

  pub one_comes : (left here : ℕ) → left ≢ 0 → here ≢ h → walked left next h here ≡ here ∷ walked (left - 1) next h (next here)
  unfolding walked
  one_comes zero here some off = absurd (some refl)
  one_comes (suc left) here some off =
      let goes : (here == h) ≡ false = grind (arith, nat_tests) in
      let less : suc left - 1 ≡ left = omega arith in rw (goes, less) refl

-- no walk is longer than there are nodes
pub small_walk : (links : List Link) (h here : ℕ) → AreLinked links → length (walked (length links) (next_at links) h here) ≤ 4294967296
small_walk links h here linked = let few = few_walked (next_at links) h (length links) here in let small = linked.small in omega (arith, few, small)

-- a walk that begins behind its head comes to all that lead there
pub leaders_come : (links : List Link) (h : ℕ) → is_head h ≡ true → h < length links → AreLinked links →
    (owner : ℕ → Option ℕ) → AreRings links owner → AreLeaders owner h (walked (length links) (next_at links) h (next_at links h))
unfolding AreRings
leaders_come links h head low linked owner rings =
    let all = all_come next prev (headed owner) rings h one left here (λ m. false) (walk_begins next prev (headed owner) rings h one head) ends in
    record {
      differ = walked_differ next prev (headed owner) rings h one left here leads;
      lead = λ n is.
          let found = walked_lead next prev (headed owner) rings h one left here leads n is in
          (found.1, sym (headed_field owner n found.1) ∙ found.2);
      all = λ n field to. none n (all n field (headed_field owner n field ∙ to));
    }
  where
    next : ℕ → ℕ
    next = next_at links

    prev : ℕ → ℕ
    prev = prev_at links

    left : ℕ
    left = length links

    here : ℕ
    here = next_at links h

    one : (m : ℕ) → is_head m ≡ true → headed owner m ≡ Some h → m ≡ h
    one m is leads = one_head owner h m is leads

    leads : headed owner here ≡ Some h
    leads = rings.same h ∙ headed_head owner h head

    none : (n : ℕ) → (false ≡ true) ⊎ IsIn n (walked left next h here) → IsIn n (walked left next h here)
    none n (inl h) = absurd (cc)
    none n (inr h) = h

    ends : comes_to left next h here ≡ true
    ends = by (comes_to left next h here) refl
      where
        by : (b : Bool) → comes_to left next h here ≡ b → b ≡ true
        by true e = refl
        by false e =
            let long = walked_on next h left here e in
            let lows = walked_low next h left (λ n below. next_within links n linked below) left here (next_within links h linked low) in
            let differ = walked_differ next prev (headed owner) rings h one left here leads in
            let apart : IsIn h (walked left next h here) → ⊥ = λ is.
            let found = walked_lead next prev (headed owner) rings h one left here leads h is in absurd (cc) in
            let few = few_distinct left (h ∷ walked left next h here) (apart, differ) (λ n is. elim is [
              | inl same ↦ subst (λ x. x < left) same low
              | inr is ↦ lows n is
            ]) in
            absurd (omega (arith, few, long))
