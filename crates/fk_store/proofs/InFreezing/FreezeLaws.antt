-- FreezeLaws: the steps of a walk that marks, and of one that takes marks away.
use Rattle.std.proofs.Common.{◌≡◌, ◌≢◌, ◌⊎◌, inl, inr, ℕ, suc, ◌+◌, ◌-◌, ◌*◌, ◌<◌, ◌≤◌, ltb, Bool, true, false, cond, ◌==◌, List, Option, Some, None}
use Rattle.std.proofs.Common.{IsSome, is_some, refl, sym, ap, subst, ◌∙◌, arith}
use Rattle.std.proofs.lemmas.Bool.Decides.{nat_tests}
use Rattle.std.specs.FinMap.{FinMap, get}
use Rattle.fk_model.specs.declared.names.Who.{Who}
use Rattle.fk_model.specs.declared.body.Body.{Body}
use Rattle.fk_model.specs.Objects.{and_then}
use Rattle.fk_store.specs.Holds.Frozen.{mark_at}
use Rattle.fk_store_graph.specs.Bodies.Births.{stored_birth, home_in, birth_in}
use Rattle.fk_store_graph.specs.Bodies.Names.{at, who_cmp, same_who}
use Rattle.fk_store_graph.proofs.InBodies.BirthLaws.{births-found}
use Rattle.fk_store_graph.proofs.InBodies.NameLaws.{same_who_eq, same_who_refl}
use Rattle.fk_store.specs.Freezing.Freezing.{is_held_at, IsUnder, AreFrozen, AreFrozenBut, AreKnown, IsAbove, Pending, IsPending, AreFrozenUpTo}
use Rattle.fk_store.specs.Freezing.Freezing.{behind, upward, place, weight}
use Rattle.fk_store.specs.Freezing.Freezing.IsAbove.{Home, Further}
use Rattle.fk_store.specs.Freezing.Freezing.Pending.{Here, Above}

-- ---- birth numbers

module _ (bodies : FinMap who_cmp Body) (known : AreKnown bodies) where
  -- two names have no birth number in common
  pub one_name : (a b : Who) (n : ℕ) → birth_in bodies a ≡ Some n → birth_in bodies b ≡ Some n → a ≡ b
  one_name a b n h k = let both = sym (known.known a n h) ∙ known.known b n k in let same : a ≡ b = cc in same

  pub born_late : (who : Who) (n : ℕ) → birth_in bodies who ≡ Some n → 0 < n
  born_late who n born = let young = known.younger who n born in omega (arith, young)

  -- what stands elsewhere has another number
  pub other_number : (who q : Who) (top n : ℕ) → birth_in bodies who ≡ Some top → birth_in bodies q ≡ Some n → n ≢ top → same_who q who ≡ false
  other_number who q top n here born apart = by (same_who q who) refl
    where
      by : (t : Bool) → same_who q who ≡ t → t ≡ false
      by false e = refl
      by true e =
          let same = same_who_eq q who e in
          let both = sym born ∙ ap (birth_in bodies) same ∙ here in
          let is : n ≡ top = cc in absurd (apart is)

-- a space that stands somewhere is there
there : (bodies : FinMap who_cmp Body) (who : Who) (n : ℕ) → birth_in bodies who ≡ Some n → IsSome (get bodies who)
there bodies who n born = by (get bodies who) born
  where
    by : (x : Option Body) → and_then stored_birth x ≡ Some n → IsSome x
    by None h = absurd (cc)
    by (Some b) h = refl

-- one more mark
marked_one : (marks now : List Bool) (birth n : ℕ) → ((k : ℕ) → mark_at now k ≡ cond (k == birth) true (mark_at marks k)) → (n == birth) ≡ true →
    mark_at now n ≡ true
marked_one marks now birth n marks_now e = marks_now n ∙ ap (λ b. cond b true (mark_at marks n)) e

marked_other : (marks now : List Bool) (birth n : ℕ) → ((k : ℕ) → mark_at now k ≡ cond (k == birth) true (mark_at marks k)) → (n == birth) ≡ false →
    mark_at now n ≡ mark_at marks n
marked_other marks now birth n marks_now e = marks_now n ∙ ap (λ b. cond b true (mark_at marks n)) e

module _ (bodies : FinMap who_cmp Body) (known : AreKnown bodies) (top : ℕ) where
  -- ---- on to the next object

  module _ (space slot found : ℕ) (least : (k : ℕ) → IsSome (get bodies (at space k)) → slot ≤ k → found ≤ k) where
    -- what is yet to come from a slot on is the object that was found, or comes behind it
    on : (who : Who) (n : ℕ) → birth_in bodies who ≡ Some n → Pending bodies top space slot who →
        (who ≡ at space found) ⊎ Pending bodies top space (found + 1) who
    on who n born (Here s k w in_it low) = by (ltb found who.slot) refl
      where
        place_is : who ≡ at space who.slot
        place_is = λ i. record { space = in_it i; slot = who.slot }

        past : found ≤ who.slot
        past = least who.slot (subst (λ w. IsSome (get bodies w)) place_is (there bodies who n born)) low

        by : (b : Bool) → ltb found who.slot ≡ b → (who ≡ at space found) ⊎ Pending bodies top space (found + 1) who
        by true e = inr (Here space (found + 1) who in_it (grind (arith, nat_tests)))
        by false e =
            let same : who.slot ≡ found = (let low = past in grind (arith, nat_tests)) in
            inl (λ i. record { space = in_it i; slot = same i })
    on who n born (Above s k h w apart up more) = inr (Above space (found + 1) h who apart up more)

    module _ (marks : List Bool) (closed : AreFrozenUpTo bodies marks top (Some (space, slot))) where
      -- the object is no space, or is marked
      pub goes_on : ((n : ℕ) → birth_in bodies (at space found) ≡ Some n → mark_at marks n ≡ true) → AreFrozenUpTo bodies marks top (Some (space, found + 1))
      goes_on marked who n born under = elim (closed who n born under) [
        | inl is ↦ inl is
        | inr pending ↦ elim (on who n born pending) [
          | inl same ↦ inl (marked n (ap (birth_in bodies) (sym same) ∙ born))
          | inr comes ↦ inr comes
        ]
      ]

      -- it is a space, and is marked now
      module _ (now : List Bool) (birth : ℕ) (here : birth_in bodies (at space found) ≡ Some birth) (apart : birth ≢ top)
          (marks_now : (n : ℕ) → mark_at now n ≡ cond (n == birth) true (mark_at marks n)) where
        -- whoever was yet to come comes still
        comes_still : (who : Who) (n : ℕ) → birth_in bodies who ≡ Some n → (n == birth) ≡ false → (mark_at marks n ≡ true) ⊎ Pending bodies top space slot who →
            (mark_at now n ≡ true) ⊎ Pending bodies top birth 0 who
        comes_still who n born off (inl is) = inl (marked_other marks now birth n marks_now off ∙ is)
        comes_still who n born off (inr pending) = elim (on who n born pending) [
          | inl same ↦ absurd (not_here same)
          | inr comes ↦ inr (Above birth 0 (at space found) who apart (known.known (at space found) birth here) comes)
        ]
          where
            not_here : who ≡ at space found → ⊥
            not_here same =
                let both = sym born ∙ ap (birth_in bodies) same ∙ here in
                let is : n ≡ birth = cc in
                let on : (n == birth) ≡ true = grind (arith, nat_tests) in
                let none = sym on ∙ off in absurd (cc)

        unmarked_yet : (who : Who) (n : ℕ) → birth_in bodies who ≡ Some n → (n == birth) ≡ false → IsUnder bodies now who →
            (mark_at now n ≡ true) ⊎ Pending bodies top birth 0 who
        unmarked_yet who n born off (inl held) = comes_still who n born off (closed who n born (inl held))
        unmarked_yet who n born off (inr above) = by (who.space == birth) refl
          where
            by : (b : Bool) → (who.space == birth) ≡ b → (mark_at now n ≡ true) ⊎ Pending bodies top birth 0 who
            by true e = inr (Here birth 0 who (grind (arith, nat_tests)) (omega arith))
            by false e = comes_still who n born off (closed who n born (inr (sym (marked_other marks now birth who.space marks_now e) ∙ above)))

        pub goes_down : AreFrozenUpTo bodies now top (Some (birth, 0))
        goes_down who n born under = by (n == birth) refl
          where
            by : (b : Bool) → (n == birth) ≡ b → (mark_at now n ≡ true) ⊎ Pending bodies top birth 0 who
            by true e = inl (marked_one marks now birth n marks_now e)
            by false e = unmarked_yet who n born e under

  -- ---- nothing more stands in the space

  pub goes_up : (marks : List Bool) (space slot : ℕ) → ((k : ℕ) → IsSome (get bodies (at space k)) → k < slot) →
      AreFrozenUpTo bodies marks top (Some (space, slot)) → AreFrozenUpTo bodies marks top (upward bodies top space)
  goes_up marks space slot none closed who n born under = elim (closed who n born under) [
    | inl is ↦ inl is
    | inr pending ↦ inr (on_up pending)
  ]
    where
      on_up : Pending bodies top space slot who → IsPending bodies top (upward bodies top space) who
      on_up (Here s k w in_it low) =
          let place_is : who ≡ at space who.slot = λ i. record { space = in_it i; slot = who.slot } in
          let before = none who.slot (subst (λ w. IsSome (get bodies w)) place_is (there bodies who n born)) in
          absurd (omega (arith, before, low))
      on_up (Above s k h w apart up more) =
          let off : (space == top) ≡ false = grind (arith, nat_tests) in rw (off, up) more

  -- ---- the beginning and the end

  module _ (at_top : Who) (here : birth_in bodies at_top ≡ Some top) (marks now : List Bool) (closed : AreFrozenBut bodies marks at_top)
      (marks_now : (n : ℕ) → mark_at now n ≡ cond (n == top) true (mark_at marks n)) where
    -- what stands elsewhere, and isn't the one
    beside : (who : Who) (n : ℕ) → birth_in bodies who ≡ Some n → (n == top) ≡ false → IsUnder bodies marks who → mark_at now n ≡ true
    beside who n born off under =
        marked_other marks now top n marks_now off
        ∙ closed who n (other_number bodies known at_top who top n here born (grind (arith, nat_tests))) born under

    begun : (who : Who) (n : ℕ) → birth_in bodies who ≡ Some n → (n == top) ≡ false → IsUnder bodies now who →
        (mark_at now n ≡ true) ⊎ Pending bodies top top 0 who
    begun who n born off (inl held) = inl (beside who n born off (inl held))
    begun who n born off (inr above) = by (who.space == top) refl
      where
        by : (b : Bool) → (who.space == top) ≡ b → (mark_at now n ≡ true) ⊎ Pending bodies top top 0 who
        by true e = inr (Here top 0 who (grind (arith, nat_tests)) (omega arith))
        by false e = inl (beside who n born off (inr (sym (marked_other marks now top who.space marks_now e) ∙ above)))

    pub begins : AreFrozenUpTo bodies now top (Some (top, 0))
    begins who n born under = by (n == top) refl
      where
        by : (b : Bool) → (n == top) ≡ b → (mark_at now n ≡ true) ⊎ Pending bodies top top 0 who
        by true e = inl (marked_one marks now top n marks_now e)
        by false e = begun who n born e under

    -- it was marked: so is all beneath it
    pub was_marked : now ≡ marks → AreFrozen bodies now
    was_marked same who n born under = by (n == top) refl
      where
        before : IsUnder bodies marks who
        before = subst (λ m. IsUnder bodies m who) same under

        by : (b : Bool) → (n == top) ≡ b → mark_at now n ≡ true
        by true e = marked_one marks now top n marks_now e
        by false e = beside who n born e before

  pub ends : (marks : List Bool) → AreFrozenUpTo bodies marks top None → AreFrozen bodies marks
  ends marks closed who n born under = elim (closed who n born under) [ inl is ↦ is | inr none ↦ absurd none ]

-- ---- it comes to its end

pub falls_on : (marks space slot found : ℕ) → slot ≤ found → found < 256 → weight marks (Some (space, found + 1)) < weight marks (Some (space, slot))
falls_on marks space slot found low few = omega (arith, low, few)

pub falls_down : (marks now space slot birth : ℕ) → now < marks → birth < 4294967296 → weight now (Some (birth, 0)) < weight marks (Some (space, slot))
falls_down marks now space slot birth less low = omega (arith, less, low)

pub falls_up : (bodies : FinMap who_cmp Body) → AreKnown bodies → (marks top space slot : ℕ) →
    weight marks (upward bodies top space) < weight marks (Some (space, slot))
falls_up bodies known marks top space slot = by (space == top) (home_in bodies space) refl
  where
    by : (t : Bool) (x : Option Who) → home_in bodies space ≡ x → weight marks (cond t None (behind x)) < weight marks (Some (space, slot))
    by true x e = omega arith
    by false None e = omega arith
    by false (Some who) e = let young = known.younger who space (births-found bodies space who e) in omega (arith, young)

-- ---- marks

pub top_marked : (marks now : List Bool) (top : ℕ) → ((n : ℕ) → mark_at now n ≡ cond (n == top) true (mark_at marks n)) → mark_at now top ≡ true
top_marked marks now top marks_now = marked_one marks now top top marks_now (grind (arith, nat_tests))

pub not_top : (marks : List Bool) (top birth : ℕ) → mark_at marks top ≡ true → mark_at marks birth ≡ false → birth ≢ top
not_top marks top birth on off is = let both = sym on ∙ ap (mark_at marks) (sym is) ∙ off in absurd (cc)

pub still_marked : (marks now : List Bool) (top birth : ℕ) → mark_at marks top ≡ true →
    ((n : ℕ) → mark_at now n ≡ cond (n == birth) true (mark_at marks n)) → mark_at now top ≡ true
still_marked marks now top birth on marks_now = marks_now top ∙ by (top == birth)
  where
    by : (b : Bool) → cond b true (mark_at marks top) ≡ true
    by true = refl
    by false = on

-- what has no birth number is no space
pub no_space : (bodies : FinMap who_cmp Body) (marks : List Bool) (who : Who) → None ≡ birth_in bodies who → (n : ℕ) → birth_in bodies who ≡ Some n →
    mark_at marks n ≡ true
no_space bodies marks who none n born = let both = none ∙ born in absurd (cc)

-- the space that stands there has the number that it has
pub known_marked : (bodies : FinMap who_cmp Body) (marks now : List Bool) (who : Who) (birth : ℕ) → birth_in bodies who ≡ Some birth →
    ((n : ℕ) → mark_at now n ≡ cond (n == birth) true (mark_at marks n)) → now ≡ marks → (n : ℕ) → birth_in bodies who ≡ Some n → mark_at marks n ≡ true
known_marked bodies marks now who birth here marks_now same n born =
    let both = sym born ∙ here in
    let is : n ≡ birth = cc in
    sym (ap (λ m. mark_at m n) same) ∙ marked_one marks now birth n marks_now (grind (arith, nat_tests))

-- ---- a mark is taken away that nothing asks for

-- what asks for no mark needs none
pub need_not : (bodies : FinMap who_cmp Body) (marks : List Bool) (top : Who) → (IsUnder bodies marks top → ⊥) → AreFrozenBut bodies marks top →
    AreFrozen bodies marks
need_not bodies marks top free closed who n born under = by (same_who who top) refl
  where
    by : (b : Bool) → same_who who top ≡ b → mark_at marks n ≡ true
    by false e = closed who n e born under
    by true e = absurd (free (subst (IsUnder bodies marks) (same_who_eq who top e) under))

pub not_under : (bodies : FinMap who_cmp Body) (marks : List Bool) (who : Who) → is_held_at bodies who ≡ false → mark_at marks who.space ≡ false →
    IsUnder bodies marks who → ⊥
not_under bodies marks who off none (inl on) = let both = sym on ∙ off in absurd (cc)
not_under bodies marks who off none (inr on) = let both = sym on ∙ none in absurd (cc)

module _ (bodies : FinMap who_cmp Body) (known : AreKnown bodies) (marks now : List Bool) (top : Who) (birth : ℕ) (here : birth_in bodies top ≡ Some birth)
    (free : IsUnder bodies marks top → ⊥) where
  pub thawed_one : AreFrozen bodies marks → ((n : ℕ) → n ≢ birth → mark_at now n ≡ mark_at marks n) → (mark_at now birth ≡ true → mark_at marks birth ≡ true) →
      AreFrozen bodies now
  thawed_one closed others less who n born under = by (n == birth) refl
    where
      was : IsUnder bodies now who → IsUnder bodies marks who
      was (inl held) = inl held
      was (inr above) = go (who.space == birth) refl
        where
          go : (b : Bool) → (who.space == birth) ≡ b → IsUnder bodies marks who
          go false e = inr (sym (others who.space (grind (arith, nat_tests))) ∙ above)
          go true e =
              let is : who.space ≡ birth = grind (arith, nat_tests) in
              inr (ap (mark_at marks) is ∙ less (ap (mark_at now) (sym is) ∙ above))

      by : (b : Bool) → (n == birth) ≡ b → mark_at now n ≡ true
      by false e = others n (grind (arith, nat_tests)) ∙ closed who n born (was under)
      by true e =
          let is : n ≡ birth = grind (arith, nat_tests) in
          let same = one_name bodies known who top birth (born ∙ ap Some is) here in
          absurd (free (subst (IsUnder bodies marks) same (was under)))

-- ---- where a space has no mark, none above it is held

pub none_above : (bodies : FinMap who_cmp Body) (marks : List Bool) → AreFrozen bodies marks → (n : ℕ) → mark_at marks n ≡ false → (who : Who) →
    IsAbove bodies n who → is_held_at bodies who ≡ false
none_above bodies marks frozen n off who (Home k w home) = by (is_held_at bodies who) refl
  where
    by : (b : Bool) → is_held_at bodies who ≡ b → b ≡ false
    by false e = refl
    by true e =
        let on = frozen who n (births-found bodies n who home) (inl e) in
        let both = sym on ∙ off in absurd (cc)
none_above bodies marks frozen n off who (Further k up w home more) = none_above bodies marks frozen up.space (by (mark_at marks up.space) refl) who more
  where
    by : (b : Bool) → mark_at marks up.space ≡ b → b ≡ false
    by false e = refl
    by true e =
        let on = frozen up n (births-found bodies n up home) (inr e) in
        let both = sym on ∙ off in absurd (cc)
