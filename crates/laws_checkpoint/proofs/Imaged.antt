-- What was assembled of a closed subtree is a valid image, whose picture the subtree is.
use Rattle.std.proofs.Common.{◌≡◌, ℕ, suc, ◌<◌, ◌≤◌, ◌^◌, Bool, true, false, cond, not, ◌&&◌, ◌||◌, ◌==◌, eqb, nat_le, is_some, IsSome, List, [], ◌∷◌, ◌++◌}
use Rattle.std.proofs.Common.{map, length, Option, Some, None, option_map, unwrap_or, refl, sym, ap, subst, ◌∙◌, arith, ◌⊎◌, inl, inr, length-append, ne_eqb}
use Rattle.std.proofs.Common.{eqb-true}
use Rattle.std.specs.List.{IsDistinct, AllByRecursion, list_any}
use Rattle.std.proofs.lemmas.Bool.{or_cases, leb-true}
use Rattle.std.proofs.lemmas.List.{append_cancel_right}
use Rattle.std.proofs.lemmas.Map.Steps.{length-le_from_distinct_below}
use Rattle.fk_model.specs.declared.limits.TheConstants.{LAST_USER_SLOT, LAST_SCRATCH_SLOT, LAST_PORTER_SLOT}
use Rattle.fk_model.specs.declared.names.Kind.TheVariants as kinds
use Rattle.fk_model.specs.Places.{Path}
use Rattle.fk_model.specs.Objects.{and_then, or_else, holds, reference_of, Window, Body, kind_of}
use Rattle.fk_model.specs.Objects.Body.{Mutex, Cond, Mapping, Region, Port, Portset, Space, Thread_of, Reference}
use Rattle.fk_model.specs.World.{World}
use Rattle.fk_model.specs.Searches.{objects, depth}
use Rattle.fk_model.specs.StateRows.{is_native}
use Rattle.fk_model.specs.Valid.{kind_there, birth_of, birth_at, IsRooted}
use Rattle.fk_model.specs.Cut.{is_far, is_out, ports_of, cutting, seen_by, unheld, cut}
use Rattle.fk_model.specs.Closed.{when_bad, far_field, is_led_to, open_field, led_to_from_outside, first_place, open_place, IsClosed}
use Rattle.fk_model.specs.Sound.{IsUncut, IsClean}
use Rattle.fk_model.proofs.walks.Members.{IsIn}
use Rattle.fk_model.proofs.walks.WalkLaws.{live_above, short, walked}
use Rattle.fk_image.specs.Image.Picture.{picture}
use Rattle.fk_image.specs.Image.Valid.{is_valid}
use Rattle.laws_moves.specs.Savable.Savable.{IsSound}
use Rattle.laws_subtrees.specs.Further.ClosedLaws.{IsUsersAlone}
use Rattle.laws_subtrees.proofs.InFurther.ClosedLaws.{closed_is_plain}
use Rattle.laws_pictures.specs.Imaged.{image_of}
use Rattle.laws_pictures.specs.Saved.{IsSavedSubtree}
use Rattle.laws_pictures.proofs.Once.{subtree_has_image}
use Rattle.laws_checkpoint.specs.Walk.{met}
use Rattle.laws_checkpoint.specs.Assembly.{spaces_met}
use Rattle.laws_checkpoint.proofs.Tasks.{spaces_are}
use Rattle.laws_checkpoint.proofs.Preorder.{Apart, spaces_apart, are_its_spaces}
use Rattle.laws_checkpoint.proofs.Numbers.{numbers_inside}
use Rattle.laws_checkpoint.proofs.Ended.{scratch_of}

-- ---- numbers of their own, as many as spaces

number : World → Path → ℕ
number w x = unwrap_or (birth_at w x) 0

birth_there : (o : Option Body) → option_map kind_of o ≡ Some kinds.Space → and_then birth_of o ≡ Some (unwrap_or (and_then birth_of o) 0)
birth_there (Some (Space birth holder)) h = refl
birth_there (Some (Mutex locked)) h = cc
birth_there (Some Cond) h = cc
birth_there (Some (Mapping m)) h = cc
birth_there (Some (Region r)) h = cc
birth_there (Some (Port set served)) h = cc
birth_there (Some Portset) h = cc
birth_there (Some (Thread_of t)) h = cc
birth_there (Some (Reference to)) h = cc
birth_there None h = cc

unclosed : (field : Path → Option ℕ) (slot : ℕ) (qs : List Path) → first_place field slot qs ≡ None → (q : Path) → IsIn q qs → field q ≡ None
unclosed field slot [] h q is = absurd is
unclosed field slot (p ∷ qs) h q is = by (field p) refl h is (unclosed field slot qs)
  where
    by : (o : Option ℕ) → field p ≡ o → or_else (option_map (λ number. record { path = p ++ slot ∷ []; field = number }) o) (first_place field slot qs) ≡ None →
        (p ≡ q) ⊎ IsIn q qs → (first_place field slot qs ≡ None → (q : Path) → IsIn q qs → field q ≡ None) → field q ≡ None
    by (Some k) e h is rest = cc
    by None e h (inl here) rest = ap field (sym here) ∙ e
    by None e h (inr there) rest = rest h q there

module _ (w : World) (nester : Path) (slot : ℕ) (sound : IsSound w) (clean : IsClean w) (uncut : IsUncut w) (alone : IsUsersAlone w nester slot)
    (closed : IsClosed w nester slot) where
  abbrev root : Path
  root = slot ∷ nester

  abbrev c : World
  c = cut w nester slot

  is_some-map : (f : Body → Body) (o : Option Body) → is_some (option_map f o) ≡ is_some o
  is_some-map f None = refl
  is_some-map f (Some b) = refl

  live_is : (q : Path) → is_some (c.body q) ≡ is_some (w.body (q ++ root))
  unfolding cut
  live_is q = is_some-map (λ (b : Body). unheld q (seen_by (cutting (ports_of w nester slot) nester slot) b)) (w.body (q ++ root))

  -- ---- no porter and no scratch inside

  low_slot : (k : ℕ) (q : Path) → IsSome (w.body (k ∷ (q ++ root))) → k ≤ LAST_USER_SLOT
  low_slot k q live = by (w.body (k ∷ (q ++ root))) refl live
    where
      absent : (o : Option Body) → IsSome o → o ≡ None → ⊥
      absent None live e = cc
      absent (Some b) live e = cc

      porters : (b : Body) → w.body (k ∷ (q ++ root)) ≡ Some b → (t : Bool) → (t && is_native b) ≡ true → ⊥
      porters b e true h =
          let none = sym (ap (holds is_native) e) ∙ alone.no_porter (k ∷ q) in
          let both = sym h ∙ none in
          cc
      porters b e false h = cc

      scratch : nat_le k LAST_USER_SLOT ≡ false → nat_le k LAST_SCRATCH_SLOT ≡ true → ⊥
      scratch high low = absent (w.body (k ∷ (q ++ root))) live (clean (q ++ root) k (scratch_of (q ++ root) k (rw (high, low) refl)))

      each : (b : Body) → w.body (k ∷ (q ++ root)) ≡ Some b → (low below : Bool) → nat_le k LAST_USER_SLOT ≡ low → nat_le k LAST_SCRATCH_SLOT ≡ below →
          cond low (not (is_native b)) (cond below (is_some (reference_of b)) (k == LAST_PORTER_SLOT && is_native b)) ≡ true → k ≤ LAST_USER_SLOT
      each b e true below one two stands = leb-true k LAST_USER_SLOT one
      each b e false true one two stands = absurd (scratch one two)
      each b e false false one two stands = absurd (porters b e (k == LAST_PORTER_SLOT) stands)

      by : (o : Option Body) → w.body (k ∷ (q ++ root)) ≡ o → IsSome o → k ≤ LAST_USER_SLOT
      by None e h = cc
      by (Some b) e h = each b e (nat_le k LAST_USER_SLOT) (nat_le k LAST_SCRATCH_SLOT) refl refl (sound.savable.slots_kept k (q ++ root) b e)

  -- ---- each object inside is met

  long : (k : ℕ) (x : Path) → IsSome (c.body (k ∷ x)) → length (k ∷ x) ≤ depth
  long k x live =
      let less = short w sound.whole.valid.consistent (k ∷ (x ++ root)) (sym (live_is (k ∷ x)) ∙ live) in
      let more = length-append x root in
      let few = sound.whole.few in
      omega (arith, less, more, few)

  above : (k : ℕ) (x : Path) → IsSome (c.body (k ∷ x)) → IsSome (c.body x)
  above k x live = live_is x ∙ live_above w sound.whole.valid.consistent k (x ++ root) (sym (live_is (k ∷ x)) ∙ live)

  kind_map : (q : Path) (o : Option Body) → option_map kind_of
      (option_map (λ (b : Body). unheld q (seen_by (cutting (ports_of w nester slot) nester slot) b)) o) ≡ option_map kind_of o
  unfolding seen_by
  kind_map [] (Some (Space birth holder)) = refl
  kind_map [] (Some (Mutex locked)) = refl
  kind_map [] (Some Cond) = refl
  kind_map [] (Some (Mapping m)) = refl
  kind_map [] (Some (Region r)) = refl
  kind_map [] (Some (Port set served)) = refl
  kind_map [] (Some Portset) = refl
  kind_map [] (Some (Thread_of t)) = refl
  kind_map [] (Some (Reference to)) = refl
  kind_map [] None = refl
  kind_map (k ∷ q) (Some (Space birth holder)) = refl
  kind_map (k ∷ q) (Some (Mutex locked)) = refl
  kind_map (k ∷ q) (Some Cond) = refl
  kind_map (k ∷ q) (Some (Mapping m)) = refl
  kind_map (k ∷ q) (Some (Region r)) = refl
  kind_map (k ∷ q) (Some (Port set served)) = refl
  kind_map (k ∷ q) (Some Portset) = refl
  kind_map (k ∷ q) (Some (Thread_of t)) = refl
  kind_map (k ∷ q) (Some (Reference to)) = refl
  kind_map (k ∷ q) None = refl

  kind_is : (q : Path) → kind_there c q ≡ kind_there w (q ++ root)
  unfolding kind_there cut
  kind_is q = kind_map q (w.body (q ++ root))

  root_kind : kind_there w root ≡ Some kinds.Space
  unfolding kind_there
  root_kind = ap (option_map kind_of) alone.root

  parents : (k : ℕ) (x : Path) → IsSome (c.body (k ∷ x)) → kind_there c x ≡ Some kinds.Space
  parents k x live = kind_is x ∙ sound.whole.valid.consistent.parents k (x ++ root) (sym (live_is (k ∷ x)) ∙ live)

  rooted : IsRooted c
  rooted = record { root = kind_is [] ∙ root_kind; slots = λ k x live. sound.whole.valid.rooted.slots k (x ++ root) (sym (live_is (k ∷ x)) ∙ live) }

  pub in_cut : (q : Path) → IsSome (c.body q) → IsIn q ([] ∷ objects c)
  in_cut [] live = inl refl
  in_cut (k ∷ q) live = inr (walked c above rooted k q live (long k q live))

  field_none : (q : Path) → IsSome (c.body q) → far_field (c.body q) ≡ None
  unfolding open_place
  field_none q live = first (far_field (c.body q)) (unclosed (open_field w nester slot) slot ([] ∷ objects c) closed q (in_cut q live))
    where
      first : (o : Option ℕ) → or_else o (when_bad (is_led_to w root (q ++ root)) led_to_from_outside) ≡ None → o ≡ None
      first None h = refl
      first (Some n) h = cc

  window_near : (m : Window) → far_field (Some (Mapping m)) ≡ None → is_out m.region ≡ false
  window_near m h = by (is_far m.region) (is_out m.region) h
    where
      by : (a b : Bool) → when_bad (a || b) 0 ≡ None → b ≡ false
      by a false h = refl
      by true true h = cc
      by false true h = cc

  pub saved : IsSavedSubtree w nester slot
  saved = record {
    whole = sound.whole;
    savable = sound.savable;
    uncut = uncut;
    plain = closed_is_plain w nester slot sound.whole sound.savable uncut alone closed;
    users = low_slot;
    windows = λ x m e. window_near m (ap far_field (sym e) ∙ field_none x (ap is_some e));
  }

  -- ---- fewer spaces than there are birth numbers

  abbrev sp : List Path
  sp = spaces_met (map (met c) (objects c))

  is_space : (x : Path) → IsIn x sp → kind_there w (x ++ root) ≡ Some kinds.Space
  is_space x is = sym (kind_is x) ∙ spaces_are c rooted.root x is

  has_number : (x : Path) → kind_there w x ≡ Some kinds.Space → birth_at w x ≡ Some (number w x)
  unfolding kind_there number
  has_number x space = birth_there (w.body x) space

  abbrev numbers_of : List Path → List ℕ
  numbers_of xs = map (λ (x : Path). number w (x ++ root)) xs

  differ : (x y : Path) → kind_there w x ≡ Some kinds.Space → kind_there w y ≡ Some kinds.Space → (x ≡ y → ⊥) → eqb (number w x) (number w y) ≡ false
  differ x y one two other =
      ne_eqb (number w x) (number w y)
      (λ e. other (sound.whole.valid.consistent.apart x y (number w y) (has_number x one ∙ ap (λ (n : ℕ). Some n) e) (has_number y two)))

  others : (x : Path) (xs : List Path) → kind_there w x ≡ Some kinds.Space → ((y : Path) → IsIn y xs → kind_there w (y ++ root) ≡ Some kinds.Space) →
      ((y : Path) → IsIn y xs → x ≡ y ++ root → ⊥) → AllByRecursion (λ (n : ℕ). eqb (number w x) n ≡ false) (numbers_of xs)
  others x [] here spaces none = tt
  others x (y ∷ xs) here spaces none =
      (differ x (y ++ root) here (spaces y (inl refl)) (none y (inl refl)), others x xs here (λ z is. spaces z (inr is)) (λ z is. none z (inr is)))

  distinct : (xs : List Path) → Apart xs → ((y : Path) → IsIn y xs → kind_there w (y ++ root) ≡ Some kinds.Space) → IsDistinct eqb (numbers_of xs)
  unfolding IsDistinct
  distinct [] apart spaces = tt
  distinct (x ∷ xs) apart spaces = (
    others (x ++ root) xs (spaces x (inl refl)) (λ z is. spaces z (inr is))
        (λ y is e. apart.0 (subst (λ (z : Path). IsIn z xs) (sym (append_cancel_right x y root e)) is)),
    distinct xs apart.1 (λ z is. spaces z (inr is)),
  )

  below : (xs : List Path) → ((y : Path) → IsIn y xs → kind_there w (y ++ root) ≡ Some kinds.Space) → (q : ℕ) → list_any (eqb q) (numbers_of xs) ≡ true
      → q < w.next
  below [] spaces q h = cc
  below (x ∷ xs) spaces q h = by (or_cases (eqb q (number w (x ++ root))) (list_any (eqb q) (numbers_of xs)) h) (below xs (λ z is. spaces z (inr is)) q)
    where
      by : (eqb q (number w (x ++ root)) ≡ true) ⊎ (list_any (eqb q) (numbers_of xs) ≡ true) → (list_any (eqb q) (numbers_of xs) ≡ true → q < w.next)
          → q < w.next
      by (inl e) rest =
          let less = sound.whole.valid.consistent.born (x ++ root) (number w (x ++ root)) (has_number (x ++ root) (spaces x (inl refl))) in
          let same = eqb-true q (number w (x ++ root)) e in
          omega (arith, less, same)
      by (inr e) rest = rest e

  -- the world's root is one more
  top_apart : (y : Path) → [] ≡ y ++ root → ⊥
  top_apart y e = let more = length-append y root in omega (arith, more, ap length e)

  count : (xs : List Path) → length (numbers_of xs) ≡ length xs
  count [] = refl
  count (x ∷ xs) = ap suc (count xs)

  few_spaces : length sp < 2 ^ 32
  unfolding IsDistinct
  few_spaces =
      let all : suc (length (numbers_of sp)) ≤ w.next =
      length-le_from_distinct_below (number w [] ∷ numbers_of sp) w.next
      (others [] sp sound.whole.valid.rooted.root is_space (λ y is. top_apart y), distinct sp (spaces_apart c parents rooted long) is_space)
      (λ q h. top q (or_cases (eqb q (number w [])) (list_any (eqb q) (numbers_of sp)) h)) in
      let same = count sp in
      let few = sound.whole.few in
      omega (arith, all, same, few)
    where
      top : (q : ℕ) → (eqb q (number w []) ≡ true) ⊎ (list_any (eqb q) (numbers_of sp) ≡ true) → q < w.next
      top q (inl e) =
          let less = sound.whole.valid.consistent.born [] (number w []) (has_number [] sound.whole.valid.rooted.root) in
          let same = eqb-true q (number w []) e in
          omega (arith, less, same)
      top q (inr e) = below sp is_space q e

  -- ---- the image

  pub none_high : (q : Path) (k : ℕ) → 240 ≤ k → c.body (k ∷ q) ≡ None
  none_high q k high = by (c.body (k ∷ q)) refl
    where
      by : (o : Option Body) → c.body (k ∷ q) ≡ o → c.body (k ∷ q) ≡ None
      by None e = e
      by (Some b) e = let low = low_slot k q (sym (live_is (k ∷ q)) ∙ ap is_some e) in absurd (omega (arith, low, high))

  pub all_spaces : (q : Path) → IsIn q sp → kind_there c q ≡ Some kinds.Space
  all_spaces q is = spaces_are c rooted.root q is

  pub has_image : (is_valid (image_of c sp) ≡ true) × (picture (image_of c sp) ≡ c)
  has_image = subtree_has_image w nester slot sp saved (are_its_spaces c parents rooted long)
      (numbers_inside w nester slot sound.whole sound.savable) few_spaces
