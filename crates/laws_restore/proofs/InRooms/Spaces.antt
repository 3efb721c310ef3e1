-- A valid image's spaces, each after the one in which it lies.
use Rattle.std.proofs.Common.{◌≡◌, ℕ, zero, suc, ◌+◌, ◌<◌, ◌≤◌, ◌⊎◌, inl, inr, Bool, true, false, cond, not, ◌||◌, List, [], ◌∷◌, Option, Some, None}
use Rattle.std.proofs.Common.{option_map, is_some, refl, sym, ap, subst, ◌∙◌, arith}
use Rattle.std.specs.Prelude.{slice_get}
use Rattle.std.proofs.lemmas.Bool.{and_parts, false_from_ne_true, or_left, or_right, cases_lt}
use Rattle.fk_model.specs.declared.names.Kind.TheVariants as kinds
use Rattle.fk_model.specs.Places.{Path, same_path, strip, is_within}
use Rattle.fk_model.specs.World.{World}
use Rattle.fk_model.proofs.walks.PlaceLaws.{same_path_refl, same_path_eq}
use Rattle.fk_image.specs.declared.image.image.Link.{Link}
use Rattle.fk_image.specs.declared.image.image.Link.TheVariants.{Null, Dead, In, Out, Root, Outside}
use Rattle.fk_image.specs.declared.image.image.SpaceRec.{SpaceRec}
use Rattle.fk_image.specs.declared.image.image.Image.{Image}
use Rattle.fk_image.specs.Image.Links.{kind_in_space, is_thread_kind, is_space_within, may_hold, spaces_lead}
use Rattle.fk_image.specs.Image.Picture.{space_number, path_within, space_path, pictured_holder, pictured_body_at, picture}
use Rattle.fk_image.specs.Image.Valid.{is_null, is_first}
use Rattle.laws_restore.specs.Restore.Stages.{is_among}
use Rattle.laws_restore.specs.Restore.Fits.{there}
use Rattle.laws_restore.specs.Restore.Roomed.{AreMade, IsHolderAim, IsOutside, IsNewSpace, with_space, AreSpaces, with_spaces}
use Rattle.laws_pictures.specs.Tree.{IsTree, IsFull}
use Rattle.laws_pictures.proofs.Numbers.{item_of, is_there, there_below, number_of, path_up}
use Rattle.laws_pictures.proofs.Bodies.{kind_of_space, lead_at, space_at}
use Rattle.laws_restore.specs.Rooms.Rooms.{IsBinding, rooms_from}
use Rattle.laws_restore.proofs.InRooms.Ways.{space_there, way}
use Rattle.laws_restore.proofs.InRooms.Aims.{thread_at}
use Rattle.laws_restore.proofs.InRooms.Beneath.{IsNested, within_by_number}

-- ---- lists of paths

pub among_head : (y : Path) (xs : List Path) → is_among y (y ∷ xs) ≡ true
among_head y xs = or_left (same_path y y) (is_among y xs) (same_path_refl y)

pub among_tail : (y x : Path) (xs : List Path) → is_among y xs ≡ true → is_among y (x ∷ xs) ≡ true
among_tail y x xs e = or_right (same_path y x) (is_among y xs) e

pub among_cases : (y x : Path) (xs : List Path) → is_among y (x ∷ xs) ≡ true → (y ≡ x) ⊎ (is_among y xs ≡ true)
among_cases y x xs e = by (same_path y x) refl e
  where
    by : (b : Bool) → same_path y x ≡ b → (b || is_among y xs) ≡ true → (y ≡ x) ⊎ (is_among y xs ≡ true)
    by true p e = inl (same_path_eq y x p)
    by false p e = inr e

module _ (i : Image) (tree : IsTree i.spaces) (full : IsFull i.spaces) where
  abbrev ss : List SpaceRec
  ss = i.spaces

  abbrev c : World
  c = picture i

  -- numbers are one where paths are
  pub number_same : (m n : ℕ) → is_some (slice_get ss m) ≡ true → is_some (slice_get ss n) ≡ true → space_path ss m ≡ space_path ss n → m ≡ n
  number_same m n p q e = some_same (sym (number_of ss tree m p) ∙ ap (space_number ss) e ∙ number_of ss tree n q)
    where
      some_same : Some m ≡ Some n → m ≡ n
      some_same e = cc

  -- all that is among them is a space, and all spaces up to one are among them
  pub record IsSpace (n : ℕ) (y : Path) : Type 0 where
    pub before : ℕ
    pub low : before < n
    pub is : is_some (slice_get ss (suc before)) ≡ true
    pub path : y ≡ space_path ss (suc before)

  pub record AreSpacesTo (n : ℕ) (made : List Path) : Type 0 where
    pub came : (y : Path) → is_among y made ≡ true → IsSpace n y
    pub all : (m : ℕ) → m < n → is_some (slice_get ss (suc m)) ≡ true → is_among (space_path ss (suc m)) made ≡ true

  pub above_made : (d n : ℕ) (made : List Path) → n ≤ d → is_some (slice_get ss n) ≡ true
      → ((m : ℕ) → m < n → is_some (slice_get ss (suc m)) ≡ true → is_among (space_path ss (suc m)) made ≡ true) → AreMade (space_path ss n) made
  unfolding path_within
  above_made d zero made le is all = tt
  above_made zero (suc n) made le is all = absurd (omega (arith, le))
  above_made (suc d) (suc n) made le is all =
      let s = item_of (slice_get ss (suc n)) is in
      let low = tree.low n s.item s.is in
      let up = path_up ss tree n s.item s.is in
      subst (λ x. AreMade x made) (sym up) (
        ap (λ x. is_among x made) (sym up) ∙ all n (omega arith) is,
        above_made d s.item.parent made (omega (arith, low, le)) (there_below ss s.item.parent (suc n) (omega (arith, low)) is)
            (λ m lt at. all m (omega (arith, lt, low)) at),
      )

  fresh : (n : ℕ) (made : List Path) → AreSpacesTo n made → is_some (slice_get ss (suc n)) ≡ true → is_among (space_path ss (suc n)) made ≡ false
  fresh n made st is = false_from_ne_true (is_among (space_path ss (suc n)) made) (λ e. by (st.came (space_path ss (suc n)) e))
    where
      by : IsSpace n (space_path ss (suc n)) → ⊥
      by m = let same = number_same (suc n) (suc m.before) is m.is m.path in let low = m.low in omega (arith, same, low)

  one_more : (n : ℕ) (made : List Path) → is_some (slice_get ss (suc n)) ≡ true → AreSpacesTo n made → AreSpacesTo (suc n) (space_path ss (suc n) ∷ made)
  one_more n made is st = record { came = λ y e. came y (among_cases y (space_path ss (suc n)) made e); all = λ m lt at. all m at (cases_lt m n) lt }
    where
      came : (y : Path) → (y ≡ space_path ss (suc n)) ⊎ (is_among y made ≡ true) → IsSpace (suc n) y
      came y (inl e) = record { before = n; low = omega arith; is = is; path = e }
      came y (inr h) = let s = st.came y h in let low = s.low in record { before = s.before; low = omega (arith, low); is = s.is; path = s.path }

      all : (m : ℕ) → is_some (slice_get ss (suc m)) ≡ true → (m < n) ⊎ (n ≤ m) → m < suc n
          → is_among (space_path ss (suc m)) (space_path ss (suc n) ∷ made) ≡ true
      all m at (inl lt) le = among_tail (space_path ss (suc m)) (space_path ss (suc n)) made (st.all m lt at)
      all m at (inr ge) le = let same : suc m ≡ suc n = omega (arith, ge, le) in
          subst (λ x. is_among (space_path ss (suc m)) (x ∷ made) ≡ true) (ap (space_path ss) same) (among_head (space_path ss (suc m)) made)

  -- ---- holders

  module _ (nested : IsNested ss) (lead : spaces_lead ss 0 ss ≡ true) (bind : ℕ → ℕ) (low : IsBinding bind) where
    -- what lies in a slot lies in a space only if its own space does, or it is that space
    not_within : (n slot other : ℕ) → is_some (slice_get ss n) ≡ true → is_some (slice_get ss other) ≡ true
        → there c (slot ∷ space_path ss other) ≡ Some kinds.Thread → is_space_within ss n other ≡ false →
        is_within (space_path ss n) (slot ∷ space_path ss other) ≡ false
    unfolding strip
    not_within n slot other is other_is at off = by (same_path (slot ∷ space_path ss other) (space_path ss n)) refl
        (strip (space_path ss n) (space_path ss other)) refl
      where
        clash : true ≡ false → ⊥
        clash e = cc

        kinds_differ : Some kinds.Thread ≡ Some kinds.Space → ⊥
        kinds_differ e = cc

        by : (b : Bool) → same_path (slot ∷ space_path ss other) (space_path ss n) ≡ b → (o : Option Path) → strip (space_path ss n) (space_path ss other) ≡ o
            → is_some (cond b (Some []) (option_map (λ q. slot ∷ q) o)) ≡ false
        by true p o e = absurd (kinds_differ (sym at ∙ ap (there c) (same_path_eq (slot ∷ space_path ss other) (space_path ss n) p)
            ∙ space_there i tree full n is))
        by false p None e = refl
        by false p (Some q) e = absurd (clash (sym (within_by_number ss tree nested n other is other_is (ap is_some e)) ∙ off))

    holder_in : (n : ℕ) (to : Link) → is_some (slice_get ss n) ≡ true → may_hold ss n to ≡ true
        → IsHolderAim c (pictured_holder ss to) × IsOutside (space_path ss n) (pictured_holder ss to)
    holder_in n Null is e = (tt, tt)
    holder_in n Dead is e = absurd cc
    holder_in n (Out slot) is e = absurd cc
    holder_in n Root is e = absurd cc
    holder_in n Outside is e = absurd cc
    holder_in n (In slot other) is e =
        let both = and_parts (is_thread_kind (kind_in_space ss other slot)) (not (is_space_within ss n other)) e in
        let thread = thread_at i tree full bind low slot other both.0 in
        ((thread.way, thread.is), not_within n slot other is (item_there other slot both.0) thread.is (not_true (is_space_within ss n other) both.1))
      where
        not_true : (b : Bool) → not b ≡ true → b ≡ false
        not_true true e = cc
        not_true false e = refl

        item_there : (other slot : ℕ) → is_thread_kind (kind_in_space ss other slot) ≡ true → is_some (slice_get ss other) ≡ true
        item_there other slot e = by (slice_get ss other) refl e
          where
            by : (o : Option SpaceRec) → slice_get ss other ≡ o → is_thread_kind (kind_of_space slot o) ≡ true → is_some o ≡ true
            by None here e = absurd cc
            by (Some s) here e = refl

    -- ---- one after the other

    pub record AllAreSpaces (made : List Path) : Type 0 where
      pub came : (y : Path) → is_among y made ≡ true → (m : ℕ) × (is_some (slice_get ss (suc m)) ≡ true) × (y ≡ space_path ss (suc m))
      pub all : (m : ℕ) → is_some (slice_get ss (suc m)) ≡ true → is_among (space_path ss (suc m)) made ≡ true

    record Rest (n : ℕ) (xs : List SpaceRec) (made : List Path) : Type 0 where
      pub spaces : AreSpaces c (rooms_from ss n xs) made
      pub made_all : AllAreSpaces (with_spaces (rooms_from ss n xs) made)

    rest_of : (xs : List SpaceRec) (n : ℕ) (made : List Path) → ((j : ℕ) → slice_get xs j ≡ slice_get ss (suc n + j)) → AreSpacesTo n made
        → Rest (suc n) xs made
    unfolding picture
    rest_of [] n made agree st = record {
      spaces = tt;
      made_all = record {
        came = λ y e. let s = st.came y e in (s.before, s.is, s.path);
        all = λ m is. st.all m (short m is (cases_lt m n)) is;
      };
    }
      where
        short : (m : ℕ) → is_some (slice_get ss (suc m)) ≡ true → (m < n) ⊎ (n ≤ m) → m < n
        short m is (inl lt) = lt
        short m is (inr ge) =
            let same : suc n ≡ suc n + 0 = omega arith in
            absurd (none (sym (there_below ss (suc n) (suc m) (omega (arith, ge)) is) ∙ ap is_some (ap (slice_get ss) same ∙ sym (agree 0))))
          where
            none : true ≡ false → ⊥
            none e = cc
    rest_of (s ∷ xs) n made agree st =
        let same : suc n + 0 ≡ suc n = omega arith in
        let here : slice_get ss (suc n) ≡ Some s = ap (slice_get ss) (sym same) ∙ sym (agree 0) in
        let is = is_there (slice_get ss (suc n)) s here in
        let up = path_up ss tree n s here in
        let under = tree.low n s here in
        let slot = full.slots n s here in
        let above = there_below ss s.parent (suc n) (omega (arith, under)) is in
        let leads = and_parts (may_hold ss (0 + suc n) s.holder) _ (lead_at ss 0 ss (suc n) s lead here) in
        let zeroth : 0 + suc n ≡ suc n = omega arith in
        let held = holder_in (suc n) s.holder is (ap (λ m. may_hold ss m s.holder) (sym zeroth) ∙ leads.0) in
        let r = later (rest_of xs (suc n) (space_path ss (suc n) ∷ made) (λ j. agree (suc j) ∙ ap (slice_get ss) (shift n j)) (one_more n made is st)) in
        record {
          spaces = (
            subst (λ x. IsNewSpace c x (pictured_holder ss s.holder) made) (sym up) (
              ap (pictured_body_at ss) (sym up) ∙ space_at ss tree full n s here,
              omega (arith, slot),
              space_there i tree full s.parent above,
              way i tree full s.parent above,
              above_made s.parent s.parent made (omega arith) above (λ m lt at. st.all m (omega (arith, lt, under)) at),
              ap (λ x. is_among x made) (sym up) ∙ fresh n made st is,
              held.0,
              subst (λ x. IsOutside x (pictured_holder ss s.holder)) up held.1,
            ),
            subst (λ x. AreSpaces c (rooms_from ss (suc n + 1) xs) x) (sym (with_is up)) r.spaces,
          );
          made_all = subst (λ x. AllAreSpaces (with_spaces (rooms_from ss (suc n + 1) xs) x)) (sym (with_is up)) r.made_all;
        }
      where
        shift : (n j : ℕ) → suc n + suc j ≡ suc (suc n) + j
        shift n j = omega arith

        later : Rest (suc (suc n)) xs (space_path ss (suc n) ∷ made) → Rest (suc n + 1) xs (space_path ss (suc n) ∷ made)
        later r = let next : suc (suc n) ≡ suc n + 1 = omega arith in subst (λ k. Rest k xs (space_path ss (suc n) ∷ made)) next r

        with_is : {k : ℕ} {q : Path} → space_path ss (suc n) ≡ k ∷ q → with_space (space_path ss (suc n)) made ≡ space_path ss (suc n) ∷ made
        with_is up = ap (λ x. with_space x made) up ∙ ap (λ x. x ∷ made) (sym up)

    pub all_spaces : (xs : List SpaceRec) → ss ≡ xs → AreSpaces c (rooms_from ss 0 xs) [] × AllAreSpaces (with_spaces (rooms_from ss 0 xs) [])
    unfolding path_within
    all_spaces [] e = absurd (none (sym tree.top ∙ ap (λ ys. is_some (slice_get ys 0)) e))
      where
        none : true ≡ false → ⊥
        none e = cc
    all_spaces (s ∷ xs) e =
        let here : slice_get ss 0 ≡ Some s = ap (λ ys. slice_get ys 0) e in
        let r = rest_of xs 0 [] (λ j. shift j ∙ ap (λ ys. slice_get ys (1 + j)) (sym e))
        (record { came = λ y f. absurd cc; all = λ m lt at. absurd (omega (arith, lt)) }) in
        ((first s (full.first s here), r.spaces), r.made_all)
      where
        shift : (j : ℕ) → slice_get xs j ≡ slice_get (s ∷ xs) (1 + j)
        shift j = let next : suc j ≡ 1 + j = omega arith in ap (slice_get (s ∷ xs)) next

        null : (to : Link) → is_null to ≡ true → pictured_holder ss to ≡ None
        null Null e = refl
        null Dead e = absurd cc
        null (In slot space) e = absurd cc
        null (Out slot) e = absurd cc
        null Root e = absurd cc
        null Outside e = absurd cc

        first : (s : SpaceRec) → is_first s ≡ true → pictured_holder ss s.holder ≡ None
        first s e = null s.holder (and_parts _ (is_null s.holder) e).1
