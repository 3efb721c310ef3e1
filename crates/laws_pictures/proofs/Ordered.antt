-- The spaces of a subtree's image stand in preorder.
use Rattle.std.proofs.Common.{◌≡◌, ℕ, suc, ◌+◌, ◌<◌, ◌≤◌, ◌^◌, inl, inr, true, cond, not, ◌&&◌, List, [], ◌∷◌, ◌++◌, map, length, Option, Some, None}
use Rattle.std.proofs.Common.{option_map, is_some, refl, sym, ap, subst, ◌∙◌, arith, eq-eqb, ne_eqb, append_assoc, length-append}
use Rattle.std.specs.Prelude.{slice_get}
use Rattle.std.proofs.lemmas.Bool.{and_from, lt-ltb, le-ltb}
use Rattle.std.proofs.lemmas.List.{map-append}
use Rattle.fk_model.specs.declared.names.Kind.{Kind}
use Rattle.fk_model.specs.declared.names.Kind.TheVariants as kinds
use Rattle.fk_model.specs.Places.{Path, Ptr, Ptr as ptrs}
use Rattle.fk_model.specs.Objects.{Body, Body as bodies, and_then, kind_of}
use Rattle.fk_model.specs.World.{World}
use Rattle.fk_model.specs.Valid.{kind_there}
use Rattle.fk_image.specs.declared.image.image.SpaceRec.{SpaceRec}
use Rattle.fk_image.specs.declared.image.open.Open.{Open}
use Rattle.fk_image.specs.Image.Objects.{kind_of_rec, kind_in}
use Rattle.fk_image.specs.Image.Ranges.{fits_link}
use Rattle.fk_image.specs.Image.Preorder.{from, first_floor, room_under, has_room, root_path, after_entering, path_after, after_space}
use Rattle.fk_image.specs.Image.Links.{kind_in_space}
use Rattle.fk_image.specs.Image.Valid.{all_from, fits_space, fits_spaces, is_null, is_first, is_next, fits_objects, fits_pages}
use Rattle.laws_pictures.specs.Imaged.{rank, link_of, rec_of, rec_at, objects_from, pages_from, holder_link, space_rec, Follows, AreItsSpaces, IsLed, IsHeldBy}
use Rattle.laws_pictures.specs.Imaged.{IsLedBody, IsAlone}
use Rattle.laws_pictures.proofs.Trees.{there_low, get_before}
use Rattle.laws_pictures.proofs.Bodies.{kind_by_rec, kind_of_space}
use Rattle.laws_pictures.proofs.Imaged.{ranked, before, ranked_is, rec_is, get_map}

module _ (c : World) (sp : List Path) (alone : IsAlone c) (its : AreItsSpaces c sp) (few : length sp < 2 ^ 32) where
  in_range : (q : Path) → slice_get sp (rank sp q) ≡ Some q → rank sp q < 2 ^ 32
  in_range q e = let low = there_low sp (rank sp q) q e in omega (arith, low, few)

  pub link_fits : (p : Ptr) → IsLed c p → fits_link (link_of sp p) ≡ true
  link_fits ptrs.Null led = refl
  link_fits ptrs.Dead led = refl
  link_fits (ptrs.At []) led = refl
  link_fits (ptrs.At (k ∷ q)) led = and_from _ _ (lt-ltb (rank sp q) (2 ^ 32) (in_range q (its.all q (alone.parents k q led))))
      (lt-ltb k 240 (alone.slots k q led))
  link_fits (ptrs.Out i) led = lt-ltb i 240 (omega (arith, led))
  link_fits ptrs.Outside led = refl
  link_fits ptrs.Far led = refl

module _ (c : World) (sp : List Path) (alone : IsAlone c) (its : AreItsSpaces c sp) (few : length sp < 2 ^ 32)
    (full : (q : Path) → (fits_objects (objects_from (rec_at c sp q) 240 0) ≡ true) × (fits_pages (pages_from (c.page q) 256 0) ≡ true)) where
  abbrev f : Path → SpaceRec
  f p = space_rec c sp p

  abbrev IsMember : Path → Type 0
  IsMember p = slice_get sp (rank sp p) ≡ Some p

  same_rank : (p q : Path) → IsMember p → IsMember q → rank sp p ≡ rank sp q → p ≡ q
  same_rank p q a b e = by (slice_get sp (rank sp q)) (ap (slice_get sp) (sym e) ∙ a) b
    where
      by : (o : Option Path) → o ≡ Some p → o ≡ Some q → p ≡ q
      by None e f = absurd cc
      by (Some x) e f = cc

  -- ---- the open path behind a space

  opens : Path → ℕ → List Open
  opens [] floor = record { space = rank sp []; floor = floor } ∷ []
  opens (j ∷ q) floor = record { space = rank sp (j ∷ q); floor = floor } ∷ opens q (j + 1)

  from_here : (q : Path) (floor : ℕ) → from (rank sp q) (opens q floor) ≡ opens q floor
  unfolding from opens
  from_here [] floor = ap (λ b. cond b (opens [] floor) []) (eq-eqb (rank sp []) (rank sp []) refl)
  from_here (j ∷ q) floor = ap (λ b. cond b (opens (j ∷ q) floor) (from (rank sp (j ∷ q)) (opens q (j + 1)))) (eq-eqb (rank sp (j ∷ q)) (rank sp (j ∷ q)) refl)

  from_above : (z : Path) (j : ℕ) (q : Path) (floor : ℕ) → ((y x : Path) → z ++ (j ∷ q) ≡ y ++ x → IsMember x)
      → from (rank sp q) (opens (z ++ (j ∷ q)) floor) ≡ opens q (j + 1)
  unfolding from opens
  from_above [] j q floor all =
      ap (λ b. cond b (opens (j ∷ q) floor) (from (rank sp q) (opens q (j + 1))))
      (ne_eqb (rank sp (j ∷ q)) (rank sp q) (λ e. longer (same_rank (j ∷ q) q (all [] (j ∷ q) refl) (all (j ∷ []) q refl) e)))
      ∙ from_here q (j + 1)
    where
      longer : j ∷ q ≡ q → ⊥
      longer e = let long = ap length e in omega (arith, long)
  from_above (i ∷ z) j q floor all =
      let top = i ∷ (z ++ (j ∷ q)) in
      ap (λ b. cond b (opens top floor) (from (rank sp q) (opens (z ++ (j ∷ q)) (i + 1))))
      (ne_eqb (rank sp top) (rank sp q) (λ e. longer
      (same_rank top q (all [] top refl) (all (i ∷ (z ++ (j ∷ []))) q (ap (λ x. i ∷ x) (sym (append_assoc z (j ∷ []) q)))) e)))
      ∙ from_above z j q (i + 1) (λ y x e. all (i ∷ y) x (ap (λ w. i ∷ w) e))
    where
      longer : i ∷ (z ++ (j ∷ q)) ≡ q → ⊥
      longer e = let long = ap length e in let sum = length-append z (j ∷ q) in omega (arith, long, sum)

  enters : (n k : ℕ) (q : Path) (floor : ℕ) → after_entering n k (opens q floor) ≡ record { space = n; floor = 0 } ∷ opens q (k + 1)
  unfolding opens
  enters n k [] floor = refl
  enters n k (j ∷ q) floor = refl

  first_of_opens : (q : Path) (floor : ℕ) → first_floor (opens q floor) ≡ Some floor
  unfolding opens
  first_of_opens [] floor = refl
  first_of_opens (j ∷ q) floor = refl

  -- ---- pointers fit

  holder_fits : (o : Option Body) → ((b : Body) → o ≡ Some b → IsLedBody c b) → fits_link (holder_link sp o) ≡ true
  holder_fits None led = refl
  holder_fits (Some (bodies.Space birth None)) led = refl
  holder_fits (Some (bodies.Space birth (Some p))) led = held p (led (bodies.Space birth (Some p)) refl).1
    where
      held : (p : Ptr) → IsHeldBy c (Some p) → fits_link (link_of sp p) ≡ true
      held (ptrs.At x) h = link_fits c sp alone its few (ptrs.At x) h
      held ptrs.Null h = absurd h
      held ptrs.Dead h = absurd h
      held (ptrs.Out i) h = absurd h
      held ptrs.Outside h = absurd h
      held ptrs.Far h = absurd h
  holder_fits (Some (bodies.Mutex locked)) led = refl
  holder_fits (Some bodies.Cond) led = refl
  holder_fits (Some (bodies.Mapping m)) led = refl
  holder_fits (Some (bodies.Region r)) led = refl
  holder_fits (Some (bodies.Port set served)) led = refl
  holder_fits (Some bodies.Portset) led = refl
  holder_fits (Some (bodies.Thread_of t)) led = refl
  holder_fits (Some (bodies.Reference to)) led = refl

  -- ---- no object where a space is

  space_body : (o : Option Body) → option_map kind_of o ≡ Some kinds.Space → (is_some o ≡ true) × (and_then (rec_of sp) o ≡ None)
  space_body None e = absurd cc
  space_body (Some (bodies.Space birth holder)) e = (refl, refl)
  space_body (Some (bodies.Mutex locked)) e = absurd cc
  space_body (Some bodies.Cond) e = absurd cc
  space_body (Some (bodies.Mapping m)) e = absurd cc
  space_body (Some (bodies.Region r)) e = absurd cc
  space_body (Some (bodies.Port set served)) e = absurd cc
  space_body (Some bodies.Portset) e = absurd cc
  space_body (Some (bodies.Thread_of t)) e = absurd cc
  space_body (Some (bodies.Reference to)) e = absurd cc

  kind_read : (p : Path) → kind_there c p ≡ option_map kind_of (c.body p)
  unfolding kind_there
  kind_read p = refl

  no_object : (k : ℕ) (q : Path) → kind_there c (k ∷ q) ≡ Some kinds.Space → kind_in (objects_from (rec_at c sp q) 240 0) k ≡ None
  no_object k q e =
      kind_by_rec (objects_from (rec_at c sp q) 240 0) k
      ∙ ap (option_map kind_of_rec) (rec_is c sp alone its q k ∙ (space_body (c.body (k ∷ q)) (sym (kind_read (k ∷ q)) ∙ e)).1)

  mapped_long : (xs : List Path) → length (map f xs) ≡ length xs
  mapped_long [] = refl
  mapped_long (x ∷ xs) = ap suc (mapped_long xs)

  -- ---- one space after the other

  record Room (n : ℕ) (l : Path) (k : ℕ) (q : Path) : Type 0 where
    pub floor : ℕ
    pub le : floor ≤ k
    pub from_is : from (rank sp q) (opens l 0) ≡ opens q floor
    pub member : IsMember q
    pub low : rank sp q < length sp
    pub early : rank sp q ≤ n

  room : (n : ℕ) (l : Path) (k : ℕ) (q : Path) → slice_get sp n ≡ Some l → Follows l (k ∷ q) → Room n l k q
  room n l k q at (inl same) =
      let b = before c sp alone its n [] q (at ∙ ap (λ (y : Path). Some y) same) in
      let m = (ranked sp b.number q b.at).0 in
      let below = (ranked sp b.number q b.at).1 in
      let under = b.le in
      record {
        floor = 0;
        le = omega arith;
        from_is = ap (λ x. from (rank sp q) (opens x 0)) same
            ∙ from_here q 0;
        member = m;
        low = there_low sp (rank sp q) q m;
        early = omega (arith, below, under);
      }
  room n l k q at (inr h) =
      let all : (y x : Path) → h.0 ++ (h.1 ∷ q) ≡ y ++ x → IsMember x =
      λ y x e. (let b = before c sp alone its n y x (at ∙ ap (λ (w : Path). Some w) (h.2 ∙ e)) in (ranked sp b.number x b.at).0) in
      let m = all (h.0 ++ (h.1 ∷ [])) q (sym (append_assoc h.0 (h.1 ∷ []) q)) in
      let lt = h.3 in
      let b = before c sp alone its n (h.0 ++ (h.1 ∷ [])) q (at ∙ ap (λ (w : Path). Some w) (h.2 ∙ sym (append_assoc h.0 (h.1 ∷ []) q))) in
      let below = (ranked sp b.number q b.at).1 in
      let under = b.le in
      record {
        early = omega (arith, below, under);
        floor = h.1 + 1;
        le = omega (arith, lt);
        from_is = ap (λ x. from (rank sp q) (opens x 0)) h.2 ∙ from_above h.0 h.1 q 0 all;
        member = m;
        low = there_low sp (rank sp q) q m;
      }

  has_room_from : (o : Option ℕ) (floor k : ℕ) → o ≡ Some floor → floor ≤ k → has_room o k ≡ true
  has_room_from None floor k e le = absurd cc
  has_room_from (Some other) floor k e le = let same : other ≡ floor = cc in ap not (le-ltb k other (omega (arith, same, le)))

  free : (o : Option Kind) → o ≡ None → not (is_some o) ≡ true
  free None e = refl
  free (Some k) e = absurd cc

  in_order : (rest : List Path) (d : Path) (ds : List Path) (n : ℕ) (l : Path) → sp ≡ (d ∷ ds) ++ rest → length (d ∷ ds) ≡ suc n → slice_get sp n ≡ Some l →
      all_from after_space fits_space (map f (d ∷ ds), opens l 0) (map f rest) ≡ true
  unfolding opens
  in_order [] d ds n l parts long at = refl
  in_order (p ∷ rest) d ds n l parts long at = by p here (its.order n l p at here) parts
      (λ q' parts'. in_order rest d (ds ++ q' ∷ []) (suc n) q' (parts' ∙ sym (append_assoc (d ∷ ds) (q' ∷ []) rest)) (length-append (d ∷ ds) (q' ∷ []) ∙ more)
      (here_of q' parts'))
    where
      more : length (d ∷ ds) + 1 ≡ suc (suc n)
      more = omega (arith, long)

      after : (xs ys : List Path) (y : Path) → slice_get (xs ++ (y ∷ ys)) (length xs) ≡ Some y
      after [] ys y = refl
      after (x ∷ xs) ys y = after xs ys y

      here_of : (p : Path) → sp ≡ (d ∷ ds) ++ (p ∷ rest) → slice_get sp (suc n) ≡ Some p
      here_of p parts = ap (slice_get sp) (sym long) ∙ ap (λ xs. slice_get xs (length (d ∷ ds))) parts ∙ after (d ∷ ds) rest p

      here : slice_get sp (suc n) ≡ Some p
      here = here_of p parts

      by : (p : Path) → slice_get sp (suc n) ≡ Some p → Follows l p → sp ≡ (d ∷ ds) ++ (p ∷ rest) →
          ((p : Path) → sp ≡ (d ∷ ds) ++ (p ∷ rest) → all_from after_space fits_space (map f (d ∷ (ds ++ p ∷ [])), opens p 0) (map f rest) ≡ true) →
          (fits_space (map f (d ∷ ds), opens l 0) (f p) && all_from after_space fits_space (after_space (map f (d ∷ ds), opens l 0) (f p)) (map f rest)) ≡ true
      by [] here follows parts go = absurd follows
      by (k ∷ q) here follows parts go =
          let r = room n l k q at follows in
          let done = map f (d ∷ ds) in
          let kind = its.each (suc n) (k ∷ q) here in
          let some = (space_body (c.body (k ∷ q)) (sym (kind_read (k ∷ q)) ∙ kind)).0 in
          let floor_is : room_under (opens l 0) (rank sp q) ≡ Some r.floor = ap first_floor r.from_is ∙ first_of_opens q r.floor in
          let early = r.early in
          let short : rank sp q < length (d ∷ ds) = omega (arith, early, long) in
          let rec_there : slice_get done (rank sp q) ≡ Some (f q) =
          get_map f (d ∷ ds) (rank sp q) ∙ ap (option_map f) (sym (get_before (d ∷ ds) ((k ∷ q) ∷ rest) (rank sp q) short)
          ∙ ap (λ xs. slice_get xs (rank sp q)) (sym parts) ∙ r.member) in
          let none : kind_in_space done (rank sp q) k ≡ None = ap (kind_of_space k) rec_there ∙ no_object k q kind in
          let low = r.low in
          let next : is_next done (opens l 0) (f (k ∷ q)) ≡ true =
          and_from _ _ (and_from _ _ (and_from _ _
          (and_from _ _ (lt-ltb (rank sp q) (2 ^ 32) (omega (arith, low, few))) (lt-ltb k 240 (alone.slots k q some)))
          (has_room_from (room_under (opens l 0) (rank sp q)) r.floor k floor_is r.le)) (free (kind_in_space done (rank sp q) k) none))
          (holder_fits (c.body (k ∷ q)) (λ b e. alone.led (k ∷ q) b e)) in
          let fits = and_from _ _ (and_from _ _ next (full (k ∷ q)).0) (full (k ∷ q)).1 in
          let count : length done ≡ rank sp (k ∷ q) = mapped_long (d ∷ ds) ∙ long ∙ sym (ranked_is c sp alone its (suc n) (k ∷ q) here) in
          let path : path_after done (f (k ∷ q)) (opens l 0) ≡ opens (k ∷ q) 0 =
          ap (after_entering (length done) k) r.from_is ∙ enters (length done) k q r.floor
          ∙ ap (λ m. record { space = m; floor = 0 } ∷ opens q (k + 1)) count in
          let goes : all_from after_space fits_space (after_space (done, opens l 0) (f (k ∷ q))) (map f rest) ≡ true =
          ap (λ x. all_from after_space fits_space (done ++ f (k ∷ q) ∷ [], x) (map f rest)) path
          ∙ ap (λ xs. all_from after_space fits_space (xs, opens (k ∷ q) 0) (map f rest)) (sym (map-append f (d ∷ ds) ((k ∷ q) ∷ [])))
          ∙ go (k ∷ q) parts in
          and_from _ _ fits goes

  starts : (xs : List Path) → sp ≡ xs → fits_spaces (map f xs) ≡ true
  unfolding opens
  starts [] e = absurd (clash (slice_get sp 0) (ap (λ xs. slice_get xs 0) e) its.first)
    where
      clash : (o : Option Path) → o ≡ None → o ≡ Some [] → ⊥
      clash o e f = cc
  starts (d ∷ rest) e =
      let first : d ≡ [] = first_is (sym (ap (λ xs. slice_get xs 0) e) ∙ its.first) in
      let long : length sp ≡ suc (length rest) = ap length e in
      let mapped = mapped_long rest in
      let null : is_null (holder_link sp (c.body d)) ≡ true = ap (λ p. is_null (holder_link sp (c.body p))) first
      ∙ ap (λ o. is_null (holder_link sp o)) alone.root in
      let top : is_first (f d) ≡ true = subst (λ p. is_null (holder_link sp (c.body p)) ≡ true → is_first (f p) ≡ true) (sym first) (λ h. h) null in
      let fits = and_from _ _ (and_from _ _ top (full d).0) (full d).1 in
      let root : opens [] 0 ≡ root_path = ap (λ n. record { space = n; floor = 0 } ∷ []) (ranked_is c sp alone its 0 [] its.first) in
      let goes = ap (λ x. all_from after_space fits_space (f d ∷ [], x) (map f rest)) (sym root) ∙ in_order rest d [] 0 [] e refl its.first in
      and_from _ _ (and_from _ _ (lt-ltb 0 (length (map f (d ∷ rest))) (omega arith))
      (lt-ltb (length (map f (d ∷ rest))) (2 ^ 32) (omega (arith, mapped, long, few)))) (and_from _ _ fits goes)
    where
      first_is : Some d ≡ Some [] → d ≡ []
      first_is e = cc

  pub spaces_fit : fits_spaces (map f sp) ≡ true
  spaces_fit = starts sp refl
