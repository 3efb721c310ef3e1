-- Spaces: validity asks of the spaces what their form says.
use Rattle.std.proofs.Common.{◌≡◌, ℕ, zero, suc, ◌+◌, ◌^◌, ◌<◌, ◌≤◌, ◌⊎◌, inl, inr, Bool, true, not, ◌&&◌, ◌==◌, nat_lt, List, [], ◌∷◌, ◌++◌, length}
use Rattle.std.proofs.Common.{Option, Some, None, is_some, refl, sym, ap, subst, ◌∙◌, arith, eqb-true, eq-eqb, append_assoc}
use Rattle.std.specs.Prelude.{slice_get}
use Rattle.std.proofs.lemmas.Bool.{lt-ltb, le-ltb, ltb-true, ltb-false}
use Rattle.std.proofs.lemmas.List.{append-nil}
use Rattle.fk_image.specs.declared.image.image.Link.{Link}
use Rattle.fk_image.specs.declared.image.image.Link.TheVariants.{Null, Dead, In, Out, Root, Outside}
use Rattle.fk_image.specs.declared.image.image.ObjectRec.{ObjectRec}
use Rattle.fk_image.specs.declared.image.image.PageRec.{PageRec}
use Rattle.fk_image.specs.declared.image.image.SpaceRec.{SpaceRec}
use Rattle.fk_image.specs.declared.image.open.Open.{Open}
use Rattle.fk_image.specs.Image.Ranges.{is_slot, is_byte, is_half, are_words, fits_link, fits_body}
use Rattle.fk_image.specs.Image.Preorder.{room_under, has_room, root_path, path_after, after_space}
use Rattle.fk_image.specs.Image.Links.{kind_in_space}
use Rattle.fk_image.specs.Image.Valid.{all_from, after_object, after_page, fits_object, fits_page, fits_objects, fits_pages, is_null, is_first, is_next}
use Rattle.fk_image.specs.Image.Valid.{fits_space, fits_spaces}
use Rattle.fk_image.specs.Form.Order.{Follows, AreInOrder}
use Rattle.fk_image.specs.Form.Formed.{Each, Rises, IsObject, IsPage, IsSpace, IsRoot, AreSpaces}
use Rattle.fk_image.proofs.InFormat.Basics.{both, and2, and3, and5, all3, all5, not_true, not_false}
use Rattle.laws_image_faults.proofs.Order.{get-last, get-behind, take-first, take-whole}
use Rattle.laws_image_faults.proofs.Paths.{Good, room-some, room-slot, may-follow, follows-within, follows-above, good-more, good-first, none-some}

-- ---- items that rise

module _ {X : Type 0} (number : X → ℕ) (a b : X → Bool) where
  abbrev pub next : ℕ → X → ℕ
  next floor x = number x + 1

  abbrev pub fits : ℕ → X → Bool
  fits floor x = a x && not (nat_lt (number x) floor) && b x

  pub record Risen (floor : ℕ) (xs : List X) : Type 0 where
    pub each : (n : ℕ) (x : X) → slice_get xs n ≡ Some x → (a x ≡ true) × (b x ≡ true)
    pub rises : Rises number xs
    pub from : (x : X) → slice_get xs 0 ≡ Some x → floor ≤ number x

  pub risen : (floor : ℕ) (xs : List X) → all_from next fits floor xs ≡ true → Risen floor xs
  risen floor [] all = record { each = λ n x e. absurd cc; rises = λ n x y e f. absurd cc; from = λ x e. absurd cc }
  risen floor (x ∷ xs) all =
      let parts = and2 (fits floor x) (all_from next fits (number x + 1) xs) all in
      let here = and3 (a x) (not (nat_lt (number x) floor)) (b x) parts.0 in
      let rest = risen (number x + 1) xs parts.1 in
      let le = ltb-false (number x) floor (not_true (nat_lt (number x) floor) here.1) in
      record { each = each here rest.each; rises = rises rest.rises rest.from; from = λ y e. subst (λ y. floor ≤ number y) (one x y e) le }
    where
      one : (x y : X) → Some x ≡ Some y → x ≡ y
      one x y e = cc

      each : (a x ≡ true) × (not (nat_lt (number x) floor) ≡ true) × (b x ≡ true)
          → ((n : ℕ) (y : X) → slice_get xs n ≡ Some y → (a y ≡ true) × (b y ≡ true))
          → (n : ℕ) (y : X) → slice_get (x ∷ xs) n ≡ Some y → (a y ≡ true) × (b y ≡ true)
      each here rest zero y e = subst (λ y. (a y ≡ true) × (b y ≡ true)) (one x y e) (here.0, here.2)
      each here rest (suc n) y e = rest n y e

      rises : Rises number xs → ((y : X) → slice_get xs 0 ≡ Some y → number x + 1 ≤ number y)
          → (n : ℕ) (y z : X) → slice_get (x ∷ xs) n ≡ Some y → slice_get (x ∷ xs) (suc n) ≡ Some z → number y < number z
      rises rest from zero y z e f = let le = from z f in let same = ap number (one x y e) in omega (arith, le, same)
      rises rest from (suc n) y z e f = rest n y z e f

  pub risen-fits : (floor : ℕ) (xs : List X) → Risen floor xs → all_from next fits floor xs ≡ true
  risen-fits floor [] r = refl
  risen-fits floor (x ∷ xs) r =
      let here = r.each 0 x refl in
      both (fits floor x) (all_from next fits (number x + 1) xs)
      (all3 here.0 (not_false (nat_lt (number x) floor) (le-ltb (number x) floor (r.from x refl))) here.1)
      (risen-fits (number x + 1) xs (record {
        each = λ n y e. r.each (suc n) y e;
        rises = λ n y z e f. r.rises (suc n) y z e f;
        from = λ y e. let lt = r.rises 0 x y refl e in omega (arith, lt);
      }))

-- ---- one space

abbrev slot_of : ObjectRec → ℕ
slot_of o = o.slot

abbrev page_of : PageRec → ℕ
page_of p = p.page

record Contents (s : SpaceRec) : Type 0 where
  pub few_objects : length s.objects < 2 ^ 16
  pub objects : Each IsObject s.objects
  pub slots : Rises (λ (o : ObjectRec). o.slot) s.objects
  pub few_pages : length s.pages < 2 ^ 16
  pub pages : Each IsPage s.pages
  pub numbers : Rises (λ (p : PageRec). p.page) s.pages

contents : (s : SpaceRec) → fits_objects s.objects ≡ true → fits_pages s.pages ≡ true → Contents s
contents s objects pages =
    let o = and2 (is_half (length s.objects)) (all_from after_object fits_object 0 s.objects) objects in
    let p = and2 (is_half (length s.pages)) (all_from after_page fits_page 0 s.pages) pages in
    let ro = risen slot_of (λ (o : ObjectRec). is_slot o.slot) (λ (o : ObjectRec). fits_body o.body) 0 s.objects o.1 in
    let rp = risen page_of (λ (p : PageRec). is_byte p.page) (λ (p : PageRec). are_words 64 p.words) 0 s.pages p.1 in
    record {
      few_objects = ltb-true _ _ o.0;
      objects = λ n x e. record { slot = ltb-true _ _ (ro.each n x e).0; body = (ro.each n x e).1 };
      slots = ro.rises;
      few_pages = ltb-true _ _ p.0;
      pages = λ n x e. record { page = ltb-true _ _ (rp.each n x e).0; words = (rp.each n x e).1 };
      numbers = rp.rises;
    }

fit-contents : (s : SpaceRec) → IsSpace s → (fits_objects s.objects ≡ true) × (fits_pages s.pages ≡ true)
fit-contents s is = (
  both (is_half (length s.objects)) (all_from after_object fits_object 0 s.objects) (lt-ltb _ _ is.few_objects)
      (risen-fits slot_of (λ (o : ObjectRec). is_slot o.slot) (λ (o : ObjectRec). fits_body o.body) 0 s.objects (record {
        each = λ n x e. (lt-ltb _ _ (is.objects n x e).slot, (is.objects n x e).body);
        rises = is.slots;
        from = λ x e. omega arith;
      })),
  both (is_half (length s.pages)) (all_from after_page fits_page 0 s.pages) (lt-ltb _ _ is.few_pages)
      (risen-fits page_of (λ (p : PageRec). is_byte p.page) (λ (p : PageRec). are_words 64 p.words) 0 s.pages (record {
        each = λ n x e. (lt-ltb _ _ (is.pages n x e).page, (is.pages n x e).words);
        rises = is.numbers;
        from = λ x e. omega arith;
      })),
)

is-space : (s : SpaceRec) → s.parent < 2 ^ 32 → s.slot < 240 → fits_link s.holder ≡ true → Contents s → IsSpace s
is-space s parent slot holder c = record {
  parent = parent;
  slot = slot;
  holder = holder;
  few_objects = c.few_objects;
  objects = c.objects;
  slots = c.slots;
  few_pages = c.few_pages;
  pages = c.pages;
  numbers = c.numbers;
}

null-is : (l : Link) → is_null l ≡ true → l ≡ Null
null-is Null e = refl
null-is Dead e = absurd cc
null-is (In slot space) e = absurd cc
null-is (Out slot) e = absurd cc
null-is Root e = absurd cc
null-is Outside e = absurd cc

first-space : (s : SpaceRec) → fits_space ([], root_path) s ≡ true → IsRoot s × IsSpace s
first-space s fits =
    let parts = and3 (is_first s) (fits_objects s.objects) (fits_pages s.pages) fits in
    let root = and3 (s.parent == 4294967295) (s.slot == 0) (is_null s.holder) parts.0 in
    let parent : s.parent ≡ 4294967295 = eqb-true _ _ root.0 in
    let slot : s.slot ≡ 0 = eqb-true _ _ root.1 in
    let holder = null-is s.holder root.2 in (
      record { parent = parent; slot = slot; holder = holder },
      is-space s (omega (arith, parent)) (omega (arith, slot)) (ap fits_link holder) (contents s parts.1 parts.2),
    )

fits-first : (s : SpaceRec) → IsRoot s → IsSpace s → fits_space ([], root_path) s ≡ true
fits-first s root is =
    let c = fit-contents s is in
    all3 (all3 (eq-eqb s.parent 4294967295 root.parent) (eq-eqb s.slot 0 root.slot) (ap is_null root.holder)) c.0 c.1

has-some : (o : Option ℕ) (slot : ℕ) → has_room o slot ≡ true → is_some o ≡ true
has-some None slot e = absurd cc
has-some (Some floor) slot e = refl

module _ (d : SpaceRec) (ds : List SpaceRec) (path : List Open) (good : Good (d ∷ ds) path) (s : SpaceRec) where
  next-space : fits_space (d ∷ ds, path) s ≡ true → Follows (d ∷ ds) s × IsSpace s
  next-space fits =
      let parts = and3 (is_next (d ∷ ds) path s) (fits_objects s.objects) (fits_pages s.pages) fits in
      let n = and5 (nat_lt s.parent (2 ^ 32)) (is_slot s.slot) (has_room (room_under path s.parent) s.slot)
      (not (is_some (kind_in_space (d ∷ ds) s.parent s.slot))) (fits_link s.holder) parts.0 in
      let some = has-some (room_under path s.parent) s.slot n.2 in (
        may-follow (d ∷ ds) path good s (sym (room-some (d ∷ ds) path good s.parent) ∙ some)
            (sym (room-slot (d ∷ ds) path good s.parent s.slot some) ∙ n.2) (none-some _ (not_true _ n.3)),
        is-space s (ltb-true _ _ n.0) (ltb-true _ _ n.1) n.4 (contents s parts.1 parts.2),
      )

  fits-next : Follows (d ∷ ds) s → IsSpace s → fits_space (d ∷ ds, path) s ≡ true
  fits-next f is =
      let c = fit-contents s is in
      let some = room-some (d ∷ ds) path good s.parent ∙ follows-within (d ∷ ds) path good s f in
      all3 (all5 (lt-ltb s.parent (2 ^ 32) is.parent) (lt-ltb s.slot 240 is.slot)
      (room-slot (d ∷ ds) path good s.parent s.slot some ∙ follows-above (d ∷ ds) path good s f) (ap (λ o. not (is_some o)) f.free) is.holder) c.0 c.1

-- ---- all of them

each-more : (ss : List SpaceRec) (s : SpaceRec) → Each IsSpace ss → IsSpace s → Each IsSpace (ss ++ s ∷ [])
each-more ss s each is n t e = by (get-last ss s t n e)
  where
    by : (slice_get ss n ≡ Some t) ⊎ ((s ≡ t) × (n ≡ length ss)) → IsSpace t
    by (inl h) = each n t h
    by (inr h) = subst IsSpace h.0 is

next-in : (d : SpaceRec) (ds : List SpaceRec) (s : SpaceRec) (rest : List SpaceRec) → AreInOrder ((d ∷ ds) ++ (s ∷ rest)) → Follows (d ∷ ds) s
next-in d ds s rest order =
    let all = d ∷ ds in
    subst (λ ss. Follows ss s) (take-first all (s ∷ rest) (length all) (omega arith) ∙ take-whole all) (order (length ds) s (get-behind all s rest))

rest-formed : (rest : List SpaceRec) (d : SpaceRec) (ds : List SpaceRec) (path : List Open) → Good (d ∷ ds) path → Each IsSpace (d ∷ ds)
    → all_from after_space fits_space (d ∷ ds, path) rest ≡ true → Each IsSpace ((d ∷ ds) ++ rest) × AreInOrder ((d ∷ ds) ++ rest)
rest-formed [] d ds path good each all =
    subst (λ ss. Each IsSpace ss × AreInOrder ss) (sym (append-nil (d ∷ ds))) (each, good.order)
rest-formed (s ∷ rest) d ds path good each all =
    let parts = and2 (fits_space (d ∷ ds, path) s) (all_from after_space fits_space (after_space (d ∷ ds, path) s) rest) all in
    let here = next-space d ds path good s parts.0 in
    subst (λ ss. Each IsSpace ss × AreInOrder ss) (append_assoc (d ∷ ds) (s ∷ []) rest)
    (rest-formed rest d (ds ++ s ∷ []) (path_after (d ∷ ds) s path) (good-more d ds path s good here.0) (each-more (d ∷ ds) s each here.1) parts.1)

formed-rest : (rest : List SpaceRec) (d : SpaceRec) (ds : List SpaceRec) (path : List Open) → Good (d ∷ ds) path → Each IsSpace rest
    → AreInOrder ((d ∷ ds) ++ rest) → all_from after_space fits_space (d ∷ ds, path) rest ≡ true
formed-rest [] d ds path good each order = refl
formed-rest (s ∷ rest) d ds path good each order =
    let f = next-in d ds s rest order in
    both (fits_space (d ∷ ds, path) s) (all_from after_space fits_space (after_space (d ∷ ds, path) s) rest)
    (fits-next d ds path good s f (each 0 s refl))
    (formed-rest rest d (ds ++ s ∷ []) (path_after (d ∷ ds) s path) (good-more d ds path s good f) (λ n t e. each (suc n) t e)
    (subst (λ ss. AreInOrder ss) (sym (append_assoc (d ∷ ds) (s ∷ []) rest)) order))

pub spaces-formed : (spaces : List SpaceRec) → fits_spaces spaces ≡ true → AreSpaces spaces
spaces-formed [] fits = absurd cc
spaces-formed (d ∷ rest) fits =
    let parts = and3 (nat_lt 0 (length (d ∷ rest))) (nat_lt (length (d ∷ rest)) (2 ^ 32)) (all_from after_space fits_space ([], root_path) (d ∷ rest)) fits in
    let all = and2 (fits_space ([], root_path) d) (all_from after_space fits_space (after_space ([], root_path) d) rest) parts.2 in
    let head = first-space d all.0 in
    let more = rest-formed rest d [] root_path (good-first d) (each-more [] d (λ n t e. absurd cc) head.1) all.1 in
    record {
      some = omega arith;
      few = ltb-true _ _ parts.1;
      root = λ s e. subst IsRoot (one d s e) head.0;
      each = more.0;
      order = more.1;
    }
  where
    one : (x y : SpaceRec) → Some x ≡ Some y → x ≡ y
    one x y e = cc

pub formed-fits : (spaces : List SpaceRec) → AreSpaces spaces → fits_spaces spaces ≡ true
formed-fits [] are = let some = are.some in absurd (omega (arith, some))
formed-fits (d ∷ rest) are =
    let few : nat_lt (length (d ∷ rest)) (2 ^ 32) ≡ true = lt-ltb _ _ are.few in
    let first = fits-first d (are.root d refl) (are.each 0 d refl) in
    let all = formed-rest rest d [] root_path (good-first d) (λ n t e. are.each (suc n) t e) are.order in
    all3 (lt-ltb 0 (length (d ∷ rest)) (omega arith)) few (both (fits_space ([], root_path) d) _ first all)
