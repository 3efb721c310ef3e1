-- What stands in a picture.
use Rattle.std.proofs.Common.{◌≡◌, ℕ, zero, suc, ◌+◌, ◌<◌, ◌≤◌, ◌⊎◌, inl, inr, Bool, true, false, cond, not, ltb, ◌==◌, List, [], ◌∷◌, Option, Some, None}
use Rattle.std.proofs.Common.{option_map, refl, sym, ap, subst, ◌∙◌, arith, eqb-true}
use Rattle.std.specs.Prelude.{slice_get}
use Rattle.std.specs.List.{list_all}
use Rattle.std.proofs.lemmas.Bool.{and_parts, ltb-true, ltb-false}
use Rattle.fk_model.specs.declared.names.Kind.{Kind}
use Rattle.fk_model.specs.Places.{Path}
use Rattle.fk_model.specs.Objects.{Body, Body as bodies, and_then, or_else}
use Rattle.fk_image.specs.declared.image.image.Rec.{Rec}
use Rattle.fk_image.specs.declared.image.image.ObjectRec.{ObjectRec}
use Rattle.fk_image.specs.declared.image.image.SpaceRec.{SpaceRec}
use Rattle.fk_image.specs.Image.Objects.{kind_of_rec, kind_in}
use Rattle.fk_image.specs.Image.Ranges.{fits_body}
use Rattle.fk_image.specs.Image.Links.{space_leads, spaces_lead}
use Rattle.fk_image.specs.Image.Picture.{child, space_number, space_path, rec_in, pictured_holder, pictured_body, pictured_body_in, pictured_body_at}
use Rattle.fk_image.specs.Image.Valid.{all_from, fits_object, after_object, fits_objects}
use Rattle.laws_pictures.specs.Tree.{IsTree, IsFull}
use Rattle.laws_pictures.proofs.Numbers.{Item, item_of, is_there, there_below, below, child_of, number_of, path_of, path_up}

-- ---- objects of one space

pub kind_by_rec : (os : List ObjectRec) (k : ℕ) → kind_in os k ≡ option_map kind_of_rec (rec_in os k)
unfolding kind_in rec_in
kind_by_rec [] k = refl
kind_by_rec (o ∷ os) k = by (o.slot == k) (kind_by_rec os k)
  where
    by : (b : Bool) → kind_in os k ≡ option_map kind_of_rec (rec_in os k) →
        cond b (Some (kind_of_rec o.body)) (kind_in os k) ≡ option_map kind_of_rec (cond b (Some o.body) (rec_in os k))
    by true rest = refl
    by false rest = rest

pub no_rec : (os : List ObjectRec) (k : ℕ) → kind_in os k ≡ None → rec_in os k ≡ None
no_rec os k e = by (rec_in os k) (sym (kind_by_rec os k) ∙ e)
  where
    by : (o : Option Rec) → option_map kind_of_rec o ≡ None → o ≡ None
    by None e = refl
    by (Some r) e = absurd cc

-- what holds of each object holds of the one in a slot
pub rec_all : (test : Rec → Bool) (os : List ObjectRec) (k : ℕ) (r : Rec) → list_all (λ (o : ObjectRec). test o.body) os ≡ true → rec_in os k ≡ Some r
    → test r ≡ true
unfolding rec_in
rec_all test [] k r all e = absurd cc
rec_all test (o ∷ os) k r all e = by (o.slot == k) (and_parts (test o.body) (list_all (λ (p : ObjectRec). test p.body) os) all) (λ h. rec_all test os k r h) e
  where
    by : (b : Bool) → (test o.body ≡ true) × (list_all (λ (p : ObjectRec). test p.body) os ≡ true) →
        (list_all (λ (p : ObjectRec). test p.body) os ≡ true → rec_in os k ≡ Some r → test r ≡ true) → cond b (Some o.body) (rec_in os k) ≡ Some r
        → test r ≡ true
    by true both rest e = let same : o.body ≡ r = cc in subst (λ s. test s ≡ true) same both.0
    by false both rest e = rest both.1 e

-- objects by rising slot, each in its range
abbrev pub Rising : ℕ → List ObjectRec → Type 0
Rising floor [] = Unit {0}
Rising floor (o ∷ os) = (floor ≤ o.slot) × (o.slot < 240) × (fits_body o.body ≡ true) × Rising (o.slot + 1) os

rising_from : (floor : ℕ) (os : List ObjectRec) → all_from after_object fits_object floor os ≡ true → Rising floor os
rising_from floor [] e = tt
rising_from floor (o ∷ os) e =
    let a = and_parts (fits_object floor o) (all_from after_object fits_object (o.slot + 1) os) e in
    let b = and_parts _ _ a.0 in
    let c = and_parts _ _ b.0 in
    (at_least (ltb o.slot floor) refl c.1, ltb-true o.slot 240 c.0, b.1, rising_from (o.slot + 1) os a.1)
  where
    at_least : (b : Bool) → ltb o.slot floor ≡ b → not b ≡ true → floor ≤ o.slot
    at_least true p e = absurd cc
    at_least false p e = ltb-false o.slot floor p

pub rising : (os : List ObjectRec) → fits_objects os ≡ true → Rising 0 os
rising os e = rising_from 0 os (and_parts _ (all_from after_object fits_object 0 os) e).1

pub record Ranged (floor k : ℕ) (r : Rec) : Type 0 where
  pub above : floor ≤ k
  pub slot : k < 240
  pub fits : fits_body r ≡ true

pub ranged : (floor : ℕ) (os : List ObjectRec) (k : ℕ) (r : Rec) → Rising floor os → rec_in os k ≡ Some r → Ranged floor k r
unfolding rec_in
ranged floor [] k r up e = absurd cc
ranged floor (o ∷ os) k r up e = by (o.slot == k) refl (ranged (o.slot + 1) os k r up.3) e
  where
    by : (b : Bool) → (o.slot == k) ≡ b → (rec_in os k ≡ Some r → Ranged (o.slot + 1) k r) → cond b (Some o.body) (rec_in os k) ≡ Some r → Ranged floor k r
    by true p rest e =
        let at = eqb-true o.slot k p in
        let same : o.body ≡ r = cc in
        let low = up.0 in
        let high = up.1 in
        record { above = omega (arith, at, low); slot = omega (arith, at, high); fits = subst (λ s. fits_body s ≡ true) same up.2 }
    by false p rest e = let h = rest e in let low = up.0 in let above = h.above in record { above = omega (arith, low, above); slot = h.slot; fits = h.fits }

-- ---- pointers of each space

pub lead_at : (ss : List SpaceRec) (number : ℕ) (xs : List SpaceRec) (i : ℕ) (s : SpaceRec) → spaces_lead ss number xs ≡ true → slice_get xs i ≡ Some s
    → space_leads ss (number + i) s ≡ true
lead_at ss number [] i s e at = absurd cc
lead_at ss number (x ∷ xs) zero s e at =
    let same : x ≡ s = cc in
    let zeroth : number ≡ number + 0 = omega arith in
    subst (λ n. space_leads ss n s ≡ true) zeroth (subst (λ (u : SpaceRec). space_leads ss number u ≡ true) same
    (and_parts (space_leads ss number x) (spaces_lead ss (number + 1) xs) e).0)
lead_at ss number (x ∷ xs) (suc i) s e at =
    let next : number + 1 + i ≡ number + suc i = omega arith in
    subst (λ n. space_leads ss n s ≡ true) next (lead_at ss (number + 1) xs i s (and_parts (space_leads ss number x) (spaces_lead ss (number + 1) xs) e).1 at)

-- ---- what stands at a path

pub record Object (ss : List SpaceRec) (k : ℕ) (q : Path) (b : Body) : Type 0 where
  pub number : ℕ
  pub space : SpaceRec
  pub body : Rec
  pub here : slice_get ss number ≡ Some space
  pub path : space_path ss number ≡ q
  pub there : rec_in space.objects k ≡ Some body
  pub is : b ≡ pictured_body ss body

pub record Inner (ss : List SpaceRec) (k : ℕ) (q : Path) (b : Body) : Type 0 where
  pub before : ℕ
  pub space : SpaceRec
  pub here : slice_get ss (suc before) ≡ Some space
  pub slot : space.slot ≡ k
  pub path : space_path ss space.parent ≡ q
  pub is : b ≡ bodies.Space 0 (pictured_holder ss space.holder)

abbrev of_object : List SpaceRec → ℕ → Option SpaceRec → Option Body
of_object ss k o = and_then (λ (s : SpaceRec). option_map (pictured_body ss) (rec_in s.objects k)) o

abbrev pub of_space : List SpaceRec → Option SpaceRec → Option Body
of_space ss o = option_map (λ (s : SpaceRec). bodies.Space 0 (pictured_holder ss s.holder)) o

abbrev pub kind_of_space : ℕ → Option SpaceRec → Option Kind
kind_of_space slot None = None
kind_of_space slot (Some s) = kind_in s.objects slot

module _ (ss : List SpaceRec) (tree : IsTree ss) where
  pub stands : (k : ℕ) (q : Path) (b : Body) → pictured_body_at ss (k ∷ q) ≡ Some b → Object ss k q b ⊎ Inner ss k q b
  stands k q b e = by (space_number ss q) refl e
    where
      inner : (n : ℕ) → space_path ss n ≡ q → (o : Option ℕ) → child ss n k ≡ o → and_then (λ number. of_space ss (slice_get ss number)) o ≡ Some b
          → Inner ss k q b
      inner n path None is e = absurd cc
      inner n path (Some m) is e =
          let c = below ss n k m is in
          let one : of_space ss (Some c.child) ≡ Some b = sym (ap (of_space ss) (ap (slice_get ss) c.number ∙ c.here)) ∙ e in
          record { before = c.before; space = c.child; here = c.here; slot = c.place; path = ap (space_path ss) c.parent ∙ path; is = cc }

      at : (n : ℕ) → space_path ss n ≡ q → (s : SpaceRec) → slice_get ss n ≡ Some s → (r : Option Rec) → rec_in s.objects k ≡ r →
          or_else (option_map (pictured_body ss) r) (and_then (λ number. of_space ss (slice_get ss number)) (child ss n k)) ≡ Some b
          → Object ss k q b ⊎ Inner ss k q b
      at n path s here None is e = inr (inner n path (child ss n k) refl e)
      at n path s here (Some r) is e = inl (record { number = n; space = s; body = r; here = here; path = path; there = is; is = cc })

      by : (o : Option ℕ) → space_number ss q ≡ o → and_then (λ n. pictured_body_in ss n k) o ≡ Some b → Object ss k q b ⊎ Inner ss k q b
      by None is e = absurd cc
      by (Some n) is e =
          let known = path_of ss tree q n is in
          let s = item_of (slice_get ss n) known.0 in
          at n known.1 s.item s.is (rec_in s.item.objects k) refl
          (sym (ap (λ o. or_else (of_object ss k o) (and_then (λ number. of_space ss (slice_get ss number)) (child ss n k))) s.is) ∙ e)

  -- and all that the records say stands there
  pub object_at : (n k : ℕ) (s : SpaceRec) (r : Rec) → slice_get ss n ≡ Some s → rec_in s.objects k ≡ Some r
      → pictured_body_at ss (k ∷ space_path ss n) ≡ Some (pictured_body ss r)
  object_at n k s r here there =
      ap (and_then (λ m. pictured_body_in ss m k)) (number_of ss tree n (is_there (slice_get ss n) s here))
      ∙ ap (λ o. or_else (of_object ss k o) (and_then (λ number. of_space ss (slice_get ss number)) (child ss n k))) here
      ∙ ap (λ o. or_else (option_map (pictured_body ss) o) (and_then (λ number. of_space ss (slice_get ss number)) (child ss n k))) there

  pub space_at : IsFull ss → (n : ℕ) (s : SpaceRec) → slice_get ss (suc n) ≡ Some s
      → pictured_body_at ss (space_path ss (suc n)) ≡ Some (bodies.Space 0 (pictured_holder ss s.holder))
  space_at full n s here =
      let above = parent_there n s here in
      let none = no_rec above.item.objects s.slot (sym (ap (kind_of_space s.slot) above.is) ∙ full.free n s here) in
      let rest = and_then (λ number. of_space ss (slice_get ss number)) (child ss s.parent s.slot) in
      ap (pictured_body_at ss) (path_up ss tree n s here)
      ∙ ap (and_then (λ m. pictured_body_in ss m s.slot)) (number_of ss tree s.parent (is_there (slice_get ss s.parent) above.item above.is))
      ∙ ap (λ o. or_else (of_object ss s.slot o) rest) above.is
      ∙ ap (λ o. or_else (option_map (pictured_body ss) o) rest) none
      ∙ ap (and_then (λ number. of_space ss (slice_get ss number))) (child_of ss tree n s here)
      ∙ ap (of_space ss) here
    where
      parent_there : (n : ℕ) (s : SpaceRec) → slice_get ss (suc n) ≡ Some s → Item (slice_get ss s.parent)
      parent_there n s here = let low = tree.low n s here in
          item_of (slice_get ss s.parent) (there_below ss s.parent (suc n) (omega (arith, low)) (is_there (slice_get ss (suc n)) s here))
