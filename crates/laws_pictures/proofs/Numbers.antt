-- Numbers and paths of spaces.
use Rattle.std.proofs.Common.{◌≡◌, ℕ, zero, suc, ◌+◌, ◌≤◌, Bool, true, false, cond, ◌&&◌, ◌==◌, List, [], ◌∷◌, drop, Option, Some, None, is_some, refl, sym, ap}
use Rattle.std.proofs.Common.{◌∙◌, arith, eqb-true, eq-eqb, ne_eqb}
use Rattle.std.specs.Prelude.{slice_get}
use Rattle.fk_model.specs.Places.{Path}
use Rattle.fk_model.specs.Objects.{and_then}
use Rattle.fk_image.specs.declared.image.image.SpaceRec.{SpaceRec}
use Rattle.fk_image.specs.Image.Links.{lies_in}
use Rattle.fk_image.specs.Image.Picture.{child_from, child, space_number, path_within, space_path}
use Rattle.laws_pictures.specs.Tree.{IsTree, NumbersArePaths}

-- ---- lists by number

pub there_below : {A : Type 0} (xs : List A) (m n : ℕ) → m ≤ n → is_some (slice_get xs n) ≡ true → is_some (slice_get xs m) ≡ true
there_below [] m n le is = cc
there_below (x ∷ xs) zero n le is = refl
there_below (x ∷ xs) (suc m) zero le is = absurd (omega (arith, le))
there_below (x ∷ xs) (suc m) (suc n) le is = there_below xs m n (omega (arith, le)) is

pub is_there : {A : Type 0} (o : Option A) (x : A) → o ≡ Some x → is_some o ≡ true
is_there o x e = ap is_some e

pub record Item {A : Type 0} (o : Option A) : Type 0 where
  pub item : A
  pub is : o ≡ Some item

pub item_of : {A : Type 0} (o : Option A) → is_some o ≡ true → Item o
item_of None is = absurd cc
item_of (Some x) is = record { item = x; is = refl }

pub behind_first : {A : Type 0} (xs : List A) (n : ℕ) → slice_get (drop 1 xs) n ≡ slice_get xs (suc n)
behind_first [] n = refl
behind_first (x ∷ xs) n = refl

-- ---- a space in a slot of another

pub record Child (number : ℕ) (xs : List SpaceRec) (space slot n : ℕ) : Type 0 where
  pub at : ℕ
  pub child : SpaceRec
  pub here : slice_get xs at ≡ Some child
  pub sum : n ≡ number + at
  pub parent : child.parent ≡ space
  pub place : child.slot ≡ slot

child_is : (number : ℕ) (xs : List SpaceRec) (space slot n : ℕ) → child_from number xs space slot ≡ Some n → Child number xs space slot n
unfolding child_from
child_is number [] space slot n e = absurd cc
child_is number (s ∷ ss) space slot n e = by (s.parent == space) refl (s.slot == slot) refl (child_is (number + 1) ss space slot n) e
  where
    later : Child (number + 1) ss space slot n → Child number (s ∷ ss) space slot n
    later r = let is = r.sum in record { at = suc r.at; child = r.child; here = r.here; sum = omega (arith, is); parent = r.parent; place = r.place }

    by : (a : Bool) → (s.parent == space) ≡ a → (b : Bool) → (s.slot == slot) ≡ b
        → (child_from (number + 1) ss space slot ≡ Some n → Child (number + 1) ss space slot n) →
        cond (a && b) (Some number) (child_from (number + 1) ss space slot) ≡ Some n → Child number (s ∷ ss) space slot n
    by true p true q rest e =
        let same : number ≡ n = cc in
        record { at = 0; child = s; here = refl; sum = omega (arith, same); parent = eqb-true s.parent space p; place = eqb-true s.slot slot q }
    by true p false q rest e = later (rest e)
    by false p b q rest e = later (rest e)

child_there : (number : ℕ) (xs : List SpaceRec) (i : ℕ) (s : SpaceRec) → slice_get xs i ≡ Some s → is_some (child_from number xs s.parent s.slot) ≡ true
unfolding child_from
child_there number [] i s e = absurd cc
child_there number (t ∷ xs) zero s e =
    let same : t ≡ s = cc in
    rw (eq-eqb t.parent s.parent (ap (λ (u : SpaceRec). u.parent) same), eq-eqb t.slot s.slot (ap (λ (u : SpaceRec). u.slot) same)) refl
child_there number (t ∷ xs) (suc i) s e = by (lies_in s.parent s.slot t) (child_there (number + 1) xs i s e)
  where
    by : (b : Bool) → is_some (child_from (number + 1) xs s.parent s.slot) ≡ true
        → is_some (cond b (Some number) (child_from (number + 1) xs s.parent s.slot)) ≡ true
    by true is = refl
    by false is = is

pub record Below (ss : List SpaceRec) (space slot n : ℕ) : Type 0 where
  pub before : ℕ
  pub child : SpaceRec
  pub number : n ≡ suc before
  pub here : slice_get ss (suc before) ≡ Some child
  pub parent : child.parent ≡ space
  pub place : child.slot ≡ slot

pub below : (ss : List SpaceRec) (space slot n : ℕ) → child ss space slot ≡ Some n → Below ss space slot n
below ss space slot n e =
    let c = child_is 1 (drop 1 ss) space slot n e in
    let is = c.sum in
    record { before = c.at; child = c.child; number = omega (arith, is); here = sym (behind_first ss c.at) ∙ c.here; parent = c.parent; place = c.place }

module _ (ss : List SpaceRec) (tree : IsTree ss) where
  pub child_of : (n : ℕ) (s : SpaceRec) → slice_get ss (suc n) ≡ Some s → child ss s.parent s.slot ≡ Some (suc n)
  child_of n s e =
      let one = item_of (child ss s.parent s.slot) (child_there 1 (drop 1 ss) n s (behind_first ss n ∙ e)) in
      let b = below ss s.parent s.slot one.item one.is in
      let same = tree.apart b.before n b.child s b.here e b.parent b.place in
      one.is ∙ ap (λ (m : ℕ). Some m) b.number ∙ ap (λ (m : ℕ). Some (suc m)) same

  -- ---- paths by number

  abbrev up : ℕ → Option SpaceRec → Path
  up d None = []
  up d (Some s) = s.slot ∷ path_within d ss s.parent

  up_is : (d n : ℕ) → path_within (suc d) ss (suc n) ≡ up d (slice_get ss (suc n))
  unfolding path_within
  up_is d n = ap (λ b. cond b [] (up d (slice_get ss (suc n)))) (ne_eqb (suc n) 0 (λ e. omega (arith, e)))

  fuel : (d e n : ℕ) → n ≤ d → n ≤ e → path_within d ss n ≡ path_within e ss n
  unfolding path_within
  fuel d e zero p q = none d ∙ sym (none e)
    where
      none : (d : ℕ) → path_within d ss 0 ≡ []
      none zero = refl
      none (suc d) = refl
  fuel zero e (suc n) p q = absurd (omega (arith, p))
  fuel (suc d) zero (suc n) p q = absurd (omega (arith, q))
  fuel (suc d) (suc e) (suc n) p q = up_is d n ∙ by (slice_get ss (suc n)) refl (λ m le. fuel d e m (omega (arith, le, p)) (omega (arith, le, q)))
      ∙ sym (up_is e n)
    where
      by : (o : Option SpaceRec) → slice_get ss (suc n) ≡ o → ((m : ℕ) → m ≤ n → path_within d ss m ≡ path_within e ss m) → up d o ≡ up e o
      by None is rest = refl
      by (Some s) is rest = ap (λ (x : Path). s.slot ∷ x) (rest s.parent (tree.low n s is))

  pub path_up : (n : ℕ) (s : SpaceRec) → slice_get ss (suc n) ≡ Some s → space_path ss (suc n) ≡ s.slot ∷ space_path ss s.parent
  path_up n s e = up_is n n ∙ ap (up n) e ∙ ap (λ (x : Path). s.slot ∷ x) (fuel n s.parent s.parent (tree.low n s e) (omega arith))

  number_by : (d n : ℕ) → n ≤ d → is_some (slice_get ss n) ≡ true → space_number ss (space_path ss n) ≡ Some n
  unfolding space_number path_within
  number_by d zero le is = refl
  number_by zero (suc n) le is = absurd (omega (arith, le))
  number_by (suc d) (suc n) le is =
      let s = item_of (slice_get ss (suc n)) is in
      let low = tree.low n s.item s.is in
      ap (space_number ss) (path_up n s.item s.is)
      ∙ ap (and_then (λ m. child ss m s.item.slot))
      (number_by d s.item.parent (omega (arith, low, le)) (there_below ss s.item.parent (suc n) (omega (arith, low)) is))
      ∙ child_of n s.item s.is

  pub number_of : (n : ℕ) → is_some (slice_get ss n) ≡ true → space_number ss (space_path ss n) ≡ Some n
  number_of n is = number_by n n (omega arith) is

  pub path_of : (x : Path) (n : ℕ) → space_number ss x ≡ Some n → (is_some (slice_get ss n) ≡ true) × (space_path ss n ≡ x)
  unfolding space_number path_within
  path_of [] n e = let zeroth : n ≡ 0 = cc in (rw zeroth tree.top, rw zeroth refl)
  path_of (k ∷ x) n e = by (space_number ss x) refl (path_of x) e
    where
      by : (o : Option ℕ) → space_number ss x ≡ o → ((m : ℕ) → space_number ss x ≡ Some m → (is_some (slice_get ss m) ≡ true) × (space_path ss m ≡ x))
          → and_then (λ m. child ss m k) o ≡ Some n → (is_some (slice_get ss n) ≡ true) × (space_path ss n ≡ k ∷ x)
      by None is rest e = absurd cc
      by (Some m) is rest e =
          let above = rest m is in
          let b = below ss m k n e in (
            ap (λ (j : ℕ). is_some (slice_get ss j)) b.number ∙ is_there (slice_get ss (suc b.before)) b.child b.here,
            ap (space_path ss) b.number ∙ path_up b.before b.child b.here ∙ ap (λ (j : ℕ). j ∷ space_path ss b.child.parent) b.place
                ∙ ap (λ (j : ℕ). k ∷ space_path ss j) b.parent ∙ ap (λ (y : Path). k ∷ y) above.1,
          )

pub numbers_are_paths_lem : NumbersArePaths
numbers_are_paths_lem ss tree = (number_of ss tree, path_of ss tree)
