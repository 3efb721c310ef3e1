-- The spaces of a valid image are a tree.
use Rattle.std.proofs.Common.{◌≡◌, ℕ, zero, suc, ◌+◌, ◌<◌, ◌≤◌, ◌^◌, ◌⊎◌, inl, inr, Bool, true, false, cond, not, ltb, ◌&&◌, ◌==◌, List, [], ◌∷◌, ◌++◌, length}
use Rattle.std.proofs.Common.{Option, Some, None, is_some, refl, sym, ap, subst, ◌∙◌, arith, eqb-true, append_assoc}
use Rattle.std.specs.Prelude.{slice_get}
use Rattle.std.proofs.lemmas.Bool.{and_parts, ltb-true, ltb-false}
use Rattle.std.proofs.lemmas.List.{append-nil, length-append}
use Rattle.fk_model.specs.declared.names.Kind.{Kind}
use Rattle.fk_image.specs.declared.image.image.SpaceRec.{SpaceRec}
use Rattle.fk_image.specs.declared.image.open.Open.{Open}
use Rattle.fk_image.specs.Image.Objects.{kind_in}
use Rattle.fk_image.specs.Image.Ranges.{fits_link}
use Rattle.fk_image.specs.Image.Preorder.{from, first_floor, room_under, has_room, root_path, after_entering, after_space}
use Rattle.fk_image.specs.Image.Links.{kind_in_space, all_lead}
use Rattle.fk_image.specs.Image.Valid.{all_from, fits_space, fits_spaces, is_first, is_next, fits_objects, fits_pages, is_valid}
use Rattle.laws_pictures.specs.Tree.{IsTree, IsFull, ValidIsTree}

-- ---- one more at the end

pub last_or_before : {A : Type 0} (xs : List A) (x y : A) (n : ℕ) → slice_get (xs ++ x ∷ []) n ≡ Some y
    → (slice_get xs n ≡ Some y) ⊎ ((x ≡ y) × (n ≡ length xs))
last_or_before [] x y zero e = inr (cc, refl)
last_or_before [] x y (suc n) e = absurd cc
last_or_before (z ∷ xs) x y zero e = inl e
last_or_before (z ∷ xs) x y (suc n) e = by (last_or_before xs x y n e)
  where
    by : (slice_get xs n ≡ Some y) ⊎ ((x ≡ y) × (n ≡ length xs)) → (slice_get xs n ≡ Some y) ⊎ ((x ≡ y) × (suc n ≡ suc (length xs)))
    by (inl h) = inl h
    by (inr h) = inr (h.0, ap suc h.1)

pub there_low : {A : Type 0} (xs : List A) (n : ℕ) (y : A) → slice_get xs n ≡ Some y → n < length xs
there_low [] n y e = absurd cc
there_low (x ∷ xs) zero y e = omega arith
there_low (x ∷ xs) (suc n) y e = let h = there_low xs n y e in omega (arith, h)

pub get_before : {A : Type 0} (xs ys : List A) (n : ℕ) → n < length xs → slice_get (xs ++ ys) n ≡ slice_get xs n
get_before [] ys n lt = absurd (omega (arith, lt))
get_before (x ∷ xs) ys zero lt = refl
get_before (x ∷ xs) ys (suc n) lt = get_before xs ys n (omega (arith, lt))

-- ---- the open path

abbrev Descends : ℕ → List Open → Type 0
Descends n [] = Unit {0}
Descends n (o ∷ up) = (o.space < n) × Descends o.space up

abbrev Floor : List SpaceRec → Open → Type 0
Floor done o = (m : ℕ) (t : SpaceRec) → slice_get done (suc m) ≡ Some t → t.parent ≡ o.space → t.slot < o.floor

abbrev Floors : List SpaceRec → List Open → Type 0
Floors done [] = Unit {0}
Floors done (o ∷ up) = Floor done o × Floors done up

record Found (done : List SpaceRec) (n : ℕ) (path : List Open) (space : ℕ) : Type 0 where
  pub one : Open
  pub up : List Open
  pub is : from space path ≡ one ∷ up
  pub same : one.space ≡ space
  pub below : one.space < n
  pub descends : Descends one.space up
  pub floor : Floor done one
  pub floors : Floors done up

found : (done : List SpaceRec) (n space : ℕ) (path : List Open) → Descends n path → Floors done path → is_some (room_under path space) ≡ true
    → Found done n path space
unfolding from
found done n space [] d f e = absurd cc
found done n space (o ∷ up) d f e = by (o.space == space) refl (λ h. found done o.space space up d.1 f.1 h) e
  where
    by : (b : Bool) → (o.space == space) ≡ b → (is_some (first_floor (from space up)) ≡ true → Found done o.space up space) →
        is_some (first_floor (cond b (o ∷ up) (from space up))) ≡ true → Found done n (o ∷ up) space
    by true p rest e = record { one = o; up = up; is = rw p refl; same = eqb-true o.space space p; below = d.0; descends = d.1; floor = f.0; floors = f.1 }
    by false p rest e =
        let r = rest e in
        let low = d.0 in
        let lower = r.below in
        record {
          one = r.one;
          up = r.up;
          is = rw p r.is;
          same = r.same;
          below = omega (arith, low, lower);
          descends = r.descends;
          floor = r.floor;
          floors = r.floors;
        }

-- ---- spaces so far

record Good (done : List SpaceRec) : Type 0 where
  pub tree : IsTree done
  pub full : IsFull done

abbrev kind_of_space : ℕ → Option SpaceRec → Option Kind
kind_of_space slot None = None
kind_of_space slot (Some s) = kind_in s.objects slot

record Here (done : List SpaceRec) (s : SpaceRec) : Type 0 where
  pub low : s.parent < length done
  pub slot : s.slot < 240
  pub fresh : (m : ℕ) (t : SpaceRec) → slice_get done (suc m) ≡ Some t → t.parent ≡ s.parent → t.slot ≡ s.slot → ⊥
  pub free : kind_in_space done s.parent s.slot ≡ None
  pub objects : fits_objects s.objects ≡ true
  pub pages : fits_pages s.pages ≡ true

module _ (done : List SpaceRec) (s : SpaceRec) (good : Good done) (here : Here done s) where
  some : is_some (slice_get done 0) ≡ true
  some = good.tree.top

  low_more : (n : ℕ) (t : SpaceRec) → slice_get (done ++ s ∷ []) (suc n) ≡ Some t → t.parent ≤ n
  low_more n t e = by (last_or_before done s t (suc n) e)
    where
      by : (slice_get done (suc n) ≡ Some t) ⊎ ((s ≡ t) × (suc n ≡ length done)) → t.parent ≤ n
      by (inl h) = good.tree.low n t h
      by (inr h) = let low = here.low in let at = h.1 in let same : s.parent ≡ t.parent = ap (λ (u : SpaceRec). u.parent) h.0 in omega (arith, low, at, same)

  apart_more : (m n : ℕ) (t u : SpaceRec) → slice_get (done ++ s ∷ []) (suc m) ≡ Some t → slice_get (done ++ s ∷ []) (suc n) ≡ Some u → t.parent ≡ u.parent
      → t.slot ≡ u.slot → m ≡ n
  apart_more m n t u e f p k = by (last_or_before done s t (suc m) e) (last_or_before done s u (suc n) f)
    where
      parents : {a b : SpaceRec} → a ≡ b → a.parent ≡ b.parent
      parents e = ap (λ (u : SpaceRec). u.parent) e

      at : {a b : SpaceRec} → a ≡ b → a.slot ≡ b.slot
      at e = ap (λ (u : SpaceRec). u.slot) e

      by : (slice_get done (suc m) ≡ Some t) ⊎ ((s ≡ t) × (suc m ≡ length done)) → (slice_get done (suc n) ≡ Some u) ⊎ ((s ≡ u) × (suc n ≡ length done)) → m ≡ n
      by (inl h) (inl g) = good.tree.apart m n t u h g p k
      by (inl h) (inr g) = absurd (here.fresh m t h (p ∙ sym (parents g.0)) (k ∙ sym (at g.0)))
      by (inr h) (inl g) = absurd (here.fresh n u g (sym p ∙ sym (parents h.0)) (sym k ∙ sym (at h.0)))
      by (inr h) (inr g) = let a = h.1 in let b = g.1 in omega (arith, a, b)

  free_more : (n : ℕ) (t : SpaceRec) → slice_get (done ++ s ∷ []) (suc n) ≡ Some t → kind_in_space (done ++ s ∷ []) t.parent t.slot ≡ None
  free_more n t e = by (last_or_before done s t (suc n) e)
    where
      as_before : t.parent < length done → kind_in_space done t.parent t.slot ≡ None → kind_in_space (done ++ s ∷ []) t.parent t.slot ≡ None
      as_before lt none = ap (kind_of_space t.slot) (get_before done (s ∷ []) t.parent lt) ∙ none

      by : (slice_get done (suc n) ≡ Some t) ⊎ ((s ≡ t) × (suc n ≡ length done)) → kind_in_space (done ++ s ∷ []) t.parent t.slot ≡ None
      by (inl h) =
          let low = good.tree.low n t h in
          let lt = there_low done (suc n) t h in
          as_before (omega (arith, low, lt)) (good.full.free n t h)
      by (inr h) = as_before (subst (λ (u : SpaceRec). u.parent < length done) h.0 here.low)
          (subst (λ (u : SpaceRec). kind_in_space done u.parent u.slot ≡ None) h.0 here.free)

  more : Good (done ++ s ∷ [])
  more = record {
    tree = record { top = top_more done some; low = low_more; apart = apart_more };
    full = record {
      first = first_more done some good.full.first;
      objects = λ n t e. objects n t (last_or_before done s t n e);
      pages = λ n t e. pages n t (last_or_before done s t n e);
      slots = λ n t e. slots n t (last_or_before done s t (suc n) e);
      free = free_more;
    };
  }
    where
      top_more : (xs : List SpaceRec) → is_some (slice_get xs 0) ≡ true → is_some (slice_get (xs ++ s ∷ []) 0) ≡ true
      top_more [] e = refl
      top_more (x ∷ xs) e = refl

      first_more : (xs : List SpaceRec) → is_some (slice_get xs 0) ≡ true → ((t : SpaceRec) → slice_get xs 0 ≡ Some t → is_first t ≡ true) →
          (t : SpaceRec) → slice_get (xs ++ s ∷ []) 0 ≡ Some t → is_first t ≡ true
      first_more [] e f = absurd cc
      first_more (x ∷ xs) e f = f

      objects : (n : ℕ) (t : SpaceRec) → (slice_get done n ≡ Some t) ⊎ ((s ≡ t) × (n ≡ length done)) → fits_objects t.objects ≡ true
      objects n t (inl h) = good.full.objects n t h
      objects n t (inr h) = subst (λ (u : SpaceRec). fits_objects u.objects ≡ true) h.0 here.objects

      pages : (n : ℕ) (t : SpaceRec) → (slice_get done n ≡ Some t) ⊎ ((s ≡ t) × (n ≡ length done)) → fits_pages t.pages ≡ true
      pages n t (inl h) = good.full.pages n t h
      pages n t (inr h) = subst (λ (u : SpaceRec). fits_pages u.pages ≡ true) h.0 here.pages

      slots : (n : ℕ) (t : SpaceRec) → (slice_get done (suc n) ≡ Some t) ⊎ ((s ≡ t) × (suc n ≡ length done)) → t.slot < 240
      slots n t (inl h) = good.full.slots n t h
      slots n t (inr h) = subst (λ (u : SpaceRec). u.slot < 240) h.0 here.slot

-- ---- one step

none_from : {A : Type 0} (o : Option A) → not (is_some o) ≡ true → o ≡ None
none_from None e = refl
none_from (Some x) e = absurd cc

record Steps (done : List SpaceRec) (s : SpaceRec) (path : List Open) : Type 0 where
  pub here : Here done s
  pub descends : Descends (length done + 1) path
  pub floors : Floors (done ++ s ∷ []) path

-- an open path stays one with one more space, which lies in none of them
floors_more : (done : List SpaceRec) (s : SpaceRec) (n : ℕ) (up : List Open) → n ≤ s.parent → Descends n up → Floors done up → Floors (done ++ s ∷ []) up
floors_more done s n [] le d f = tt
floors_more done s n (o ∷ up) le d f =
    let low = d.0 in
    ((λ m t e p. by m t p (last_or_before done s t (suc m) e)), floors_more done s o.space up (omega (arith, le, low)) d.1 f.1)
  where
    by : (m : ℕ) (t : SpaceRec) → t.parent ≡ o.space → (slice_get done (suc m) ≡ Some t) ⊎ ((s ≡ t) × (suc m ≡ length done)) → t.slot < o.floor
    by m t p (inl h) = f.0 m t h p
    by m t p (inr h) = let same : s.parent ≡ t.parent = ap (λ (u : SpaceRec). u.parent) h.0 in let low = d.0 in absurd (omega (arith, same, p, low, le))

step : (d : SpaceRec) (ds : List SpaceRec) (path : List Open) (s : SpaceRec) → Good (d ∷ ds) → Descends (length (d ∷ ds)) path → Floors (d ∷ ds) path →
    fits_space (d ∷ ds, path) s ≡ true → Steps (d ∷ ds) s (after_space (d ∷ ds, path) s).1
step d ds path s good descends floors e =
    let done = d ∷ ds in
    let fits = and_parts (is_next done path s && fits_objects s.objects) (fits_pages s.pages) e in
    let fits2 = and_parts (is_next done path s) (fits_objects s.objects) fits.0 in
    let a1 = ltb s.parent (2 ^ 32) in
    let a2 = ltb s.slot 240 in
    let a3 = has_room (room_under path s.parent) s.slot in
    let a4 = not (is_some (kind_in_space done s.parent s.slot)) in
    let n1 = and_parts (a1 && a2 && a3 && a4) (fits_link s.holder) fits2.0 in
    let n2 = and_parts (a1 && a2 && a3) a4 n1.0 in
    let n3 = and_parts (a1 && a2) a3 n2.0 in
    let n4 = and_parts a1 a2 n3.0 in
    let f = found done (length done) s.parent path descends floors (room (room_under path s.parent) s.slot n3.1) in
    let floor_is : room_under path s.parent ≡ Some f.one.floor = ap first_floor f.is in
    let above : f.one.floor ≤ s.slot = free_above (room_under path s.parent) f.one.floor s.slot floor_is n3.1 in
    let same = f.same in
    let low = f.below in
    record {
      here = record {
        low = omega (arith, same, low);
        slot = ltb-true s.slot 240 n4.1;
        fresh = λ m t at p k. let lower = f.floor m t at (p ∙ sym same) in omega (arith, lower, k, above);
        free = none_from (kind_in_space done s.parent s.slot) n2.1;
        objects = fits2.1;
        pages = fits.1;
      };
      descends = subst (λ p. Descends (length done + 1) (after_entering (length done) s.slot p)) (sym f.is) (omega arith, (low, f.descends));
      floors = subst (λ p. Floors (done ++ s ∷ []) (after_entering (length done) s.slot p)) (sym f.is) (
        (λ m t at p. absurd (inner (omega (arith, same, low)) m t p (last_or_before done s t (suc m) at))),
        (
          (λ m t at p. outer f.one.floor above m t (λ h q. f.floor m t h (q ∙ sym same)) (p ∙ same) (last_or_before done s t (suc m) at)),
          floors_more done s f.one.space f.up (omega (arith, same)) f.descends f.floors,
        ),
      );
    }
  where
    room : (o : Option ℕ) (slot : ℕ) → has_room o slot ≡ true → is_some o ≡ true
    room None slot e = cc
    room (Some floor) slot e = refl

    free_above : (o : Option ℕ) (floor slot : ℕ) → o ≡ Some floor → has_room o slot ≡ true → floor ≤ slot
    free_above None floor slot is e = absurd cc
    free_above (Some other) floor slot is e = let same : other ≡ floor = cc in let le = at_least (ltb slot other) refl e in omega (arith, same, le)
      where
        at_least : (b : Bool) → ltb slot other ≡ b → not b ≡ true → other ≤ slot
        at_least true p e = absurd cc
        at_least false p e = ltb-false slot other p

    inner : s.parent < length (d ∷ ds) → (m : ℕ) (t : SpaceRec) → t.parent ≡ length (d ∷ ds)
        → (slice_get (d ∷ ds) (suc m) ≡ Some t) ⊎ ((s ≡ t) × (suc m ≡ length (d ∷ ds))) → ⊥
    inner low m t p (inl h) =
        let lower = good.tree.low m t h in
        let lt = there_low (d ∷ ds) (suc m) t h in
        omega (arith, p, lower, lt)
    inner low m t p (inr h) = let same : s.parent ≡ t.parent = ap (λ (u : SpaceRec). u.parent) h.0 in omega (arith, same, p, low)

    outer : (floor : ℕ) → floor ≤ s.slot → (m : ℕ) (t : SpaceRec) → (slice_get (d ∷ ds) (suc m) ≡ Some t → t.parent ≡ s.parent → t.slot < floor)
        → t.parent ≡ s.parent → (slice_get (d ∷ ds) (suc m) ≡ Some t) ⊎ ((s ≡ t) × (suc m ≡ length (d ∷ ds))) → t.slot < s.slot + 1
    outer floor le m t lower p (inl h) = let lt = lower h p in omega (arith, lt, le)
    outer floor le m t lower p (inr h) = let same : s.slot ≡ t.slot = ap (λ (u : SpaceRec). u.slot) h.0 in omega (arith, same)

all_good : (rest : List SpaceRec) (d : SpaceRec) (ds : List SpaceRec) (path : List Open) → Good (d ∷ ds) → Descends (length (d ∷ ds)) path
    → Floors (d ∷ ds) path →
    all_from after_space fits_space (d ∷ ds, path) rest ≡ true → Good ((d ∷ ds) ++ rest)
all_good [] d ds path good descends floors e = subst (λ xs. Good xs) (sym (append-nil (d ∷ ds))) good
all_good (s ∷ rest) d ds path good descends floors e =
    let parts = and_parts (fits_space (d ∷ ds, path) s) (all_from after_space fits_space (after_space (d ∷ ds, path) s) rest) e in
    let st = step d ds path s good descends floors parts.0 in
    let long : length (d ∷ ds) + 1 ≡ length (d ∷ (ds ++ s ∷ [])) = omega (arith, length-append ds (s ∷ [])) in
    subst (λ xs. Good xs) (append_assoc (d ∷ ds) (s ∷ []) rest)
    (all_good rest d (ds ++ s ∷ []) (after_space (d ∷ ds, path) s).1 (more (d ∷ ds) s good st.here)
    (subst (λ n. Descends n (after_space (d ∷ ds, path) s).1) long st.descends) st.floors parts.1)

starts : (d : SpaceRec) → fits_space ([], root_path) d ≡ true → Good (d ∷ [])
starts d e =
    let a = and_parts (is_first d && fits_objects d.objects) (fits_pages d.pages) e in
    let b = and_parts (is_first d) (fits_objects d.objects) a.0 in
    record {
      tree = record { top = refl; low = λ n s h. absurd (none n s h); apart = λ m n s t h g p k. absurd (none m s h) };
      full = record {
        first = λ s h. subst (λ (u : SpaceRec). is_first u ≡ true) (one 0 s h) b.0;
        objects = λ n s h. subst (λ (u : SpaceRec). fits_objects u.objects ≡ true) (one n s h) b.1;
        pages = λ n s h. subst (λ (u : SpaceRec). fits_pages u.pages ≡ true) (one n s h) a.1;
        slots = λ n s h. absurd (none n s h);
        free = λ n s h. absurd (none n s h);
      };
    }
  where
    none : (n : ℕ) (s : SpaceRec) → slice_get (d ∷ []) (suc n) ≡ Some s → ⊥
    none n s h = cc

    one : (n : ℕ) (s : SpaceRec) → slice_get (d ∷ []) n ≡ Some s → d ≡ s
    one zero s h = cc
    one (suc n) s h = absurd (none n s h)

tree_by : (ss : List SpaceRec) → fits_spaces ss ≡ true → Good ss
tree_by [] e = absurd cc
tree_by (d ∷ rest) e =
    let parts = and_parts (ltb 0 (length (d ∷ rest)) && ltb (length (d ∷ rest)) (2 ^ 32)) (all_from after_space fits_space ([], root_path) (d ∷ rest)) e in
    let head = and_parts (fits_space ([], root_path) d) (all_from after_space fits_space (after_space ([], root_path) d) rest) parts.1 in
    all_good rest d [] root_path (starts d head.0) (omega arith, tt) ((λ m t h p. cc), tt) head.1

pub valid_is_tree : ValidIsTree
unfolding is_valid
valid_is_tree i e = let good = tree_by i.spaces (and_parts (fits_spaces i.spaces) (all_lead i.spaces) e).0 in (good.tree, good.full)
