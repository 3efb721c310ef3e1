-- In a valid image what lies beneath a space by path is among those that follow it by number.
use Rattle.std.proofs.Common.{◌≡◌, ℕ, zero, suc, ◌+◌, ◌-◌, ◌<◌, ◌≤◌, ◌^◌, ◌⊎◌, inl, inr, Bool, true, false, cond, not, ltb, leb, ◌&&◌, ◌==◌, List, [], ◌∷◌}
use Rattle.std.proofs.Common.{◌++◌, length, drop, Option, Some, None, option_map, is_some, refl, sym, ap, subst, ◌∙◌, arith, eqb-true, append_assoc}
use Rattle.std.specs.Prelude.{slice_get}
use Rattle.std.proofs.lemmas.Bool.{and_parts, and_from, cases_lt, lt-ltb, le-leb, le-ltb}
use Rattle.std.proofs.lemmas.List.{append-nil, length-append}
use Rattle.fk_model.specs.Places.{Path, same_path, strip, is_within}
use Rattle.fk_model.proofs.walks.PlaceLaws.{same_path_eq}
use Rattle.fk_image.specs.declared.image.image.SpaceRec.{SpaceRec}
use Rattle.fk_image.specs.declared.image.open.Open.{Open}
use Rattle.fk_image.specs.Image.Ranges.{fits_link}
use Rattle.fk_image.specs.Image.Preorder.{from, first_floor, room_under, has_room, root_path, after_entering, after_space, run_beneath}
use Rattle.fk_image.specs.Image.Links.{kind_in_space, end_of, is_space_within}
use Rattle.fk_image.specs.Image.Picture.{space_number, path_within, space_path}
use Rattle.fk_image.specs.Image.Valid.{all_from, fits_space, fits_spaces, is_next, fits_objects, fits_pages}
use Rattle.laws_pictures.specs.Tree.{IsTree}
use Rattle.laws_pictures.proofs.Numbers.{item_of, is_there, there_below, number_of, path_up}
use Rattle.laws_pictures.proofs.Trees.{last_or_before, there_low}

-- what stands between a space and one that lies in it lies no higher than that one
abbrev pub IsNested : List SpaceRec → Type 0
IsNested ss = (m j : ℕ) (s t : SpaceRec) → slice_get ss (suc m) ≡ Some s → slice_get ss j ≡ Some t → s.parent < j → j < suc m → s.parent ≤ t.parent

-- ---- the open path

-- whatever came behind a space lies in it or beneath
abbrev IsOpen : List SpaceRec → ℕ → Type 0
IsOpen done n = (j : ℕ) (t : SpaceRec) → slice_get done j ≡ Some t → n < j → n ≤ t.parent

abbrev AreOpen : List SpaceRec → ℕ → List Open → Type 0
AreOpen done n [] = Unit {0}
AreOpen done n (o ∷ up) = (o.space < n) × IsOpen done o.space × AreOpen done o.space up

record Found (done : List SpaceRec) (n : ℕ) (path : List Open) (space : ℕ) : Type 0 where
  pub one : Open
  pub up : List Open
  pub is : from space path ≡ one ∷ up
  pub same : one.space ≡ space
  pub below : one.space < n
  pub open_one : IsOpen done one.space
  pub open_up : AreOpen done one.space up

found : (done : List SpaceRec) (n space : ℕ) (path : List Open) → AreOpen done n path → is_some (room_under path space) ≡ true → Found done n path space
unfolding from
found done n space [] a e = absurd cc
found done n space (o ∷ up) a e = by (o.space == space) refl (λ h. found done o.space space up a.2 h) e
  where
    by : (b : Bool) → (o.space == space) ≡ b → (is_some (first_floor (from space up)) ≡ true → Found done o.space up space)
        → is_some (first_floor (cond b (o ∷ up) (from space up))) ≡ true → Found done n (o ∷ up) space
    by true p rest e = record { one = o; up = up; is = rw p refl; same = eqb-true o.space space p; below = a.0; open_one = a.1; open_up = a.2 }
    by false p rest e =
        let r = rest e in
        let low = a.0 in
        let lower = r.below in
        record { one = r.one; up = r.up; is = rw p r.is; same = r.same; below = omega (arith, low, lower); open_one = r.open_one; open_up = r.open_up }

module _ (done : List SpaceRec) (s : SpaceRec) where
  still_open : (n : ℕ) → n ≤ s.parent → IsOpen done n → IsOpen (done ++ s ∷ []) n
  still_open n le a j t e lt = by (last_or_before done s t j e)
    where
      by : (slice_get done j ≡ Some t) ⊎ ((s ≡ t) × (j ≡ length done)) → n ≤ t.parent
      by (inl h) = a j t h lt
      by (inr h) = let same : s.parent ≡ t.parent = ap (λ (u : SpaceRec). u.parent) h.0 in omega (arith, same, le)

  all_open : (n : ℕ) (up : List Open) → n ≤ s.parent → AreOpen done n up → AreOpen (done ++ s ∷ []) n up
  all_open n [] le a = tt
  all_open n (o ∷ up) le a = let low = a.0 in (low, still_open o.space (omega (arith, le, low)) a.1, all_open o.space up (omega (arith, le, low)) a.2)

  last_open : IsOpen (done ++ s ∷ []) (length done)
  last_open j t e lt = by (last_or_before done s t j e)
    where
      by : (slice_get done j ≡ Some t) ⊎ ((s ≡ t) × (j ≡ length done)) → length done ≤ t.parent
      by (inl h) = let low = there_low done j t h in absurd (omega (arith, low, lt))
      by (inr h) = let at = h.1 in absurd (omega (arith, at, lt))

  more_nested : IsNested done → IsOpen done s.parent → IsNested (done ++ s ∷ [])
  more_nested nested a m j u t e f lt before = by (last_or_before done s u (suc m) e) (last_or_before done s t j f)
    where
      by : (slice_get done (suc m) ≡ Some u) ⊎ ((s ≡ u) × (suc m ≡ length done)) → (slice_get done j ≡ Some t) ⊎ ((s ≡ t) × (j ≡ length done))
          → u.parent ≤ t.parent
      by (inl h) (inl g) = nested m j u t h g lt before
      by (inl h) (inr g) = let low = there_low done (suc m) u h in let at = g.1 in absurd (omega (arith, low, at, before))
      by (inr h) (inl g) =
          let same : s.parent ≡ u.parent = ap (λ (v : SpaceRec). v.parent) h.0 in
          let le = a j t g (omega (arith, same, lt)) in
          omega (arith, same, le)
      by (inr h) (inr g) = let at = h.1 in let bt = g.1 in absurd (omega (arith, at, bt, before))

record Steps (done : List SpaceRec) (s : SpaceRec) (path : List Open) : Type 0 where
  pub nested : IsNested (done ++ s ∷ [])
  pub open_path : AreOpen (done ++ s ∷ []) (length done + 1) path

step : (d : SpaceRec) (ds : List SpaceRec) (path : List Open) (s : SpaceRec) → IsNested (d ∷ ds) → AreOpen (d ∷ ds) (length (d ∷ ds)) path
    → fits_space (d ∷ ds, path) s ≡ true →
    Steps (d ∷ ds) s (after_space (d ∷ ds, path) s).1
step d ds path s nested open_path e =
    let done = d ∷ ds in
    let fits = and_parts (is_next done path s && fits_objects s.objects) (fits_pages s.pages) e in
    let fits2 = and_parts (is_next done path s) (fits_objects s.objects) fits.0 in
    let a1 = ltb s.parent (2 ^ 32) in
    let a2 = ltb s.slot 240 in
    let a3 = has_room (room_under path s.parent) s.slot in
    let a4 = not (is_some (kind_in_space done s.parent s.slot)) in
    let n1 = and_parts (a1 && a2 && a3 && a4) (fits_link s.holder) fits2.0 in
    let n2 = and_parts (a1 && a2 && a3) a4 n1.0 in
    let n3 = and_parts (a1 && a2) a3 n2.0 in
    let f = found done (length done) s.parent path open_path (room (room_under path s.parent) s.slot n3.1) in
    let same = f.same in
    let low = f.below in
    record {
      nested = more_nested done s nested (subst (λ n. IsOpen done n) same f.open_one);
      open_path = subst (λ p. AreOpen (done ++ s ∷ []) (length done + 1) (after_entering (length done) s.slot p)) (sym f.is) (
        omega arith,
        last_open done s,
        (
          low,
          still_open done s f.one.space (omega (arith, same)) f.open_one,
          all_open done s f.one.space f.up (omega (arith, same)) f.open_up,
        ),
      );
    }
  where
    room : (o : Option ℕ) (slot : ℕ) → has_room o slot ≡ true → is_some o ≡ true
    room None slot e = cc
    room (Some floor) slot e = refl

all_nested : (rest : List SpaceRec) (d : SpaceRec) (ds : List SpaceRec) (path : List Open) → IsNested (d ∷ ds) → AreOpen (d ∷ ds) (length (d ∷ ds)) path →
    all_from after_space fits_space (d ∷ ds, path) rest ≡ true → IsNested ((d ∷ ds) ++ rest)
all_nested [] d ds path nested open_path e = subst (λ xs. IsNested xs) (sym (append-nil (d ∷ ds))) nested
all_nested (s ∷ rest) d ds path nested open_path e =
    let parts = and_parts (fits_space (d ∷ ds, path) s) (all_from after_space fits_space (after_space (d ∷ ds, path) s) rest) e in
    let st = step d ds path s nested open_path parts.0 in
    let long : length (d ∷ ds) + 1 ≡ length (d ∷ (ds ++ s ∷ [])) = omega (arith, length-append ds (s ∷ [])) in
    subst (λ xs. IsNested xs) (append_assoc (d ∷ ds) (s ∷ []) rest)
    (all_nested rest d (ds ++ s ∷ []) (after_space (d ∷ ds, path) s).1 st.nested
    (subst (λ n. AreOpen (d ∷ (ds ++ s ∷ [])) n (after_space (d ∷ ds, path) s).1) long st.open_path) parts.1)

pub fits_nested : (ss : List SpaceRec) → fits_spaces ss ≡ true → IsNested ss
fits_nested [] e = absurd cc
fits_nested (d ∷ rest) e =
    let parts = and_parts (ltb 0 (length (d ∷ rest)) && ltb (length (d ∷ rest)) (2 ^ 32)) (all_from after_space fits_space ([], root_path) (d ∷ rest)) e in
    let head = and_parts (fits_space ([], root_path) d) (all_from after_space fits_space (after_space ([], root_path) d) rest) parts.1 in
    all_nested rest d [] root_path (λ m j s t h. absurd (none m s h)) (omega arith, (λ j t h lt. omega arith), tt) head.1
  where
    none : (n : ℕ) (s : SpaceRec) → slice_get (d ∷ []) (suc n) ≡ Some s → ⊥
    none n s h = cc

-- ---- beneath by path is behind by number

run_long : (n : ℕ) (xs : List SpaceRec) (k : ℕ) → ((j : ℕ) (t : SpaceRec) → j ≤ k → slice_get xs j ≡ Some t → n ≤ t.parent) → is_some (slice_get xs k) ≡ true
    → k < run_beneath n xs
unfolding run_beneath
run_long n [] k all is = absurd cc
run_long n (x ∷ xs) zero all is = let le = all 0 x (omega arith) refl in rw (le-ltb x.parent n le) (omega arith)
run_long n (x ∷ xs) (suc k) all is =
    let le = all 0 x (omega arith) refl in
    let rest = run_long n xs k (λ j t h e. all (suc j) t (omega (arith, h)) e) is in
    rw (le-ltb x.parent n le) (omega (arith, rest))

dropped : {A : Type 0} (m : ℕ) (xs : List A) (j : ℕ) → slice_get (drop m xs) j ≡ slice_get xs (m + j)
dropped zero xs j = let same : 0 + j ≡ j = omega arith in ap (slice_get xs) (sym same)
dropped (suc m) [] j = refl
dropped (suc m) (x ∷ xs) j = let next : suc m + j ≡ suc (m + j) = omega arith in dropped m xs j ∙ ap (slice_get (x ∷ xs)) (sym next)

module _ (ss : List SpaceRec) (tree : IsTree ss) (nested : IsNested ss) where
  record LiesBehind (n m : ℕ) : Type 0 where
    pub low : n ≤ m
    pub all : (j : ℕ) (t : SpaceRec) → slice_get ss j ≡ Some t → n < j → j ≤ m → n ≤ t.parent

  number_same : (m n : ℕ) → is_some (slice_get ss m) ≡ true → is_some (slice_get ss n) ≡ true → space_path ss m ≡ space_path ss n → m ≡ n
  number_same m n p q e = some_same (sym (number_of ss tree m p) ∙ ap (space_number ss) e ∙ number_of ss tree n q)
    where
      some_same : Some m ≡ Some n → m ≡ n
      some_same e = cc

  itself : (n m : ℕ) → m ≡ n → LiesBehind n m
  itself n m same = record { low = omega (arith, same); all = λ j t e lt le. absurd (omega (arith, same, lt, le)) }

  within_cases : (root : Path) (k : ℕ) (x : Path) → is_within root (k ∷ x) ≡ true → (root ≡ k ∷ x) ⊎ (is_within root x ≡ true)
  unfolding strip
  within_cases root k x e = by (same_path (k ∷ x) root) refl (strip root x) e
    where
      by : (b : Bool) → same_path (k ∷ x) root ≡ b → (o : Option Path) → is_some (cond b (Some []) (option_map (λ q. k ∷ q) o)) ≡ true
          → (root ≡ k ∷ x) ⊎ (is_some o ≡ true)
      by true p o e = inl (sym (same_path_eq (k ∷ x) root p))
      by false p None e = absurd cc
      by false p (Some q) e = inr refl

  within_top : (root : Path) → is_within root [] ≡ true → root ≡ []
  unfolding strip
  within_top root e = by (same_path [] root) refl e
    where
      chosen : Bool → Option Path
      chosen b = cond b (Some []) None

      by : (b : Bool) → same_path [] root ≡ b → is_some (chosen b) ≡ true → root ≡ []
      by true p e = sym (same_path_eq [] root p)
      by false p e = absurd cc

  behind_by : (d n m : ℕ) → m ≤ d → is_some (slice_get ss n) ≡ true → is_some (slice_get ss m) ≡ true → is_within (space_path ss n) (space_path ss m) ≡ true
      → LiesBehind n m
  unfolding path_within
  behind_by d n zero le there is e = itself n 0 (number_same 0 n is there (sym (within_top (space_path ss n) e)))
  behind_by zero n (suc m) le there is e = absurd (omega (arith, le))
  behind_by (suc d) n (suc m) le there is e =
      let s = item_of (slice_get ss (suc m)) is in
      let low = tree.low m s.item s.is in
      let up = path_up ss tree m s.item s.is in
      by s.item s.is up (within_cases (space_path ss n) s.item.slot (space_path ss s.item.parent) (sym (ap (is_within (space_path ss n)) up) ∙ e))
      (λ h. behind_by d n s.item.parent (omega (arith, low, le)) there (there_below ss s.item.parent (suc m) (omega (arith, low)) is) h)
    where
      by : (s : SpaceRec) → slice_get ss (suc m) ≡ Some s → space_path ss (suc m) ≡ s.slot ∷ space_path ss s.parent
          → (space_path ss n ≡ s.slot ∷ space_path ss s.parent) ⊎ (is_within (space_path ss n) (space_path ss s.parent) ≡ true) →
          (is_within (space_path ss n) (space_path ss s.parent) ≡ true → LiesBehind n s.parent) → LiesBehind n (suc m)
      by s here up (inl same) rest = itself n (suc m) (number_same (suc m) n (is_there (slice_get ss (suc m)) s here) there (up ∙ sym same))
      by s here up (inr h) rest =
          let r = rest h in
          let under = tree.low m s here in
          let low = r.low in
          record { low = omega (arith, low, under); all = λ j t e lt le. all s here r j t e lt le (cases_lt s.parent j) (cases_lt j (suc m)) }
        where
          all : (s : SpaceRec) → slice_get ss (suc m) ≡ Some s → LiesBehind n s.parent → (j : ℕ) (t : SpaceRec) → slice_get ss j ≡ Some t → n < j → j ≤ suc m
              → (s.parent < j) ⊎ (j ≤ s.parent) → (j < suc m) ⊎ (suc m ≤ j) → n ≤ t.parent
          all s here r j t e lt le (inr below) last = r.all j t e lt below
          all s here r j t e lt le (inl above) (inl before) = let p = nested m j s t here e above before in let low = r.low in omega (arith, p, low)
          all s here r j t e lt le (inl above) (inr ge) =
              let at : j ≡ suc m = omega (arith, le, ge) in
              let same : s ≡ t = one (sym here ∙ sym (ap (slice_get ss) at) ∙ e) in
              let p : s.parent ≡ t.parent = ap (λ (u : SpaceRec). u.parent) same in
              let low = r.low in
              omega (arith, p, low)
            where
              one : {a b : SpaceRec} → Some a ≡ Some b → a ≡ b
              one e = cc

  -- a space that lies in or beneath another by path does so by number
  pub within_by_number : (n m : ℕ) → is_some (slice_get ss n) ≡ true → is_some (slice_get ss m) ≡ true → is_within (space_path ss n) (space_path ss m) ≡ true
      → is_space_within ss n m ≡ true
  unfolding end_of
  within_by_number n m there is e =
      let r = behind_by m n m (omega arith) there is e in
      let low = r.low in
      and_from (leb n m) (ltb m (end_of ss n)) (le-leb n m low) (lt-ltb m (end_of ss n) (ends r (cases_lt n m)))
    where
      ends : LiesBehind n m → (n < m) ⊎ (m ≤ n) → m < end_of ss n
      ends r (inr le) = omega (arith, le)
      ends r (inl lt) =
          let k = m - (n + 1) in
          let at : n + 1 + k ≡ m = omega (arith, lt) in
          let long = run_long n (drop (n + 1) ss) k (λ j t h e2. r.all (n + 1 + j) t (sym (dropped (n + 1) ss j) ∙ e2) (omega arith) (omega (arith, h, at)))
          (ap is_some (dropped (n + 1) ss k ∙ ap (slice_get ss) at) ∙ is) in
          omega (arith, long, at)
