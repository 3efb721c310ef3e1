-- Order: what lies in and beneath the spaces of a list, and that the open path says which space may follow.
use Rattle.std.proofs.Common.{◌≡◌, ℕ, zero, suc, ◌+◌, ◌-◌, ◌<◌, ◌≤◌, ◌⊎◌, inl, inr, Bool, true, false, cond, ◌&&◌, nat_le, nat_lt, List, [], ◌∷◌, ◌++◌, length}
use Rattle.std.proofs.Common.{take, drop}
use Rattle.std.proofs.Common.{Some, refl, sym, ap, subst, ◌∙◌, arith}
use Rattle.std.specs.Prelude.{slice_get}
use Rattle.std.proofs.lemmas.Bool.{cases_lt, lt-ltb, le-ltb, le-leb, leb-true, ltb-true, ltb-false}
use Rattle.fk_image.specs.declared.image.image.SpaceRec.{SpaceRec}
use Rattle.fk_image.specs.Image.Preorder.{run_beneath}
use Rattle.fk_image.specs.Image.Links.{end_of, is_space_within}
use Rattle.fk_image.specs.Form.Order.{LiesIn, IsWithin, AreInOrder}
use Rattle.fk_image.specs.Form.Order.IsWithin.{Itself, Beneath}

-- ---- lists

module _ {X : Type 0} where
  pub get-low : (xs : List X) (n : ℕ) (x : X) → slice_get xs n ≡ Some x → n < length xs
  get-low [] n x e = absurd cc
  get-low (y ∷ xs) zero x e = omega arith
  get-low (y ∷ xs) (suc n) x e = let h = get-low xs n x e in omega (arith, h)

  pub get-there : (xs : List X) (n : ℕ) → n < length xs → (x : X) × (slice_get xs n ≡ Some x)
  get-there [] n lt = absurd (omega (arith, lt))
  get-there (y ∷ xs) zero lt = (y, refl)
  get-there (y ∷ xs) (suc n) lt = get-there xs n (omega (arith, lt))

  pub get-take : (xs : List X) (n m : ℕ) → m < n → slice_get (take n xs) m ≡ slice_get xs m
  get-take [] n m lt = by n
    where
      by : (n : ℕ) → slice_get (take n []) m ≡ slice_get {X = X} [] m
      by zero = refl
      by (suc n) = refl
  get-take (y ∷ xs) zero m lt = absurd (omega (arith, lt))
  get-take (y ∷ xs) (suc n) zero lt = refl
  get-take (y ∷ xs) (suc n) (suc m) lt = get-take xs n m (omega (arith, lt))

  pub take-long : (xs : List X) (n : ℕ) → n ≤ length xs → length (take n xs) ≡ n
  take-long xs zero le = refl
  take-long [] (suc n) le = absurd (omega (arith, le))
  take-long (y ∷ xs) (suc n) le = let h = take-long xs n (omega (arith, le)) in omega (arith, h)

  pub get-first : (xs ys : List X) (n : ℕ) → n < length xs → slice_get (xs ++ ys) n ≡ slice_get xs n
  get-first [] ys n lt = absurd (omega (arith, lt))
  get-first (x ∷ xs) ys zero lt = refl
  get-first (x ∷ xs) ys (suc n) lt = get-first xs ys n (omega (arith, lt))

  pub get-behind : (xs : List X) (y : X) (ys : List X) → slice_get (xs ++ (y ∷ ys)) (length xs) ≡ Some y
  get-behind [] y ys = refl
  get-behind (x ∷ xs) y ys = get-behind xs y ys

  pub take-first : (xs ys : List X) (n : ℕ) → n ≤ length xs → take n (xs ++ ys) ≡ take n xs
  take-first xs ys zero le = refl
  take-first [] ys (suc n) le = absurd (omega (arith, le))
  take-first (x ∷ xs) ys (suc n) le = ap (λ zs. x ∷ zs) (take-first xs ys n (omega (arith, le)))

  pub take-whole : (xs : List X) → take (length xs) xs ≡ xs
  take-whole [] = refl
  take-whole (x ∷ xs) = ap (λ zs. x ∷ zs) (take-whole xs)

  pub get-last : (xs : List X) (x y : X) (n : ℕ) → slice_get (xs ++ x ∷ []) n ≡ Some y → (slice_get xs n ≡ Some y) ⊎ ((x ≡ y) × (n ≡ length xs))
  get-last [] x y zero e = inr (cc, refl)
  get-last [] x y (suc n) e = absurd cc
  get-last (z ∷ xs) x y zero e = inl e
  get-last (z ∷ xs) x y (suc n) e = by (get-last xs x y n e)
    where
      by : (slice_get xs n ≡ Some y) ⊎ ((x ≡ y) × (n ≡ length xs)) → (slice_get xs n ≡ Some y) ⊎ ((x ≡ y) × (suc n ≡ suc (length xs)))
      by (inl h) = inl h
      by (inr h) = inr (h.0, ap suc h.1)

  pub get-drop : (xs : List X) (n m : ℕ) → slice_get (drop n xs) m ≡ slice_get xs (n + m)
  get-drop xs zero m = let same : m ≡ 0 + m = omega arith in ap (slice_get xs) same
  get-drop [] (suc n) m = refl
  get-drop (x ∷ xs) (suc n) m = let same : suc (n + m) ≡ suc n + m = omega arith in get-drop xs n m ∙ ap (slice_get (x ∷ xs)) same

-- ---- within, in part of a list

module _ (xs ys : List SpaceRec) (long : ℕ) (same : (m : ℕ) → m < long → slice_get xs m ≡ slice_get ys m) where
  pub lies-same : (p k n : ℕ) → n < long → LiesIn xs p k n → LiesIn ys p k n
  lies-same p k n lt l = record { space = l.space; inner = l.inner; there = sym (same n lt) ∙ l.there; parent_is = l.parent_is; slot_is = l.slot_is }

-- what is of two such lists
abbrev pub IsLow : List SpaceRec → Type 0
IsLow xs = (p k n : ℕ) → LiesIn xs p k n → p < n

pub within-le : (xs : List SpaceRec) (bound top n : ℕ) → n < bound → ((p k m : ℕ) → m < bound → LiesIn xs p k m → p < m) → IsWithin xs top n → top ≤ n
within-le xs bound top _ lt low Itself = omega arith
within-le xs bound top _ lt low (Beneath p k n l w) =
    let less = low p k n lt l in
    let up = within-le xs bound top p (omega (arith, lt, less)) low w in
    omega (arith, less, up)

pub within-trans : (xs : List SpaceRec) (a b c : ℕ) → IsWithin xs a b → IsWithin xs b c → IsWithin xs a c
within-trans xs a b _ u Itself = u
within-trans xs a b _ u (Beneath p k n l w) = Beneath p k n l (within-trans xs a b p u w)

pub within-same : (xs ys : List SpaceRec) (long : ℕ) → ((m : ℕ) → m < long → slice_get xs m ≡ slice_get ys m)
    → ((p k m : ℕ) → m < long → LiesIn xs p k m → p < m) → (top n : ℕ) → n < long → IsWithin xs top n → IsWithin ys top n
within-same xs ys long same low top _ lt Itself = Itself
within-same xs ys long same low top _ lt (Beneath p k n l w) =
    let less = low p k n lt l in
    Beneath p k n (lies-same xs ys long same p k n lt l) (within-same xs ys long same low top p (omega (arith, lt, less)) w)

module _ (spaces : List SpaceRec) (order : AreInOrder spaces) where
  follows-lies : (p k n : ℕ) → LiesIn spaces p k n → (b : ℕ) × (n ≡ suc b) × IsWithin (take n spaces) p b
  follows-lies p k zero l = let no = l.inner in absurd (omega (arith, no))
  follows-lies p k (suc b) l =
      let f = order b l.space l.there in
      let lt = get-low spaces (suc b) l.space l.there in
      let many : length (take (suc b) spaces) - 1 ≡ b = let h = take-long spaces (suc b) (omega (arith, lt)) in omega (arith, h) in
      (b, refl, subst (λ q. IsWithin (take (suc b) spaces) q b) l.parent_is (subst (IsWithin (take (suc b) spaces) l.space.parent) many f.parent))

  low-below : (bound p k n : ℕ) → n < bound → LiesIn spaces p k n → p < n
  low-below zero p k n lt l = absurd (omega (arith, lt))
  low-below (suc bound) p k n lt l =
      let f = follows-lies p k n l in
      let is = f.1 in
      let le = within-le (take n spaces) n p f.0 (omega (arith, is))
      (λ q j m less lies. low-below bound q j m (omega (arith, lt, less)) (lies-same (take n spaces) spaces n (get-take spaces n) q j m less lies)) f.2 in
      omega (arith, is, le)

  pub low : IsLow spaces
  low p k n l = low-below (suc n) p k n (omega arith) l

  low-short : (long : ℕ) (p k m : ℕ) → m < long → LiesIn (take long spaces) p k m → p < m
  low-short long p k m lt l = low p k m (lies-same (take long spaces) spaces long (get-take spaces long) p k m lt l)

  -- the space before one lies in what that lies in, or is it
  pub before-one : (p k n : ℕ) → LiesIn spaces p k (suc n) → IsWithin spaces p n
  before-one p k n l =
      let f = follows-lies p k (suc n) l in
      let is = f.1 in
      let same : f.0 ≡ n = omega (arith, is) in
      subst (IsWithin spaces p) same
      (within-same (take (suc n) spaces) spaces (suc n) (get-take spaces (suc n)) (low-short (suc n)) p f.0 (omega (arith, same)) f.2)

  -- all from a space on to one that lies beneath it lie beneath it
  pub within-back : (top n : ℕ) → top ≤ n → IsWithin spaces top (suc n) → IsWithin spaces top n
  within-back top n le w = by (suc n) refl w
    where
      by : (m : ℕ) → m ≡ suc n → IsWithin spaces top m → IsWithin spaces top n
      by _ is Itself = absurd (omega (arith, is, le))
      by _ is (Beneath p k m l u) = within-trans spaces top p n u (before-one p k n (subst (LiesIn spaces p k) is l))

  pub within-between : (d top m : ℕ) → top ≤ m → IsWithin spaces top (d + m) → IsWithin spaces top m
  within-between zero top m le w = let same : 0 + m ≡ m = omega arith in subst (IsWithin spaces top) same w
  within-between (suc d) top m le w =
      let next : suc d + m ≡ suc (d + m) = omega arith in
      within-between d top m le (within-back top (d + m) (omega (arith, le)) (subst (IsWithin spaces top) next w))

-- ---- the spaces beneath, counted

run-all : (top : ℕ) (ss : List SpaceRec) (k : ℕ) → k < run_beneath top ss → (s : SpaceRec) → slice_get ss k ≡ Some s → top ≤ s.parent
unfolding run_beneath
run-all top [] k lt s e = absurd cc
run-all top (t ∷ ss) k lt s e = by (nat_lt t.parent top) refl (run-all top ss) k lt e
  where
    by : (b : Bool) → nat_lt t.parent top ≡ b → ((k : ℕ) → k < run_beneath top ss → (s : SpaceRec) → slice_get ss k ≡ Some s → top ≤ s.parent) →
        (k : ℕ) → k < cond b 0 (suc (run_beneath top ss)) → slice_get (t ∷ ss) k ≡ Some s → top ≤ s.parent
    by true is each k lt e = absurd (omega (arith, lt))
    by false is each zero lt e = let same : t ≡ s = cc in subst (λ (s : SpaceRec). top ≤ s.parent) same (ltb-false t.parent top is)
    by false is each (suc k) lt e = each k (omega (arith, lt)) s e

all-run : (top : ℕ) (ss : List SpaceRec) (k : ℕ) → k < length ss → ((j : ℕ) (s : SpaceRec) → j ≤ k → slice_get ss j ≡ Some s → top ≤ s.parent)
    → k < run_beneath top ss
unfolding run_beneath
all-run top [] k lt each = absurd (omega (arith, lt))
all-run top (t ∷ ss) zero lt each = rw (le-ltb t.parent top (each 0 t (omega arith) refl)) (omega arith)
all-run top (t ∷ ss) (suc k) lt each =
    let h = all-run top ss k (omega (arith, lt)) (λ j s le e. each (suc j) s (omega (arith, le)) e) in
    rw (le-ltb t.parent top (each 0 t (omega arith) refl)) (omega (arith, h))

both : (a b : Bool) → a ≡ true → b ≡ true → (a && b) ≡ true
both true b is also = also
both false b is also = absurd cc

parts : (a b : Bool) → (a && b) ≡ true → (a ≡ true) × (b ≡ true)
parts true b is = (refl, is)
parts false b is = absurd cc

module _ (spaces : List SpaceRec) (order : AreInOrder spaces) where
  beneath-parent : (top m : ℕ) (s : SpaceRec) → IsWithin spaces top m → top < m → slice_get spaces m ≡ Some s → top ≤ s.parent
  beneath-parent top _ s Itself lt e = absurd (omega (arith, lt))
  beneath-parent top _ s (Beneath p k m l w) lt e =
      let le = within-le spaces (suc p) top p (omega arith) (λ q j n less lies. low spaces order q j n lies) w in
      let same : l.space ≡ s = one (l.space) s (sym l.there ∙ e) in
      let up : s.parent ≡ p = ap (λ (s : SpaceRec). s.parent) (sym same) ∙ l.parent_is in
      omega (arith, le, up)
    where
      one : (a b : SpaceRec) → Some a ≡ Some b → a ≡ b
      one a b e = cc

  -- the count says who lies within
  pub counted : (top n : ℕ) → n < length spaces → IsWithin spaces top n → is_space_within spaces top n ≡ true
  unfolding end_of
  counted top n lt w =
      let le = within-le spaces (suc n) top n (omega arith) (λ q j m less lies. low spaces order q j m lies) w in
      both (nat_le top n) (nat_lt n (end_of spaces top)) (le-leb top n (omega (arith, le))) (lt-ltb n (end_of spaces top) (by (cases_lt top n) le))
    where
      rest : List SpaceRec
      rest = drop (top + 1) spaces

      short : (k : ℕ) → top + 1 + k < length spaces → k < length rest
      short k lt = by (cases_lt k (length rest))
        where
          by : (k < length rest) ⊎ (length rest ≤ k) → k < length rest
          by (inl h) = h
          by (inr h) = let there = get-there spaces (top + 1 + k) lt in get-low rest k there.0 (get-drop spaces (top + 1) k ∙ there.1)

      each : (k : ℕ) → top + 1 + k ≡ n → (j : ℕ) (s : SpaceRec) → j ≤ k → slice_get rest j ≡ Some s → top ≤ s.parent
      each k is j s le e =
          let d : (k - j) + (top + 1 + j) ≡ n = omega (arith, is, le) in
          beneath-parent top (top + 1 + j) s (within-between spaces order (k - j) top (top + 1 + j) (omega arith) (subst (IsWithin spaces top) (sym d) w))
          (omega arith) (sym (get-drop spaces (top + 1) j) ∙ e)

      by : (top < n) ⊎ (n ≤ top) → top ≤ n → n < top + 1 + run_beneath top rest
      by (inl less) le =
          let k = n - (top + 1) in
          let is : top + 1 + k ≡ n = omega (arith, less) in
          let h = all-run top rest k (short k (omega (arith, is, lt))) (each k is) in
          omega (arith, h, is)
      by (inr more) le = omega (arith, more, le)

  -- and who doesn't
  within-count : (top m : ℕ) → m < length spaces → ((k : ℕ) → k < run_beneath top (drop (top + 1) spaces) → (s : SpaceRec)
      → slice_get spaces (top + 1 + k) ≡ Some s → top ≤ s.parent) →
      (bound n : ℕ) → n < bound → n ≤ m → top ≤ n → m < top + 1 + run_beneath top (drop (top + 1) spaces) → IsWithin spaces top n
  within-count top m short each zero n lt le up end = absurd (omega (arith, lt))
  within-count top m short each (suc bound) n lt le up end =
      by (λ p less low high. within-count top m short each bound p less low high end) (cases_lt top n)
    where
      by : ((p : ℕ) → p < bound → p ≤ m → top ≤ p → IsWithin spaces top p) → (top < n) ⊎ (n ≤ top) → IsWithin spaces top n
      by go (inr more) = let same : top ≡ n = omega (arith, more, up) in subst (IsWithin spaces top) same Itself
      by go (inl less) =
          let there = get-there spaces n (omega (arith, le, short)) in
          let s = there.0 in
          let k = n - (top + 1) in
          let is : n ≡ top + 1 + k = omega (arith, less) in
          let high = each k (omega (arith, is, le, end)) s (ap (slice_get spaces) (sym is) ∙ there.1) in
          let lies : LiesIn spaces s.parent s.slot n = record { space = s; inner = omega (arith, less); there = there.1; parent_is = refl; slot_is = refl } in
          let low = low spaces order s.parent s.slot n lies in
          Beneath s.parent s.slot n lies (go s.parent (omega (arith, low, lt)) (omega (arith, low, le)) high)

  pub within-counted : (top n : ℕ) → n < length spaces → is_space_within spaces top n ≡ true → IsWithin spaces top n
  unfolding end_of
  within-counted top n lt is =
      let both = parts (nat_le top n) (nat_lt n (end_of spaces top)) is in
      let le = leb-true top n both.0 in
      within-count top n lt (λ k less s e. run-all top (drop (top + 1) spaces) k less s (get-drop spaces (top + 1) k ∙ e)) (suc n) n (omega arith) (omega arith)
      (omega (arith, le)) (ltb-true n (end_of spaces top) both.1)
