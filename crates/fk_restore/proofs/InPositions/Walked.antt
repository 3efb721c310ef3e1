-- Walks by numbers are the script's walks by paths.
use Rattle.std.proofs.Common.{◌≡◌, ℕ, zero, suc, ◌<◌, ◌≤◌, ◌⊎◌, inl, inr, Bool, true, false, cond, leb, ◌==◌, List, [], ◌∷◌, ◌++◌, Option, Some, None}
use Rattle.std.proofs.Common.{option_map, is_some, refl, sym, ap, subst, ◌∙◌, arith, eqb-true, eq-eqb, ne_eqb, append_assoc}
use Rattle.std.specs.Prelude.{slice_get, IsSome}
use Rattle.std.proofs.lemmas.Bool.{and_parts, cases_lt, leb-true, leb-false, le-leb}
use Rattle.std.proofs.lemmas.List.{append-nil}
use Rattle.fk_model.specs.Places.{Path, same_path, strip, is_within}
use Rattle.fk_model.proofs.walks.PlaceLaws.{same_path_eq, strip-append, strip_some}
use Rattle.fk_image.specs.declared.image.image.Link.TheVariants.{In}
use Rattle.fk_image.specs.declared.image.image.SpaceRec.{SpaceRec}
use Rattle.fk_image.specs.Image.Picture.{space_number, path_within, space_path}
use Rattle.laws_restore.specs.Sites.Orders.{Order}
use Rattle.laws_restore.specs.Sites.Orders.Order.{Leads, LeadsTop}
use Rattle.laws_restore.specs.Restore.Script.{P, next_name, down, root_down, from_root, goes_by, goes_to, leads_by, leads_to_at}
use Rattle.laws_pictures.specs.Tree.{IsTree}
use Rattle.laws_pictures.proofs.Numbers.{item_of, is_there, there_below, number_of, path_up}
use Rattle.laws_restore.proofs.InRooms.Beneath.{IsNested, within_by_number}
use Rattle.fk_restore.specs.declared.positions.position.Walk.{Walk, Walk as walks}
use Rattle.fk_restore.specs.declared.positions.position.Walk.TheVariants.{Done, Top, Down}
use Rattle.fk_restore.specs.Positions.Walks.{parent_of, is_above_by, is_above, child_by, child_towards, slot_at, target, down_by, walk_rest, last_order}
use Rattle.fk_restore.specs.Positions.Walks.{walk_order, walk_next, goes, leads}

-- ---- the first step of a walk down

not_first : (r name k : ℕ) (w : Path) → next_name r name (w ++ k ∷ []) ≡ r
not_first r name k [] = refl
not_first r name k (j ∷ w) = refl

by_itself : (r : ℕ) (w : Path) → next_name r r w ≡ r
by_itself r [] = refl
by_itself r (j ∷ w) = refl

pub down_front : (r name k : ℕ) (p w : Path) → down r name p (w ++ k ∷ []) ≡ Leads r name p k ∷ down r r (k ∷ p) w
unfolding down
down_front r name k p [] = refl
down_front r name k p (j ∷ w) =
    let rest = down_front r name k p w in
    (λ i. rest i ++ Leads r (not_first r name k w i) (append_assoc w (k ∷ []) p i) j ∷ [])
    ∙ ap (λ m. Leads r name p k ∷ (down r r (k ∷ p) w ++ Leads r m (w ++ (k ∷ p)) j ∷ [])) (sym (by_itself r w))

pub root_is_down : (slot r : ℕ) (z : Path) → root_down slot r z ≡ down r slot [] z
unfolding down root_down
root_is_down slot r [] = refl
root_is_down slot r (k ∷ z) =
    ap (λ (os : List Order). os ++ Leads r (next_name r slot z) z k ∷ []) (root_is_down slot r z)
    ∙ ap (λ (y : Path). down r slot [] z ++ Leads r (next_name r slot z) y k ∷ []) (sym (append-nil z))

strip_top : (x : Path) → strip [] x ≡ Some x
strip_top x = ap (strip []) (sym (append-nil x)) ∙ strip-append [] x

within_some : (root x : Path) (o : Option Path) → strip root x ≡ o → is_some o ≡ true → (w : Path) × (strip root x ≡ Some w) × (x ≡ w ++ root)
within_some root x None e is = absurd cc
within_some root x (Some w) e is = (w, e, strip_some root x w e)

pub some_of : {A : Type 0} (o : Option A) → is_some o ≡ true → IsSome o
some_of None e = absurd cc
some_of (Some x) e = cc

pub true_of : {A : Type 0} (o : Option A) → IsSome o → is_some o ≡ true
true_of None e = absurd cc
true_of (Some x) e = refl

module _ (ss : List SpaceRec) (tree : IsTree ss) (nested : IsNested ss) where
  abbrev pub path : ℕ → Path
  path n = space_path ss n

  abbrev Is : ℕ → Type 0
  Is n = is_some (slice_get ss n) ≡ true

  number_same : (m n : ℕ) → Is m → Is n → path m ≡ path n → m ≡ n
  number_same m n p q e = some_same (sym (number_of ss tree m p) ∙ ap (space_number ss) e ∙ number_of ss tree n q)
    where
      some_same : Some m ≡ Some n → m ≡ n
      some_same e = cc

  within_low : (a b : ℕ) → Is a → Is b → is_within (path a) (path b) ≡ true → a ≤ b
  within_low a b ia ib e = leb-true a b (and_parts (leb a b) _ (within_by_number ss tree nested a b ia ib e)).0

  within_itself : (x : Path) → is_within x x ≡ true
  within_itself x = ap is_some (strip-append x [])

  -- one step up
  within_up : (root x : Path) (k : ℕ) → same_path (k ∷ x) root ≡ false → is_within root (k ∷ x) ≡ is_within root x
  unfolding strip
  within_up root x k off = ap (λ b. is_some (cond b (Some []) (option_map (λ q. k ∷ q) (strip root x)))) off ∙ by (strip root x)
    where
      by : (o : Option Path) → is_some (option_map (λ q. k ∷ q) o) ≡ is_some o
      by None = refl
      by (Some q) = refl

  abbrev parent_in : Option SpaceRec → ℕ
  parent_in None = 0
  parent_in (Some s) = s.parent

  parent_is : (n : ℕ) (s : SpaceRec) → slice_get ss n ≡ Some s → parent_of ss n ≡ s.parent
  parent_is n s here = ap parent_in here

  abbrev slot_in : Option SpaceRec → ℕ
  slot_in None = 0
  slot_in (Some s) = s.slot

  slot_is : (n : ℕ) (s : SpaceRec) → slice_get ss n ≡ Some s → slot_at ss n ≡ s.slot
  slot_is n s here = ap slot_in here

  -- what lies in a later space of another, by path
  differs : (a b : ℕ) (s : SpaceRec) → Is a → slice_get ss (suc b) ≡ Some s → a < suc b → same_path (s.slot ∷ path s.parent) (path a) ≡ false
  differs a b s ia here lt = by (same_path (s.slot ∷ path s.parent) (path a)) refl
    where
      by : (t : Bool) → same_path (s.slot ∷ path s.parent) (path a) ≡ t → t ≡ false
      by false e = refl
      by true e =
          let same = number_same a (suc b) ia (is_there (slice_get ss (suc b)) s here) (sym (same_path_eq (s.slot ∷ path s.parent) (path a) e)
          ∙ sym (path_up ss tree b s here)) in
          absurd (omega (arith, same, lt))

  up_is : (a b : ℕ) (s : SpaceRec) → Is a → slice_get ss (suc b) ≡ Some s → a < suc b → is_within (path a) (path (suc b)) ≡ is_within (path a) (path s.parent)
  up_is a b s ia here lt = ap (is_within (path a)) (path_up ss tree b s here) ∙ within_up (path a) (path s.parent) s.slot (differs a b s ia here lt)

  parent_there : (b : ℕ) (s : SpaceRec) → slice_get ss (suc b) ≡ Some s → Is s.parent
  parent_there b s here = let low = tree.low b s here in there_below ss s.parent (suc b) (omega (arith, low)) (is_there (slice_get ss (suc b)) s here)

  -- ---- above, by numbers

  level : (a b : ℕ) → b ≤ a → Is a → Is b → (a == b) ≡ is_within (path a) (path b)
  level a b le ia ib = by (a == b) refl (is_within (path a) (path b)) refl
    where
      clash : true ≡ false → ⊥
      clash e = cc

      by : (t : Bool) → (a == b) ≡ t → (u : Bool) → is_within (path a) (path b) ≡ u → t ≡ u
      by true e true f = refl
      by true e false f = absurd (clash (sym (within_itself (path a)) ∙ ap (λ n. is_within (path a) (path n)) (eqb-true a b e) ∙ f))
      by false e true f = let low = within_low a b ia ib f in absurd (clash (sym (eq-eqb a b (omega (arith, low, le))) ∙ e))
      by false e false f = refl

  above_by : (d a b : ℕ) → b ≤ d → Is a → Is b → is_above_by d ss a b ≡ is_within (path a) (path b)
  unfolding is_above_by
  above_by zero a b le ia ib = level a b (omega (arith, le)) ia ib
  above_by (suc d) a zero le ia ib = ap (λ t. cond t (a == 0) (is_above_by d ss a (parent_of ss 0))) (le-leb 0 a (omega arith)) ∙ level a 0 (omega arith) ia ib
  above_by (suc d) a (suc b) le ia ib = let s = item_of (slice_get ss (suc b)) ib in
      by s.item s.is (leb (suc b) a) refl (λ h. above_by d a s.item.parent h ia (parent_there b s.item s.is))
    where
      by : (s : SpaceRec) → slice_get ss (suc b) ≡ Some s → (t : Bool) → leb (suc b) a ≡ t
          → (s.parent ≤ d → is_above_by d ss a s.parent ≡ is_within (path a) (path s.parent)) →
          cond t (a == suc b) (is_above_by d ss a (parent_of ss (suc b))) ≡ is_within (path a) (path (suc b))
      by s here true e rest = level a (suc b) (leb-true (suc b) a e) ia ib
      by s here false e rest =
          let low = tree.low b s here in
          let lt = leb-false (suc b) a e in
          ap (is_above_by d ss a) (parent_is (suc b) s here) ∙ rest (omega (arith, low, le)) ∙ sym (up_is a b s ia here lt)

  pub above_is : (a b : ℕ) → Is a → Is b → is_above ss a b ≡ is_within (path a) (path b)
  above_is a b ia ib = above_by b a b (omega arith) ia ib

  -- ---- the space on the way

  pub record Child (a b c : ℕ) : Type 0 where
    pub before : ℕ
    pub number : c ≡ suc before
    pub space : SpaceRec
    pub here : slice_get ss c ≡ Some space
    pub parent : space.parent ≡ a
    pub way : is_within (path c) (path b) ≡ true

  within_more : (root x : Path) (k : ℕ) → is_within root x ≡ true → is_within root (k ∷ x) ≡ true
  unfolding strip
  within_more root x k e = by (same_path (k ∷ x) root) (strip root x) e
    where
      by : (t : Bool) (o : Option Path) → is_some o ≡ true → is_some (cond t (Some []) (option_map (λ q. k ∷ q) o)) ≡ true
      by true o e = refl
      by false None e = absurd cc
      by false (Some q) e = refl

  child_is : (d a b : ℕ) → b ≤ d → Is a → Is b → a < b → is_within (path a) (path b) ≡ true → Child a b (child_by d ss a b)
  unfolding child_by
  child_is d a zero le ia ib lt e = absurd (omega (arith, lt))
  child_is zero a (suc b) le ia ib lt e = absurd (omega (arith, le))
  child_is (suc d) a (suc b) le ia ib lt e =
      let s = item_of (slice_get ss (suc b)) ib in
      by s.item s.is (parent_of ss (suc b) == a) refl
      (λ low below. child_is d a s.item.parent low ia (parent_there b s.item s.is) below (sym (up_is a b s.item ia s.is lt) ∙ e))
    where
      by : (s : SpaceRec) → slice_get ss (suc b) ≡ Some s → (t : Bool) → (parent_of ss (suc b) == a) ≡ t
          → (s.parent ≤ d → a < s.parent → Child a s.parent (child_by d ss a s.parent)) →
          Child a (suc b) (cond t (suc b) (child_by d ss a (parent_of ss (suc b))))
      by s here true f rest = record {
        before = b;
        number = refl;
        space = s;
        here = here;
        parent = sym (parent_is (suc b) s here)
            ∙ eqb-true (parent_of ss (suc b)) a f;
        way = within_itself (path (suc b));
      }
      by s here false f rest =
          let low = tree.low b s here in
          let under = within_low a s.parent ia (parent_there b s here) (sym (up_is a b s ia here lt) ∙ e) in
          let r = rest (omega (arith, low, le)) (apart (parent_is (suc b) s here) under) in
          subst (λ n. Child a (suc b) (child_by d ss a n)) (sym (parent_is (suc b) s here))
          (record {
            before = r.before;
            number = r.number;
            space = r.space;
            here = r.here;
            parent = r.parent;
            way = ap (is_within (path (child_by d ss a s.parent))) (path_up ss tree b s here)
                ∙ within_more (path (child_by d ss a s.parent)) (path s.parent) s.slot r.way;
          })
        where
          clash : true ≡ false → ⊥
          clash e = cc

          apart : {m : ℕ} → parent_of ss (suc b) ≡ m → a ≤ m → a < m
          apart {m = m} is le = by2 (cases_lt a m)
            where
              by2 : (a < m) ⊎ (m ≤ a) → a < m
              by2 (inl lt) = lt
              by2 (inr ge) = absurd (clash (sym (eq-eqb (parent_of ss (suc b)) a (omega (arith, is, le, ge))) ∙ f))

  pub towards : (a b : ℕ) → Is a → Is b → a < b → is_within (path a) (path b) ≡ true → Child a b (child_towards ss a b)
  towards a b ia ib lt e = child_is b a b (omega arith) ia ib lt e

  -- ---- one step of a walk

  abbrev pub Fits : Walk → Type 0
  Fits Done = Unit {0}
  Fits (Top r) = Unit {0}
  Fits (Down r name from to last) = IsSome (slice_get ss from) × IsSome (slice_get ss to) × IsSome (strip (path from) (path to))

  abbrev pub listing : Option Order → List Order
  listing None = []
  listing (Some o) = o ∷ []

  stripped : (root w : Path) (last : Option ℕ) (x : Path) → x ≡ w ++ root → strip root (target x last) ≡ Some (target w last)
  stripped root w None x e = ap (strip root) e ∙ strip-append root w
  stripped root w (Some k) x e = ap (λ y. strip root (k ∷ y)) e ∙ strip-append root (k ∷ w)

  arrived : (r name n : ℕ) (last : Option ℕ) → walk_rest ss (walks.Down r name n n last) ≡ listing (last_order r name (path n) last)
  unfolding down
  arrived r name n None = ap (down_by r name (path n)) (strip-append (path n) [])
  arrived r name n (Some k) = ap (down_by r name (path n)) (strip-append (path n) (k ∷ []))

  stepped : (r name from to : ℕ) (last : Option ℕ) (c : ℕ) → Child from to c → (w : Path) → path to ≡ w ++ path c →
      walk_rest ss (walks.Down r name from to last) ≡ Leads r name (path from) (slot_at ss c) ∷ walk_rest ss (walks.Down r r c to last)
  stepped r name from to last c h w e =
      let here : slice_get ss (suc h.before) ≡ Some h.space = ap (slice_get ss) (sym h.number) ∙ h.here in
      let up : path c ≡ h.space.slot ∷ path from = ap path h.number ∙ path_up ss tree h.before h.space here ∙ ap (λ n. h.space.slot ∷ path n) h.parent in
      let all : path to ≡ (w ++ h.space.slot ∷ []) ++ path from = e ∙ ap (λ y. w ++ y) up ∙ sym (append_assoc w (h.space.slot ∷ []) (path from)) in
      let slot = slot_is c h.space h.here in
      ap (down_by r name (path from)) (stripped (path from) (w ++ h.space.slot ∷ []) last (path to) all)
      ∙ front last h.space.slot
      ∙ ap (λ k. Leads r name (path from) k ∷ down r r (h.space.slot ∷ path from) (target w last)) (sym slot)
      ∙ ap (λ y. Leads r name (path from) (slot_at ss c) ∷ down r r y (target w last)) (sym up)
      ∙ ap (λ o. Leads r name (path from) (slot_at ss c) ∷ down_by r r (path c) o) (sym (stripped (path c) w last (path to) e))
    where
      front : (last : Option ℕ) (k : ℕ) → down r name (path from) (target (w ++ k ∷ []) last) ≡ Leads r name (path from) k
          ∷ down r r (k ∷ path from) (target w last)
      front None k = down_front r name k (path from) w
      front (Some j) k = down_front r name k (path from) (j ∷ w)

  pub walk_is : (walk : Walk) → Fits walk → (walk_rest ss walk ≡ listing (walk_order ss walk) ++ walk_rest ss (walk_next ss walk)) × Fits (walk_next ss walk)
  walk_is Done fits = (refl, tt)
  walk_is (Top r) fits = (refl, tt)
  walk_is (Down r name from to last) fits = by (from == to) refl
    where
      ia : Is from
      ia = true_of (slice_get ss from) fits.0

      ib : Is to
      ib = true_of (slice_get ss to) fits.1

      within : is_within (path from) (path to) ≡ true
      within = true_of (strip (path from) (path to)) fits.2

      by : (t : Bool) → (from == to) ≡ t →
          (walk_rest ss (walks.Down r name from to last)
          ≡ listing (cond t (last_order r name (path to) last) (Some (Leads r name (path from) (slot_at ss (child_towards ss from to)))))
          ++ walk_rest ss (cond t walks.Done (walks.Down r r (child_towards ss from to) to last)))
          × Fits (cond t walks.Done (walks.Down r r (child_towards ss from to) to last))
      by true e =
          let same = eqb-true from to e in (
            ap (λ n. walk_rest ss (walks.Down r name n to last)) same ∙ arrived r name to last
                ∙ sym (append-nil (listing (last_order r name (path to) last))),
            tt,
          )
      by false e =
          let lt = below (within_low from to ia ib within) in
          let h = towards from to ia ib lt within in
          let way = within_some (path (child_towards ss from to)) (path to) (strip (path (child_towards ss from to)) (path to)) refl h.way in (
            stepped r name from to last (child_towards ss from to) h way.0 way.2,
            (
              some_of (slice_get ss (child_towards ss from to)) (is_there (slice_get ss (child_towards ss from to)) h.space h.here),
              fits.1,
              some_of (strip (path (child_towards ss from to)) (path to)) h.way,
            ),
          )
        where
          clash : true ≡ false → ⊥
          clash e = cc

          below : from ≤ to → from < to
          below le = by2 (cases_lt from to)
            where
              by2 : (from < to) ⊎ (to ≤ from) → from < to
              by2 (inl lt) = lt
              by2 (inr ge) = absurd (clash (sym (eq-eqb from to (omega (arith, le, ge))) ∙ e))

  -- ---- walks from place to place

  top_within : (x : Path) → is_within [] x ≡ true
  top_within x = ap is_some (strip_top x)

  from_top : (slot r b : ℕ) (k : ℕ) (z : Path) (last : Option ℕ) → target (path b) last ≡ k ∷ z
      → walk_rest ss (walks.Down r slot 0 b last) ≡ from_root slot r (k ∷ z)
  unfolding path_within
  from_top slot r b k z last e = ap (down_by r slot []) (ap (strip []) e ∙ strip_top (k ∷ z)) ∙ sym (root_is_down slot r (k ∷ z))

  fits_top : (r slot b : ℕ) (last : Option ℕ) → Is b → Fits (walks.Down r slot 0 b last)
  unfolding path_within
  fits_top r slot b last ib = (some_of (slice_get ss 0) tree.top, some_of (slice_get ss b) ib, some_of (strip [] (path b)) (top_within (path b)))

  root_goes : (slot b : ℕ) → Is b → (from_root slot P (path b) ≡ walk_rest ss (cond (b == 0) (walks.Top P) (walks.Down P slot 0 b None)))
      × Fits (cond (b == 0) (walks.Top P) (walks.Down P slot 0 b None))
  unfolding path_within
  root_goes slot zero ib = (refl, tt)
  root_goes slot (suc n) ib =
      let s = item_of (slice_get ss (suc n)) ib in
      let up = path_up ss tree n s.item s.is in
      let off = ne_eqb (suc n) 0 (λ e. omega (arith, e)) in
      subst (λ t. (from_root slot P (path (suc n)) ≡ walk_rest ss (cond t (walks.Top P) (walks.Down P slot 0 (suc n) None)))
      × Fits (cond t (walks.Top P) (walks.Down P slot 0 (suc n) None))) (sym off)
      (ap (from_root slot P) up ∙ sym (from_top slot P (suc n) s.item.slot (path s.item.parent) None up), fits_top P slot (suc n) None ib)

  pub goes_is : (slot a b : ℕ) → Is a → Is b → (goes_to slot (path a) (path b) ≡ walk_rest ss (goes ss slot a b)) × Fits (goes ss slot a b)
  goes_is slot a b ia ib = by (is_above ss a b) (above_is a b ia ib) (strip (path a) (path b)) refl
    where
      chosen : Bool → Walk
      chosen t = cond t (walks.Down P P a b None) (cond (b == 0) (walks.Top P) (walks.Down P slot 0 b None))

      clash : true ≡ false → ⊥
      clash e = cc

      by : (t : Bool) → t ≡ is_within (path a) (path b) → (o : Option Path) → strip (path a) (path b) ≡ o
          → (goes_by slot (path a) (path b) o ≡ walk_rest ss (chosen t)) × Fits (chosen t)
      by true e None h = absurd (clash (e ∙ ap is_some h))
      by true e (Some w) h = (
        ap (down_by P P (path a)) (sym h),
        (some_of (slice_get ss a) ia, some_of (slice_get ss b) ib, some_of (strip (path a) (path b)) (sym e)),
      )
      by false e (Some w) h = absurd (clash (sym (e ∙ ap is_some h)))
      by false e None h = root_goes slot b ib

  -- a pointer to a slot of a space
  pub leads_is : (slot r a k b : ℕ) → Is a → Is b → (leads_to_at slot r (path a) (k ∷ path b) ≡ walk_rest ss (leads ss slot r a (In k b)))
      × Fits (leads ss slot r a (In k b))
  leads_is slot r a k b ia ib = by (is_above ss a b) (above_is a b ia ib) (strip (path a) (path b)) refl
    where
      chosen : Bool → Walk
      chosen t = cond t (walks.Down r P a b (Some k)) (walks.Down r slot 0 b (Some k))

      clash : true ≡ false → ⊥
      clash e = cc

      root : (o : Option Path) → strip (path a) (k ∷ path b) ≡ o → is_within (path a) (path b) ≡ false
          → leads_by slot r (path a) (k ∷ path b) o ≡ from_root slot r (k ∷ path b)
      root None h off = refl
      root (Some []) h off = refl
      root (Some (j ∷ w)) h off = absurd (clash (sym (deeper (strip_some (path a) (k ∷ path b) (j ∷ w) h)) ∙ off))
        where
          deeper : k ∷ path b ≡ j ∷ (w ++ path a) → is_within (path a) (path b) ≡ true
          deeper e = ap (is_within (path a)) (tails e) ∙ ap is_some (strip-append (path a) w)
            where
              tails : k ∷ path b ≡ j ∷ (w ++ path a) → path b ≡ w ++ path a
              tails e = cc

      by : (t : Bool) → t ≡ is_within (path a) (path b) → (o : Option Path) → strip (path a) (path b) ≡ o
          → (leads_by slot r (path a) (k ∷ path b) (strip (path a) (k ∷ path b)) ≡ walk_rest ss (chosen t)) × Fits (chosen t)
      by true e None h = absurd (clash (e ∙ ap is_some h))
      by true e (Some w) h =
          let way = stripped (path a) w (Some k) (path b) (strip_some (path a) (path b) w h) in (
            ap (leads_by slot r (path a) (k ∷ path b)) way
                ∙ ap (down_by r P (path a)) (sym way),
            (some_of (slice_get ss a) ia, some_of (slice_get ss b) ib, some_of (strip (path a) (path b)) (sym e)),
          )
      by false e o h = (root (strip (path a) (k ∷ path b)) refl (sym e) ∙ sym (from_top slot r b k (path b) (Some k) refl), fits_top r slot b (Some k) ib)

  -- and one to the subtree itself
  pub root_is : (slot r a : ℕ) → leads_to_at slot r (path a) [] ≡ LeadsTop r ∷ []
  root_is slot r a = by (strip (path a) []) refl
    where
      by : (o : Option Path) → strip (path a) [] ≡ o → leads_by slot r (path a) [] o ≡ LeadsTop r ∷ []
      by None h = refl
      by (Some []) h = refl
      by (Some (k ∷ w)) h = none (strip_some (path a) [] (k ∷ w) h)
        where
          none : [] ≡ k ∷ (w ++ path a) → leads_by slot r (path a) [] (Some (k ∷ w)) ≡ LeadsTop r ∷ []
          none e = absurd cc
