-- Paths: the open path behind spaces in order says which space may follow.
use Rattle.std.proofs.Common.{◌≡◌, ℕ, zero, suc, ◌+◌, ◌-◌, ◌<◌, ◌≤◌, ◌⊎◌, ◌↔◌, inl, inr, Bool, true, false, cond, not, ◌&&◌, ◌||◌, ◌==◌, nat_lt, List, [], ◌∷◌}
use Rattle.std.proofs.Common.{◌++◌, length, take, drop}
use Rattle.std.proofs.Common.{Option, Some, None, is_some, refl, sym, ap, subst, ◌∙◌, arith, eqb-true}
use Rattle.std.specs.Prelude.{slice_get}
use Rattle.std.specs.List.{list_all}
use Rattle.std.proofs.lemmas.Bool.{lt-ltb, le-ltb, ltb-true, ltb-false, eqb-false}
use Rattle.std.proofs.lemmas.List.{length-append}
use Rattle.fk_image.specs.declared.image.image.SpaceRec.{SpaceRec}
use Rattle.fk_image.specs.declared.image.open.Open.{Open}
use Rattle.fk_image.specs.Image.Preorder.{from, first_floor, room_under, has_room, root_path, after_entering, path_after}
use Rattle.fk_image.specs.Image.Links.{kind_in_space, is_space_within}
use Rattle.fk_image.specs.Form.Order.{LiesIn, IsWithin, Follows, AreInOrder}
use Rattle.fk_image.specs.Form.Order.IsWithin.{Itself, Beneath}
use Rattle.laws_image_faults.specs.Images.{is_above_brothers}
use Rattle.laws_image_faults.proofs.Order.{get-low, get-first, get-behind, get-last, take-first, take-whole, low, within-le, counted, within-counted}

-- a lowest slot behind those of all that lie in a space
abbrev Floor : List SpaceRec → ℕ → ℕ → Type 0
Floor done number floor = (k : ℕ) → (floor ≤ k) ↔ ((slot n : ℕ) → LiesIn done number slot n → slot < k)

-- the open path from a space upwards
pub data IsPath (done : List SpaceRec) : ℕ → List Open → Type 0 where
  Top : (floor : ℕ) → Floor done 0 floor → IsPath done 0 (record { space = 0; floor = floor } ∷ [])
  Up : (p k n floor : ℕ) (up : List Open) → LiesIn done p k n → p < n → Floor done n floor → IsPath done p up →
      IsPath done n (record { space = n; floor = floor } ∷ up)

abbrev Found : List SpaceRec → ℕ → ℕ → List Open → Type 0
Found done last p path = (IsWithin done p last × IsPath done p path) ⊎ ((IsWithin done p last → ⊥) × (path ≡ []))

within-top : (done : List SpaceRec) (p last : ℕ) → last ≡ 0 → IsWithin done p last → p ≡ 0
within-top done p _ is Itself = is
within-top done p _ is (Beneath q k n l w) = let no = l.inner in absurd (omega (arith, no, is))

one-space : (a b : SpaceRec) → Some a ≡ Some b → a ≡ b
one-space a b e = cc

one-parent : (done : List SpaceRec) (p q k j n : ℕ) → LiesIn done p k n → LiesIn done q j n → p ≡ q
one-parent done p q k j n l m =
    sym l.parent_is ∙ ap (λ (s : SpaceRec). s.parent) (one-space l.space m.space (sym l.there ∙ m.there)) ∙ m.parent_is

found : (done : List SpaceRec) (last : ℕ) (path : List Open) → IsPath done last path → (p : ℕ) → Found done last p (from p path)
unfolding from
found done _ _ (Top floor f) p = by (0 == p) refl
  where
    by : (b : Bool) → (0 == p) ≡ b → Found done 0 p (cond b (record { space = 0; floor = floor } ∷ []) [])
    by true is = let same : 0 ≡ p = eqb-true 0 p is in
        inl (subst (λ (q : ℕ). IsWithin done q 0) same Itself, subst (λ (q : ℕ). IsPath done q (record { space = 0; floor = floor } ∷ [])) same (Top floor f))
    by false is = let no = eqb-false 0 p is in inr ((λ w. no (sym (within-top done p 0 refl w))), refl)
found done _ _ (Up q k n floor up l lt f path) p = by (n == p) refl (found done q up path p)
  where
    other : (m : ℕ) → m ≡ n → (n ≡ p → ⊥) → (IsWithin done p q → ⊥) → IsWithin done p m → ⊥
    other _ is differ none Itself = differ (sym is)
    other _ is differ none (Beneath r j m h w) =
        let here : LiesIn done r j n = subst (LiesIn done r j) is h in
        none (subst (IsWithin done p) (one-parent done r q j k n here l) w)

    by : (b : Bool) → (n == p) ≡ b → Found done q p (from p up) → Found done n p (cond b (record { space = n; floor = floor } ∷ up) (from p up))
    by true is more = let same : n ≡ p = eqb-true n p is in
        inl (
          subst (λ (r : ℕ). IsWithin done r n) same Itself,
          subst (λ (r : ℕ). IsPath done r (record { space = n; floor = floor } ∷ up)) same (Up q k n floor up l lt f path),
        )
    by false is (inl h) = inl (Beneath q k n l h.0, h.1)
    by false is (inr h) = inr ((λ w. other n refl (eqb-false n p is) h.0 w), h.1)

room-of : (done : List SpaceRec) (p : ℕ) (path : List Open) → IsPath done p path → (floor : ℕ) × (first_floor path ≡ Some floor) × Floor done p floor
room-of done _ _ (Top floor f) = (floor, refl, f)
room-of done _ _ (Up q k n floor up l lt f path) = (floor, refl, f)

-- ---- tests

pub same-test : (a b : Bool) → (a ≡ true → b ≡ true) → (b ≡ true → a ≡ true) → a ≡ b
same-test true true go back = refl
same-test false false go back = refl
same-test true false go back = sym (go refl)
same-test false true go back = back refl

pub not-both : (b : Bool) → b ≡ true → b ≡ false → ⊥
not-both b is isnt = absurd cc

pub none-some : {X : Type 0} (o : Option X) → is_some o ≡ false → o ≡ None
none-some None e = refl
none-some (Some x) e = absurd cc

brothers-to : (p slot : ℕ) (ss : List SpaceRec) → list_all (λ (s : SpaceRec). not (s.parent == p) || nat_lt s.slot slot) ss ≡ true
    → (n : ℕ) (s : SpaceRec) → slice_get ss n ≡ Some s → s.parent ≡ p → s.slot < slot
brothers-to p slot [] all n s e is = absurd cc
brothers-to p slot (t ∷ ss) all zero s e is = by (t.parent == p) refl (nat_lt t.slot slot) refl all
  where
    same : t ≡ s
    same = cc

    by : (a : Bool) → (t.parent == p) ≡ a → (b : Bool) → nat_lt t.slot slot ≡ b
        → ((not a || b) && list_all (λ (s : SpaceRec). not (s.parent == p) || nat_lt s.slot slot) ss) ≡ true → s.slot < slot
    by a f true g all = subst (λ (s : SpaceRec). s.slot < slot) same (ltb-true t.slot slot g)
    by true f false g all = absurd cc
    by false f false g all = absurd (eqb-false t.parent p f (ap (λ (s : SpaceRec). s.parent) same ∙ is))
brothers-to p slot (t ∷ ss) all (suc n) s e is = brothers-to p slot ss (rest (not (t.parent == p) || nat_lt t.slot slot) all) n s e is
  where
    rest : (a : Bool) → (a && list_all (λ (s : SpaceRec). not (s.parent == p) || nat_lt s.slot slot) ss) ≡ true
        → list_all (λ (s : SpaceRec). not (s.parent == p) || nat_lt s.slot slot) ss ≡ true
    rest true is = is
    rest false is = absurd cc

brothers-from : (p slot : ℕ) (ss : List SpaceRec) → ((n : ℕ) (s : SpaceRec) → slice_get ss n ≡ Some s → s.parent ≡ p → s.slot < slot)
    → list_all (λ (s : SpaceRec). not (s.parent == p) || nat_lt s.slot slot) ss ≡ true
brothers-from p slot [] each = refl
brothers-from p slot (t ∷ ss) each = by (t.parent == p) refl (brothers-from p slot ss (λ n s e is. each (suc n) s e is))
  where
    by : (a : Bool) → (t.parent == p) ≡ a → list_all (λ (s : SpaceRec). not (s.parent == p) || nat_lt s.slot slot) ss ≡ true
        → ((not a || nat_lt t.slot slot) && list_all (λ (s : SpaceRec). not (s.parent == p) || nat_lt s.slot slot) ss) ≡ true
    by true is rest = rw (lt-ltb t.slot slot (each 0 t refl (eqb-true t.parent p is)), rest) refl
    by false is rest = rest

drop-one : {X : Type 0} (xs : List X) (n : ℕ) → slice_get (drop 1 xs) n ≡ slice_get xs (suc n)
drop-one [] n = refl
drop-one (x ∷ xs) n = refl

pub above-to : (done : List SpaceRec) (p slot : ℕ) → is_above_brothers done p slot ≡ true → (k n : ℕ) → LiesIn done p k n → k < slot
above-to done p slot all k zero l = let no = l.inner in absurd (omega (arith, no))
above-to done p slot all k (suc n) l =
    subst (λ (k : ℕ). k < slot) l.slot_is (brothers-to p slot (drop 1 done) all n l.space (drop-one done n ∙ l.there) l.parent_is)

pub above-from : (done : List SpaceRec) (p slot : ℕ) → ((k n : ℕ) → LiesIn done p k n → k < slot) → is_above_brothers done p slot ≡ true
above-from done p slot each = brothers-from p slot (drop 1 done)
    (λ n s e is. each s.slot (suc n) (record { space = s; inner = omega arith; there = sym (drop-one done n) ∙ e; parent_is = is; slot_is = refl }))

-- ---- what the path says

pub record Good (done : List SpaceRec) (path : List Open) : Type 0 where
  pub some : 0 < length done
  pub order : AreInOrder done
  pub way : IsPath done (length done - 1) path

module _ (done : List SpaceRec) (path : List Open) (good : Good done path) where
  abbrev last : ℕ
  last = length done - 1

  last-low : last < length done
  last-low = let some = good.some in omega (arith, some)

  abbrev Roomed : ℕ → List Open → Type 0
  Roomed p path = (is_some (first_floor path) ≡ is_space_within done p last)
      × ((slot : ℕ) → is_some (first_floor path) ≡ true → has_room (first_floor path) slot ≡ is_above_brothers done p slot)

  roomed : (p : ℕ) (q : List Open) → Found done last p q → Roomed p q
  roomed p q (inr h) = subst (Roomed p) (sym h.1) (here (is_space_within done p last) refl, λ slot e. absurd cc)
    where
      here : (b : Bool) → is_space_within done p last ≡ b → false ≡ is_space_within done p last
      here true is = absurd (h.0 (within-counted done good.order p last last-low is))
      here false is = sym is
  roomed p q (inl h) = by (room-of done p q h.1)
    where
      by : (floor : ℕ) × (first_floor q ≡ Some floor) × Floor done p floor → Roomed p q
      by r = (ap is_some r.1 ∙ sym (counted done good.order p last last-low h.0), slots)
        where
          above : {slot floor : ℕ} (b : Bool) → nat_lt slot floor ≡ b → not b ≡ true → floor ≤ slot
          above {slot} {floor} true is e = absurd cc
          above {slot} {floor} false is e = ltb-false slot floor is

          slots : (slot : ℕ) → is_some (first_floor q) ≡ true → has_room (first_floor q) slot ≡ is_above_brothers done p slot
          slots slot e = ap (λ o. has_room o slot) r.1 ∙ same-test (not (nat_lt slot r.0)) (is_above_brothers done p slot)
              (λ is. above-from done p slot ((r.2 slot).0 (above (nat_lt slot r.0) refl is)))
              (λ is. ap not (le-ltb slot r.0 ((r.2 slot).1 (above-to done p slot is))))

  pub room-some : (p : ℕ) → is_some (room_under path p) ≡ is_space_within done p (length done - 1)
  room-some p = (roomed p (from p path) (found done last path good.way p)).0

  pub room-slot : (p slot : ℕ) → is_some (room_under path p) ≡ true → has_room (room_under path p) slot ≡ is_above_brothers done p slot
  room-slot p slot = (roomed p (from p path) (found done last path good.way p)).1 slot

  pub may-follow : (s : SpaceRec) → is_space_within done s.parent (length done - 1) ≡ true → is_above_brothers done s.parent s.slot ≡ true
      → kind_in_space done s.parent s.slot ≡ None → Follows done s
  may-follow s parent slot free = record {
    parent = within-counted done good.order s.parent last last-low parent;
    rises = above-to done s.parent s.slot slot;
    free = free;
  }

  pub follows-within : (s : SpaceRec) → Follows done s → is_space_within done s.parent (length done - 1) ≡ true
  follows-within s f = counted done good.order s.parent last last-low f.parent

  pub follows-above : (s : SpaceRec) → Follows done s → is_above_brothers done s.parent s.slot ≡ true
  follows-above s f = above-from done s.parent s.slot f.rises

  -- ---- one more space

  module _ (s : SpaceRec) (f : Follows done s) where
    abbrev more : List SpaceRec
    more = done ++ s ∷ []

    parent-low : s.parent < length done
    parent-low =
        let le = within-le done (length done) s.parent last last-low (λ p k m lt l. low done good.order p k m l) f.parent in
        let lt = last-low in
        omega (arith, le, lt)

    lies-kept : (p k n : ℕ) → LiesIn done p k n → LiesIn more p k n
    lies-kept p k n l = let lt = get-low done n l.space l.there in
        record { space = l.space; inner = l.inner; there = get-first done (s ∷ []) n lt ∙ l.there; parent_is = l.parent_is; slot_is = l.slot_is }

    lies-new : LiesIn more s.parent s.slot (length done)
    lies-new = record { space = s; inner = good.some; there = get-behind done s []; parent_is = refl; slot_is = refl }

    lies-more : (p k n : ℕ) → LiesIn more p k n → LiesIn done p k n ⊎ ((s.parent ≡ p) × (s.slot ≡ k) × (n ≡ length done))
    lies-more p k n l = by (get-last done s l.space n l.there)
      where
        by : (slice_get done n ≡ Some l.space) ⊎ ((s ≡ l.space) × (n ≡ length done)) → LiesIn done p k n ⊎ ((s.parent ≡ p) × (s.slot ≡ k) × (n ≡ length done))
        by (inl h) = inl (record { space = l.space; inner = l.inner; there = h; parent_is = l.parent_is; slot_is = l.slot_is })
        by (inr h) = inr (ap (λ (s : SpaceRec). s.parent) h.0 ∙ l.parent_is, ap (λ (s : SpaceRec). s.slot) h.0 ∙ l.slot_is, h.1)

    floor-kept : (n floor : ℕ) → n < s.parent → Floor done n floor → Floor more n floor
    floor-kept n floor lt old k = (
      (λ le slot m l. by slot ((old k).0 le) m (lies-more n slot m l)),
      (λ all. (old k).1 (λ slot m l. all slot m (lies-kept n slot m l))),
    )
      where
        by : (slot : ℕ) → ((slot n' : ℕ) → LiesIn done n slot n' → slot < k) → (m : ℕ)
            → LiesIn done n slot m ⊎ ((s.parent ≡ n) × (s.slot ≡ slot) × (m ≡ length done)) → slot < k
        by slot each m (inl l) = each slot m l
        by slot each m (inr h) = let is = h.0 in absurd (omega (arith, is, lt))

    floor-parent : Floor more s.parent (s.slot + 1)
    floor-parent k = ((λ le slot m l. by le slot (lies-more s.parent slot m l)), (λ all. let lt = all s.slot (length done) lies-new in omega (arith, lt)))
      where
        by : s.slot + 1 ≤ k → (slot : ℕ) {m : ℕ} → LiesIn done s.parent slot m ⊎ ((s.parent ≡ s.parent) × (s.slot ≡ slot) × (m ≡ length done)) → slot < k
        by le slot {m} (inl l) = let lt = f.rises slot m l in omega (arith, le, lt)
        by le slot (inr h) = let is = h.1 in omega (arith, is, le)

    floor-new : Floor more (length done) 0
    floor-new k = ((λ le slot m l. absurd (by (lies-more (length done) slot m l))), (λ all. omega arith))
      where
        by : {slot m : ℕ} → LiesIn done (length done) slot m ⊎ ((s.parent ≡ length done) × (s.slot ≡ slot) × (m ≡ length done)) → ⊥
        by {slot} {m} (inl l) = let up = low done good.order (length done) slot m l in let lt = get-low done m l.space l.there in omega (arith, up, lt)
        by (inr h) = let is = h.0 in let lt = parent-low in omega (arith, is, lt)

    path-kept : (n : ℕ) (up : List Open) → n < s.parent → IsPath done n up → IsPath more n up
    path-kept _ _ lt (Top floor g) = Top floor (floor-kept 0 floor lt g)
    path-kept _ _ lt (Up p k n floor up l less g path) =
        Up p k n floor up (lies-kept p k n l) less (floor-kept n floor lt g) (path-kept p up (omega (arith, less, lt)) path)

    entered : (n : ℕ) (q : List Open) → n ≡ s.parent → IsPath done n q → IsPath more (length done) (after_entering (length done) s.slot q)
    entered _ _ is (Top floor g) =
        Up 0 s.slot (length done) 0 (record { space = 0; floor = s.slot + 1 } ∷ []) (subst (λ p. LiesIn more p s.slot (length done)) (sym is) lies-new)
        good.some floor-new (Top (s.slot + 1) (subst (λ p. Floor more p (s.slot + 1)) (sym is) floor-parent))
    entered _ _ is (Up p k n floor up l less g path) =
        let lt = parent-low in
        Up n s.slot (length done) 0 (record { space = n; floor = s.slot + 1 } ∷ up) (subst (λ p. LiesIn more p s.slot (length done)) (sym is) lies-new)
        (omega (arith, is, lt)) floor-new
        (Up p k n (s.slot + 1) up (lies-kept p k n l) less (subst (λ p. Floor more p (s.slot + 1)) (sym is) floor-parent)
        (path-kept p up (omega (arith, less, is)) path))

    order-more : AreInOrder more
    order-more n t e = by (get-last done s t (suc n) e)
      where
        by : (slice_get done (suc n) ≡ Some t) ⊎ ((s ≡ t) × (suc n ≡ length done)) → Follows (take (suc n) more) t
        by (inl h) = let lt = get-low done (suc n) t h in
            subst (λ ss. Follows ss t) (sym (take-first done (s ∷ []) (suc n) (omega (arith, lt)))) (good.order n t h)
        by (inr h) =
            let is = h.1 in
            subst (λ t. Follows (take (suc n) more) t) h.0 (subst (λ ss. Follows ss s)
            (sym (take-first done (s ∷ []) (suc n) (omega (arith, is)) ∙ ap (λ m. take m done) is ∙ take-whole done)) f)

    path-more : IsPath more (length more - 1) (after_entering (length done) s.slot (from s.parent path))
    path-more =
        let long = length-append done (s ∷ []) in
        let end : length done ≡ length more - 1 = omega (arith, long) in
        subst (λ n. IsPath more n (after_entering (length done) s.slot (from s.parent path))) end (by (found done last path good.way s.parent))
      where
        by : Found done last s.parent (from s.parent path) → IsPath more (length done) (after_entering (length done) s.slot (from s.parent path))
        by (inl h) = entered s.parent (from s.parent path) refl h.1
        by (inr h) = absurd (h.0 f.parent)

pub good-more : (d : SpaceRec) (ds : List SpaceRec) (path : List Open) (s : SpaceRec) → Good (d ∷ ds) path → Follows (d ∷ ds) s
    → Good ((d ∷ ds) ++ s ∷ []) (path_after (d ∷ ds) s path)
good-more d ds path s good f = record {
  some = omega arith;
  order = order-more (d ∷ ds) path good s f;
  way = path-more (d ∷ ds) path good s f;
}

pub good-first : (d : SpaceRec) → Good (d ∷ []) root_path
good-first d = record {
  some = omega arith;
  order = λ n s e. absurd cc;
  way = Top 0 (λ k. ((λ le slot n l. absurd (none slot n l)), (λ all. omega arith)));
}
  where
    none : (slot n : ℕ) → LiesIn (d ∷ []) 0 slot n → ⊥
    none slot zero l = let no = l.inner in omega (arith, no)
    none slot (suc n) l = let no = l.there in absurd cc
