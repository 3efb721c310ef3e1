-- From a position on the orders are the one that stands there and those from the next on.
use Rattle.std.proofs.Common.{◌≡◌, ℕ, zero, suc, ◌+◌, ◌-◌, ◌<◌, ◌≤◌, ◌⊎◌, inl, inr, Bool, true, false, cond, ltb, ◌==◌, List, [], ◌∷◌, ◌++◌, drop}
use Rattle.std.proofs.Common.{length, Option, Some, None, is_some, refl, sym, ap, subst, ◌∙◌, arith}
use Rattle.std.specs.Prelude.{slice_get, IsSome}
use Rattle.std.proofs.lemmas.Bool.{cases_lt, lt-ltb, le-ltb}
use Rattle.fk_image.specs.declared.image.image.Link.{Link}
use Rattle.fk_image.specs.declared.image.image.Link.TheVariants.{Null, Dead, In, Out, Root, Outside}
use Rattle.fk_image.specs.declared.image.image.TalkRec.{TalkRec}
use Rattle.fk_image.specs.declared.image.image.FaultRec.{FaultRec}
use Rattle.fk_image.specs.declared.image.image.Rec.{Rec}
use Rattle.fk_image.specs.declared.image.image.ObjectRec.{ObjectRec}
use Rattle.fk_image.specs.declared.image.image.PageRec.{PageRec}
use Rattle.fk_image.specs.declared.image.image.SpaceRec.{SpaceRec}
use Rattle.fk_image.specs.Image.Picture.{space_path}
use Rattle.laws_restore.specs.Sites.Orders.{Order}
use Rattle.laws_restore.specs.Sites.Orders.Order.{Gives}
use Rattle.laws_restore.specs.Restore.Script.{P, T, U}
use Rattle.laws_pictures.specs.Tree.{IsTree}
use Rattle.laws_pictures.proofs.Numbers.{is_there, there_below}
use Rattle.laws_restore.proofs.InRooms.Beneath.{IsNested}
use Rattle.fk_restore.specs.declared.positions.position.Walk.{Walk, Walk as walks}
use Rattle.fk_restore.specs.declared.positions.position.Walk.TheVariants.{Done, Top, Down}
use Rattle.fk_restore.specs.declared.positions.position.Pass.{Pass, Pass as passes}
use Rattle.fk_restore.specs.declared.positions.position.Pass.TheVariants.{Spaces, Fills, Inward, Outward, Ties, Holds}
use Rattle.fk_restore.specs.declared.positions.position.Spot.{Spot, Spot as spots}
use Rattle.fk_restore.specs.declared.positions.position.Spot.TheVariants.{Before, Room, Part, After}
use Rattle.fk_restore.specs.declared.positions.position.Position.{Position}
use Rattle.fk_restore.specs.Positions.Walks.{walk_rest, walk_order, walk_next, goes, leads}
use Rattle.fk_restore.specs.Positions.Passes as words
use Rattle.fk_restore.specs.Positions.Passes.{visits, site, leads_within, items_of, LAST_PART, link_of, talk_of, fault_of, makes_part, fills_item, fills_part}
use Rattle.fk_restore.specs.Positions.Passes.{walks_to, points_to, inward_part, parks_talk_part, parks_fault_part, points_out_part, outward_part, is_pair}
use Rattle.fk_restore.specs.Positions.Passes.{talk_part, taken_part, fault_part, ties_part, holds_part, object_parts, part_at, items_from, before, behind}
use Rattle.fk_restore.specs.Positions.Passes.{pass_from, pass_end}
use Rattle.fk_restore.specs.Positions.Passes.Part.{Nothing, Walks, Asks}
use Rattle.fk_restore.specs.Positions.Positions.{onwards, from_outward, part_orders, parts_by, room_rest, part_rest, spot_rest, rest, asked, asked_in}
use Rattle.fk_restore.specs.Positions.Positions.{spot_order, is_walking, order_at, walked, at, next_pass, next_room, next_part, spot_next, next_of, IsWalk}
use Rattle.fk_restore.specs.Positions.Positions.{IsRoom, IsSpot, IsPass, IsPosition, listed}
use Rattle.fk_restore.proofs.InPositions.Walked.{listing, some_of, true_of, walk_is, goes_is, leads_is}
use Rattle.fk_restore.proofs.InPositions.Parted.{drop_at, drop_out, at_of, IsLinked, IsLinkedTalk, IsLinkedTaker, IsLinkedFault, IsLinkedRec}
use Rattle.fk_restore.proofs.InPositions.Itemed.{item_law, item_end}

some_is : {A : Type 0} (o : Option A) → IsSome o → (x : A) × (o ≡ Some x)
some_is None h = absurd cc
some_is (Some x) h = (x, refl)

pub assoc : (os ps rs : List Order) → (os ++ ps) ++ rs ≡ os ++ (ps ++ rs)
assoc [] ps rs = refl
assoc (o ∷ os) ps rs = ap (λ (all : List Order). o ∷ all) (assoc os ps rs)

module _ (ss : List SpaceRec) (tree : IsTree ss) (nested : IsNested ss)
    (linked : (n : ℕ) (s : SpaceRec) → slice_get ss n ≡ Some s → (j : ℕ) (o : ObjectRec) → slice_get s.objects j ≡ Some o → IsLinkedRec ss o.body)
    (holders : (n : ℕ) (s : SpaceRec) → slice_get ss n ≡ Some s → IsLinked ss s.holder) (slot : ℕ) (bind : ℕ → ℕ) where
  abbrev Is : ℕ → Type 0
  Is n = is_some (slice_get ss n) ≡ true

  abbrev left : Position → List Order
  left p = rest ss slot bind p

  abbrev Good : Position → Type 0
  Good p = IsPosition ss slot bind p

  -- what the law says of a position
  abbrev Law : Position → Option Order → Position → Type 0
  Law p o q = (left p ≡ listed ss slot bind o ++ left q) × Good q

  good : (pass : Pass) (a : ℕ) (spot : Spot) → IsPass ss slot bind pass → Is a → IsSpot ss slot bind pass a spot → Good (at ss slot bind pass a spot)
  good pass a spot p ia is = record { walk = tt; pass = p; spot = is; stands = some_of (slice_get ss a) ia }

  -- ---- lists of orders before and behind

  next_listed : (os : List Order) (k : ℕ) (tail : List Order) → k < length os
      → drop k os ++ tail ≡ listed ss slot bind (slice_get os k) ++ (drop (suc k) os ++ tail)
  next_listed os k tail lt =
      let o = at_of os k lt in
      ap (λ (os : List Order). os ++ tail) (drop_at os k o.item o.is) ∙ ap (λ x. listed ss slot bind x ++ (drop (suc k) os ++ tail)) (sym o.is)

  none_listed : (os : List Order) (k : ℕ) → length os ≤ k → slice_get os k ≡ None
  none_listed [] k le = refl
  none_listed (o ∷ os) zero le = absurd (omega (arith, le))
  none_listed (o ∷ os) (suc k) le = none_listed os k (omega (arith, le))

  end_listed : (os : List Order) (k : ℕ) (tail : List Order) → length os ≤ k → drop k os ++ tail ≡ listed ss slot bind (slice_get os k) ++ tail
  end_listed os k tail le = ap (λ (os : List Order). os ++ tail) (drop_out os k le) ∙ ap (λ x. listed ss slot bind x ++ tail) (sym (none_listed os k le))

  before_law : (pass : Pass) (a k : ℕ) → IsPass ss slot bind pass → Is a
      → Law (at ss slot bind pass a (spots.Before k)) (slice_get (before ss slot bind pass) k) (spot_next ss slot bind pass a (spots.Before k))
  before_law pass a k p ia = by (cases_lt k (length (before ss slot bind pass)))
    where
      by : (k < length (before ss slot bind pass)) ⊎ (length (before ss slot bind pass) ≤ k)
          → Law (at ss slot bind pass a (spots.Before k)) (slice_get (before ss slot bind pass) k) (spot_next ss slot bind pass a (spots.Before k))
      by (inl lt) =
          subst (λ t. Law (at ss slot bind pass a (spots.Before k)) (slice_get (before ss slot bind pass) k)
          (cond t (at ss slot bind pass a (spots.Before (suc k))) (at ss slot bind pass a (spots.Room 0))))
          (sym (lt-ltb k (length (before ss slot bind pass)) lt))
          (next_listed (before ss slot bind pass) k (room_rest ss slot bind pass a 0) lt, good pass a (spots.Before (suc k)) p ia tt)
      by (inr le) =
          subst (λ t. Law (at ss slot bind pass a (spots.Before k)) (slice_get (before ss slot bind pass) k)
          (cond t (at ss slot bind pass a (spots.Before (suc k))) (at ss slot bind pass a (spots.Room 0))))
          (sym (le-ltb k (length (before ss slot bind pass)) le))
          (end_listed (before ss slot bind pass) k (room_rest ss slot bind pass a 0) le, good pass a (spots.Room 0) p ia tt)

  -- ---- from pass to pass

  outward_more : (i a : ℕ) → i < 239 → from_outward ss slot bind (239 - i) (suc i) a ≡ spot_rest ss slot bind (passes.Outward (suc i)) a (spots.Before 0)
  outward_more i a lt = let next : 239 - i ≡ suc (239 - suc i) = omega (arith, lt) in ap (λ m. from_outward ss slot bind m (suc i) a) next

  outward_last : (i a : ℕ) → 239 ≤ i → from_outward ss slot bind (239 - i) (suc i) a ≡ spot_rest ss slot bind passes.Ties a (spots.Before 0)
  outward_last i a le = let none : 239 - i ≡ 0 = omega (arith, le) in ap (λ m. from_outward ss slot bind m (suc i) a) none

  pass_law : (pass : Pass) (a : ℕ) → IsPass ss slot bind pass → Is a
      → (onwards ss slot bind pass a ≡ left (next_pass ss slot bind pass a)) × Good (next_pass ss slot bind pass a)
  pass_law Spaces a p ia = (refl, good passes.Fills a (spots.Before 0) tt ia tt)
  pass_law Fills a p ia = (refl, good passes.Inward a (spots.Before 0) tt ia tt)
  pass_law Inward a p ia = (refl, good (passes.Outward 0) a (spots.Before 0) refl ia tt)
  pass_law (Outward i) a p ia = by (cases_lt i 239)
    where
      by : (i < 239) ⊎ (239 ≤ i) → (onwards ss slot bind (passes.Outward i) a ≡ left (next_pass ss slot bind (passes.Outward i) a))
          × Good (next_pass ss slot bind (passes.Outward i) a)
      by (inl lt) =
          subst (λ t. (onwards ss slot bind (passes.Outward i) a
          ≡ left (cond t (at ss slot bind (passes.Outward (suc i)) a (spots.Before 0)) (at ss slot bind passes.Ties a (spots.Before 0))))
          × Good (cond t (at ss slot bind (passes.Outward (suc i)) a (spots.Before 0)) (at ss slot bind passes.Ties a (spots.Before 0))))
          (sym (lt-ltb i 239 lt))
          (outward_more i a lt, good (passes.Outward (suc i)) a (spots.Before 0) (lt-ltb (suc i) 240 (omega (arith, lt))) ia tt)
      by (inr le) =
          subst (λ t. (onwards ss slot bind (passes.Outward i) a
          ≡ left (cond t (at ss slot bind (passes.Outward (suc i)) a (spots.Before 0)) (at ss slot bind passes.Ties a (spots.Before 0))))
          × Good (cond t (at ss slot bind (passes.Outward (suc i)) a (spots.Before 0)) (at ss slot bind passes.Ties a (spots.Before 0))))
          (sym (le-ltb i 239 le))
          (outward_last i a le, good passes.Ties a (spots.Before 0) tt ia tt)
  pass_law Ties a p ia = (refl, good passes.Holds a (spots.Before 0) tt ia tt)
  pass_law Holds a p ia = (refl, good passes.Holds a (spots.After (length (behind ss passes.Holds))) tt ia tt)

  after_law : (pass : Pass) (a k : ℕ) → IsPass ss slot bind pass → Is a
      → Law (at ss slot bind pass a (spots.After k)) (slice_get (behind ss pass) k) (spot_next ss slot bind pass a (spots.After k))
  after_law pass a k p ia = by (cases_lt k (length (behind ss pass)))
    where
      by : (k < length (behind ss pass)) ⊎ (length (behind ss pass) ≤ k)
          → Law (at ss slot bind pass a (spots.After k)) (slice_get (behind ss pass) k) (spot_next ss slot bind pass a (spots.After k))
      by (inl lt) =
          subst (λ t. Law (at ss slot bind pass a (spots.After k)) (slice_get (behind ss pass) k)
          (cond t (at ss slot bind pass a (spots.After (suc k))) (next_pass ss slot bind pass a))) (sym (lt-ltb k (length (behind ss pass)) lt))
          (next_listed (behind ss pass) k (onwards ss slot bind pass a) lt, good pass a (spots.After (suc k)) p ia tt)
      by (inr le) =
          let next = pass_law pass a p ia in
          subst (λ t. Law (at ss slot bind pass a (spots.After k)) (slice_get (behind ss pass) k)
          (cond t (at ss slot bind pass a (spots.After (suc k))) (next_pass ss slot bind pass a))) (sym (le-ltb k (length (behind ss pass)) le)) (
            end_listed (behind ss pass) k (onwards ss slot bind pass a) le
                ∙ ap (λ (os : List Order). listed ss slot bind (slice_get (behind ss pass) k) ++ os) next.0,
            next.1,
          )

  -- ---- from space to space

  site_there : (pass : Pass) (n : ℕ) (s : SpaceRec) → slice_get ss n ≡ Some s → visits ss pass n s ≡ true → Is (site pass n s)
  site_there Spaces zero s here e = absurd cc
  site_there Spaces (suc n) s here e = let low = tree.low n s here in
      there_below ss s.parent (suc n) (omega (arith, low)) (is_there (slice_get ss (suc n)) s here)
  site_there Fills n s here e = is_there (slice_get ss n) s here
  site_there Inward n s here e = is_there (slice_get ss n) s here
  site_there (Outward i) n s here e = is_there (slice_get ss n) s here
  site_there Ties n s here e = is_there (slice_get ss n) s here
  site_there Holds zero s here e = absurd cc
  site_there Holds (suc n) s here e = let low = tree.low n s here in
      there_below ss s.parent (suc n) (omega (arith, low)) (is_there (slice_get ss (suc n)) s here)

  abbrev from_items : Pass → ℕ → SpaceRec → ℕ → List Order
  from_items pass n s j = items_from ss slot bind n s pass j

  -- the items of a space from one on, if there are any
  items_law : (pass : Pass) (n : ℕ) (s : SpaceRec) (j : ℕ) (tail : List Order) → slice_get ss n ≡ Some s →
      from_items pass n s j ++ tail ≡ cond (ltb j (items_of pass s)) (parts_by ss slot bind 6 n s pass j 0 ++ (from_items pass n s (suc j) ++ tail)) tail
  items_law pass n s j tail here = by (cases_lt j (items_of pass s))
    where
      by : (j < items_of pass s) ⊎ (items_of pass s ≤ j)
          → from_items pass n s j ++ tail ≡ cond (ltb j (items_of pass s)) (parts_by ss slot bind 6 n s pass j 0 ++ (from_items pass n s (suc j) ++ tail)) tail
      by (inl lt) =
          ap (λ (os : List Order). os ++ tail) (item_law ss tree nested slot bind n s (is_there (slice_get ss n) s here) (linked n s here) pass j lt)
          ∙ assoc (parts_by ss slot bind 6 n s pass j 0) (from_items pass n s (suc j)) tail
          ∙ ap (λ t. cond t (parts_by ss slot bind 6 n s pass j 0 ++ (from_items pass n s (suc j) ++ tail)) tail) (sym (lt-ltb j (items_of pass s) lt))
      by (inr le) =
          ap (λ (os : List Order). os ++ tail) (item_end ss tree nested slot bind n s (is_there (slice_get ss n) s here) (linked n s here) pass j le)
          ∙ ap (λ t. cond t (parts_by ss slot bind 6 n s pass j 0 ++ (from_items pass n s (suc j) ++ tail)) tail) (sym (le-ltb j (items_of pass s) le))

  -- where an item or the next space is next
  abbrev item_or_room : Pass → ℕ → ℕ → ℕ → Bool → Spot
  item_or_room pass a n j t = cond t (spots.Part n j 0) (spots.Room (suc n))

  entered : (pass : Pass) (a n : ℕ) (s : SpaceRec) (j : ℕ) → slice_get ss n ≡ Some s → a ≡ site pass n s → (t : Bool) → ltb j (items_of pass s) ≡ t →
      (from_items pass n s j ++ room_rest ss slot bind pass a (suc n) ≡ spot_rest ss slot bind pass a (item_or_room pass a n j t))
      × IsSpot ss slot bind pass a (item_or_room pass a n j t)
  entered pass a n s j here stands t e = by t (items_law pass n s j (room_rest ss slot bind pass a (suc n)) here
      ∙ ap (λ t. cond t (parts_by ss slot bind 6 n s pass j 0 ++ (from_items pass n s (suc j) ++ room_rest ss slot bind pass a (suc n)))
      (room_rest ss slot bind pass a (suc n))) e)
    where
      by : (t : Bool) → from_items pass n s j ++ room_rest ss slot bind pass a (suc n)
          ≡ cond t (parts_by ss slot bind 6 n s pass j 0 ++ (from_items pass n s (suc j) ++ room_rest ss slot bind pass a (suc n)))
          (room_rest ss slot bind pass a (suc n)) →
          (from_items pass n s j ++ room_rest ss slot bind pass a (suc n) ≡ spot_rest ss slot bind pass a (item_or_room pass a n j t))
          × IsSpot ss slot bind pass a (item_or_room pass a n j t)
      by true h = (h ∙ ap (part_rest ss slot bind pass a n j 0) (sym here), subst (λ o. IsRoom ss slot bind pass a n o) (sym here) stands)
      by false h = (h, tt)

  room_law : (pass : Pass) (a n : ℕ) → IsPass ss slot bind pass → Is a
      → Law (at ss slot bind pass a (spots.Room n)) None (spot_next ss slot bind pass a (spots.Room n))
  room_law pass a n p ia = by (slice_get ss n) refl
    where
      by : (o : Option SpaceRec) → slice_get ss n ≡ o → Law (at ss slot bind pass a (spots.Room n)) None (next_room ss slot bind pass a n o)
      by None here = (
        ap (λ xs. pass_from ss slot bind pass a n xs ++ (behind ss pass ++ onwards ss slot bind pass (pass_end ss pass a n xs))) (none_there ss n here),
        good pass a (spots.After 0) p ia tt,
      )
        where
          none_there : (xs : List SpaceRec) (n : ℕ) → slice_get xs n ≡ None → drop n xs ≡ []
          none_there [] zero e = refl
          none_there [] (suc n) e = refl
          none_there (x ∷ xs) zero e = absurd cc
          none_there (x ∷ xs) (suc n) e = none_there xs n e
      by (Some s) here = visited (visits ss pass n s) refl
        where
          unfolded : (t : Bool) → visits ss pass n s ≡ t → room_rest ss slot bind pass a n
              ≡ cond t (walk_rest ss (goes ss slot a (site pass n s))
              ++ (from_items pass n s 0 ++ pass_from ss slot bind pass (site pass n s) (suc n) (drop (suc n) ss)))
              (pass_from ss slot bind pass a (suc n) (drop (suc n) ss))
              ++ (behind ss pass ++ onwards ss slot bind pass
              (cond t (pass_end ss pass (site pass n s) (suc n) (drop (suc n) ss)) (pass_end ss pass a (suc n) (drop (suc n) ss))))
          unfolded t e =
              ap (λ xs. pass_from ss slot bind pass a n xs ++ (behind ss pass ++ onwards ss slot bind pass (pass_end ss pass a n xs))) (drop_at ss n s here)
              ∙ ap (λ t. cond t (walk_rest ss (goes ss slot a (site pass n s))
              ++ (from_items pass n s 0 ++ pass_from ss slot bind pass (site pass n s) (suc n) (drop (suc n) ss)))
              (pass_from ss slot bind pass a (suc n) (drop (suc n) ss))
              ++ (behind ss pass ++ onwards ss slot bind pass
              (cond t (pass_end ss pass (site pass n s) (suc n) (drop (suc n) ss)) (pass_end ss pass a (suc n) (drop (suc n) ss))))) e

          visited : (t : Bool) → visits ss pass n s ≡ t → Law (at ss slot bind pass a (spots.Room n)) None (next_room ss slot bind pass a n (Some s))
          visited true e =
              let ib = site_there pass n s here e in
              let go = goes_is ss tree nested slot a (site pass n s) ia ib in
              let enter = entered pass (site pass n s) n s 0 here refl (ltb 0 (items_of pass s)) refl in
              subst (λ t. Law (at ss slot bind pass a (spots.Room n)) None
              (cond t (record {
                walk = goes ss slot a (site pass n s);
                pass = pass;
                spot = item_or_room pass a n 0 (ltb 0 (items_of pass s));
                stands = site pass n s;
              }) (at ss slot bind pass a (spots.Room (suc n))))) (sym e) (
                unfolded true e
                    ∙ assoc (walk_rest ss (goes ss slot a (site pass n s))) (from_items pass n s 0
                    ++ pass_from ss slot bind pass (site pass n s) (suc n) (drop (suc n) ss)) (behind ss pass
                    ++ onwards ss slot bind pass (pass_end ss pass (site pass n s) (suc n) (drop (suc n) ss)))
                    ∙ ap (λ (os : List Order). walk_rest ss (goes ss slot a (site pass n s)) ++ os)
                    (assoc (from_items pass n s 0) (pass_from ss slot bind pass (site pass n s) (suc n) (drop (suc n) ss)) (behind ss pass
                    ++ onwards ss slot bind pass (pass_end ss pass (site pass n s) (suc n) (drop (suc n) ss))) ∙ enter.0),
                record { walk = go.1; pass = p; spot = enter.1; stands = some_of (slice_get ss (site pass n s)) ib },
              )
          visited false e =
              subst (λ t. Law (at ss slot bind pass a (spots.Room n)) None
              (cond t (record {
                walk = goes ss slot a (site pass n s);
                pass = pass;
                spot = item_or_room pass a n 0 (ltb 0 (items_of pass s));
                stands = site pass n s;
              }) (at ss slot bind pass a (spots.Room (suc n))))) (sym e)
              (unfolded false e, good pass a (spots.Room (suc n)) p ia tt)

  -- ---- walks of parts

  module _ (n : ℕ) (s : SpaceRec) (here : slice_get ss n ≡ Some s) where
    abbrev F : words.Part → Type 0
    F part = IsWalk ss slot bind (walked ss slot bind part)

    if_fits : (t : Bool) (x y : words.Part) → F x → F y → F (cond t x y)
    if_fits true x y fx fy = fx
    if_fits false x y fx fy = fy

    leads_fits : (r a : ℕ) (to : Link) → Is a → IsLinked ss to → IsWalk ss slot bind (leads ss slot r a to)
    leads_fits r a (In k m) ia ib = (leads_is ss tree nested slot r a k m ia ib).1
    leads_fits r a Root ia ib = tt
    leads_fits r a Null ia ib = tt
    leads_fits r a Dead ia ib = tt
    leads_fits r a (Out k) ia ib = tt
    leads_fits r a Outside ia ib = tt

    is : Is n
    is = is_there (slice_get ss n) s here

    walks_fit : (r : ℕ) (to : Link) → IsLinked ss to → F (walks_to ss slot bind n s r n to)
    walks_fit r (In k m) ib = leads_fits r n (In k m) is ib
    walks_fit r Root ib = tt
    walks_fit r Null ib = tt
    walks_fit r Dead ib = tt
    walks_fit r (Out k) ib = tt
    walks_fit r Outside ib = tt

    points_fit : (x : ℕ) (to : Link) → F (points_to ss slot bind n s x to)
    points_fit x (In k m) = tt
    points_fit x Root = tt
    points_fit x Dead = tt
    points_fit x Null = tt
    points_fit x (Out k) = tt
    points_fit x Outside = tt

    object_fits : (order : ObjectRec → Order) (j : ℕ) (os : List ObjectRec) → F (words.object_part ss slot bind n s order j os)
    object_fits order j os = by (slice_get os j)
      where
        by : (o : Option ObjectRec) → F (elim o [ None ↦ Nothing | Some o ↦ Asks (order o) ])
        by None = tt
        by (Some o) = tt

    page_fits : (j : ℕ) → F (words.page_part ss slot bind n s j s.pages)
    page_fits j = by (slice_get s.pages j)
      where
        by : (o : Option PageRec) → F (elim o [ None ↦ Nothing | Some p ↦ Asks (Gives P (space_path ss n) p.page p.words) ])
        by None = tt
        by (Some o) = tt

    inward_fits : (r : Rec) → IsLinkedRec ss r → (x k : ℕ) → F (inward_part ss slot bind n s x r k)
    inward_fits r l x k = if_fits (k == 0) _ _ (walks_fit T (link_of r) l.link) (if_fits (k == 1) _ _ (points_fit x (link_of r)) tt)

    outward_fits : (i : ℕ) (r : Rec) (x k : ℕ) → F (outward_part ss slot bind n s i x r k)
    outward_fits i r x k = if_fits (k == 0) _ _ (if_fits (words.is_out ss slot bind n s i (link_of r)) _ Nothing tt tt)
        (if_fits (k == 1) _ _ (talk (talk_of r)) (if_fits (k == 2) _ _ (fault (fault_of r)) tt))
      where
        talk : (t : Option TalkRec) → F (parks_talk_part ss slot bind n s i x t)
        talk None = tt
        talk (Some t) = if_fits (words.is_out ss slot bind n s i t.port) _ Nothing tt tt

        fault : (t : Option FaultRec) → F (parks_fault_part ss slot bind n s i x t)
        fault None = tt
        fault (Some t) = if_fits (words.is_out ss slot bind n s i t.port) _ Nothing tt tt

    ties_fits : (r : Rec) → IsLinkedRec ss r → (x k : ℕ) → F (ties_part ss slot bind n s x r k)
    ties_fits r l x k = if_fits (ltb k 3) _ _ (talk (talk_of r) l.talk k) (if_fits (ltb k 6) _ _ (fault (fault_of r) l.fault (k - 3)) tt)
      where
        talk : (t : Option TalkRec) → IsLinkedTalk ss t → (k : ℕ) → F (talk_part ss slot bind n s x k t)
        talk None l k = tt
        talk (Some t) l k = if_fits (is_pair ss slot bind n s t.port t.server) _ Nothing
            (if_fits (k == 0) _ _ (walks_fit T t.port l.0) (if_fits (k == 1) _ _ (walks_fit U t.server l.1) tt)) tt

        taken : (f : FaultRec) (taker : Option Link) → IsLinked ss f.port → IsLinkedTaker ss taker → (k : ℕ) → F (taken_part ss slot bind n s x k f taker)
        taken f None a b k = if_fits (leads_within f.port) _ Nothing (if_fits (k == 0) _ _ (walks_fit T f.port a) (if_fits (k == 1) Nothing _ tt tt)) tt
        taken f (Some to) a b k = if_fits (is_pair ss slot bind n s f.port to) _ Nothing
            (if_fits (k == 0) _ _ (walks_fit T f.port a) (if_fits (k == 1) _ _ (walks_fit U to b) tt)) tt

        fault : (f : Option FaultRec) → IsLinkedFault ss f → (k : ℕ) → F (fault_part ss slot bind n s x k f)
        fault None l k = tt
        fault (Some f) l k = taken f f.taker l.0 l.1 k

    held_fits : (k : ℕ) → Is s.parent → F (holds_part ss slot bind n s k)
    held_fits k above = if_fits (leads_within s.holder) _ Nothing
        (if_fits (k == 0) _ _ (leads_fits T s.parent s.holder above (holders n s here)) (if_fits (k == 1) _ Nothing tt tt)) tt

    objects_fit : (parts : ℕ → Rec → ℕ → words.Part) → ((o : ObjectRec) → (j : ℕ) → slice_get s.objects j ≡ Some o → (k : ℕ) → F (parts o.slot o.body k))
        → (j k : ℕ) → F (object_parts ss slot bind n s parts j k)
    objects_fit parts each j k = by (slice_get s.objects j) refl
      where
        by : (o : Option ObjectRec) → slice_get s.objects j ≡ o → F (elim o [ None ↦ Nothing | Some o ↦ parts o.slot o.body k ])
        by None e = tt
        by (Some o) e = each o j e k

    part_fits : (pass : Pass) (a j k : ℕ) → Is a → a ≡ site pass n s → F (part_at ss slot bind n s pass j k)
    part_fits Spaces a j k ia up = if_fits (k == 0) _ Nothing tt tt
    part_fits Fills a j k ia up =
        if_fits (k == 0) _ Nothing
        (if_fits (ltb j (length s.objects)) _ _ (object_fits (words.makes_object ss slot bind n s) j s.objects)
        (if_fits (ltb j (length s.objects + length s.objects)) _ _ (object_fits (words.sets_object ss slot bind n s) (j - length s.objects) s.objects)
        (page_fits (j - (length s.objects + length s.objects))))) tt
    part_fits Inward a j k ia up = objects_fit (inward_part ss slot bind n s) (λ o j e k. inward_fits o.body (linked n s here j o e) o.slot k) j k
    part_fits (Outward i) a j k ia up = objects_fit (outward_part ss slot bind n s i) (λ o j e k. outward_fits i o.body o.slot k) j k
    part_fits Ties a j k ia up = objects_fit (ties_part ss slot bind n s) (λ o j e k. ties_fits o.body (linked n s here j o e) o.slot k) j k
    part_fits Holds a j k ia up = held_fits k (subst (λ m. Is m) up ia)

    -- ---- from part to part

    abbrev Tail : Pass → ℕ → ℕ → List Order
    Tail pass a j = items_from ss slot bind n s pass (suc j) ++ room_rest ss slot bind pass a (suc n)

    split : (part : words.Part) (rest : List Order)
        → part_orders ss slot bind part ++ rest ≡ listed ss slot bind (asked ss slot bind part) ++ (walk_rest ss (walked ss slot bind part) ++ rest)
    split Nothing rest = refl
    split (Walks walk) rest = refl
    split (Asks order) rest = refl

    part_law : (pass : Pass) (a j k : ℕ) → IsPass ss slot bind pass → Is a → a ≡ site pass n s →
        (part_rest ss slot bind pass a n j k (Some s) ≡ listed ss slot bind (asked_in ss slot bind pass n j k (Some s))
        ++ left (next_part ss slot bind pass a n j k (Some s))) × Good (next_part ss slot bind pass a n j k (Some s))
    part_law pass a j k p ia stands = by (cases_lt k 6)
      where
        walking : Position
        walking = record { walk = walked ss slot bind (part_at ss slot bind n s pass j k); pass = pass; spot = spots.Part n j (suc k); stands = a }

        moving : Bool → Position
        moving t = cond t (at ss slot bind pass a (spots.Part n (suc j) 0)) (at ss slot bind pass a (spots.Room (suc n)))

        in_room : IsRoom ss slot bind pass a n (slice_get ss n)
        in_room = subst (λ o. IsRoom ss slot bind pass a n o) (sym here) stands

        by : (k < 6) ⊎ (6 ≤ k) → (part_rest ss slot bind pass a n j k (Some s) ≡ listed ss slot bind (asked_in ss slot bind pass n j k (Some s))
            ++ left (next_part ss slot bind pass a n j k (Some s))) × Good (next_part ss slot bind pass a n j k (Some s))
        by (inl lt) =
            let more : 6 - k ≡ suc (6 - suc k) = omega (arith, lt) in
            subst (λ t. (part_rest ss slot bind pass a n j k (Some s)
            ≡ listed ss slot bind (cond t (asked ss slot bind (part_at ss slot bind n s pass j k)) None)
            ++ left (cond t walking (moving (ltb (suc j) (items_of pass s))))) × Good (cond t walking (moving (ltb (suc j) (items_of pass s)))))
            (sym (lt-ltb k 6 lt)) (
              ap (λ m. parts_by ss slot bind m n s pass j k ++ Tail pass a j) more
                  ∙ assoc (part_orders ss slot bind (part_at ss slot bind n s pass j k)) (parts_by ss slot bind (6 - suc k) n s pass j (suc k)) (Tail pass a j)
                  ∙ split (part_at ss slot bind n s pass j k) (parts_by ss slot bind (6 - suc k) n s pass j (suc k) ++ Tail pass a j)
                  ∙ ap (λ o. listed ss slot bind (asked ss slot bind (part_at ss slot bind n s pass j k))
                  ++ (walk_rest ss (walked ss slot bind (part_at ss slot bind n s pass j k)) ++ part_rest ss slot bind pass a n j (suc k) o)) (sym here),
              record { walk = part_fits pass a j k ia stands; pass = p; spot = in_room; stands = some_of (slice_get ss a) ia },
            )
        by (inr le) =
            let none : 6 - k ≡ 0 = omega (arith, le) in
            let enter = entered pass a n s (suc j) here stands (ltb (suc j) (items_of pass s)) refl in
            subst (λ t. (part_rest ss slot bind pass a n j k (Some s)
            ≡ listed ss slot bind (cond t (asked ss slot bind (part_at ss slot bind n s pass j k)) None)
            ++ left (cond t walking (moving (ltb (suc j) (items_of pass s))))) × Good (cond t walking (moving (ltb (suc j) (items_of pass s)))))
            (sym (le-ltb k 6 le)) (
              ap (λ m. parts_by ss slot bind m n s pass j k ++ Tail pass a j) none ∙ enter.0
                  ∙ spot_same (ltb (suc j) (items_of pass s)),
              spot_good (ltb (suc j) (items_of pass s)) enter.1,
            )
          where
            spot_same : (t : Bool) → spot_rest ss slot bind pass a (item_or_room pass a n (suc j) t) ≡ left (moving t)
            spot_same true = refl
            spot_same false = refl

            spot_good : (t : Bool) → IsSpot ss slot bind pass a (item_or_room pass a n (suc j) t) → Good (moving t)
            spot_good true h = good pass a (spots.Part n (suc j) 0) p ia h
            spot_good false h = good pass a (spots.Room (suc n)) p ia tt

  -- ---- any position

  spot_law : (pass : Pass) (a : ℕ) (spot : Spot) → IsPass ss slot bind pass → Is a → IsSpot ss slot bind pass a spot
      → Law (at ss slot bind pass a spot) (spot_order ss slot bind pass spot) (spot_next ss slot bind pass a spot)
  spot_law pass a (Before k) p ia fits = before_law pass a k p ia
  spot_law pass a (Room n) p ia fits = room_law pass a n p ia
  spot_law pass a (After k) p ia fits = after_law pass a k p ia
  spot_law pass a (Part n j k) p ia fits = by (slice_get ss n) refl fits
    where
      by : (o : Option SpaceRec) → slice_get ss n ≡ o → IsRoom ss slot bind pass a n o →
          (part_rest ss slot bind pass a n j k o ≡ listed ss slot bind (asked_in ss slot bind pass n j k o) ++ left (next_part ss slot bind pass a n j k o))
          × Good (next_part ss slot bind pass a n j k o)
      by None here fits = absurd fits
      by (Some s) here fits = part_law n s here pass a j k p ia fits

  pub position_law : (p : Position) → Good p → Law p (order_at ss slot bind p) (next_of ss slot bind p)
  position_law p g = by p.walk g.walk
    where
      walking : (walk : Walk) → IsWalk ss slot bind walk
          → (walk_rest ss walk ++ spot_rest ss slot bind p.pass p.stands p.spot ≡ listed ss slot bind (walk_order ss walk)
          ++ (walk_rest ss (walk_next ss walk) ++ spot_rest ss slot bind p.pass p.stands p.spot))
          × Good (record p { walk = walk_next ss walk })
      walking walk fits =
          let w = walk_is ss tree nested walk fits in (
            ap (λ (os : List Order). os ++ spot_rest ss slot bind p.pass p.stands p.spot) (w.0 ∙ same (walk_order ss walk))
                ∙ assoc (listed ss slot bind (walk_order ss walk)) (walk_rest ss (walk_next ss walk)) (spot_rest ss slot bind p.pass p.stands p.spot),
            record { walk = w.1; pass = g.pass; spot = g.spot; stands = g.stands },
          )
        where
          same : (o : Option Order) → listing ss tree nested o ++ walk_rest ss (walk_next ss walk) ≡ listed ss slot bind o ++ walk_rest ss (walk_next ss walk)
          same None = refl
          same (Some o) = refl

      by : (walk : Walk) → IsWalk ss slot bind walk
          → (walk_rest ss walk ++ spot_rest ss slot bind p.pass p.stands p.spot
          ≡ listed ss slot bind (cond (is_walking ss slot bind walk) (walk_order ss walk) (spot_order ss slot bind p.pass p.spot))
          ++ left (cond (is_walking ss slot bind walk) (record p { walk = walk_next ss walk }) (spot_next ss slot bind p.pass p.stands p.spot)))
          × Good (cond (is_walking ss slot bind walk) (record p { walk = walk_next ss walk }) (spot_next ss slot bind p.pass p.stands p.spot))
      by Done fits = spot_law p.pass p.stands p.spot g.pass (true_of (slice_get ss p.stands) g.stands) g.spot
      by (Top r) fits = walking (walks.Top r) fits
      by (Down r name from to last) fits = walking (walks.Down r name from to last) fits
