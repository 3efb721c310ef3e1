-- From an empty place fewer are left behind.
use Rattle.std.proofs.Common.{◌≡◌, ℕ, zero, suc, ◌+◌, ◌*◌, ◌-◌, ◌<◌, ◌≤◌, ◌⊎◌, inl, inr, Bool, true, false, cond, ltb, ◌==◌, ◌&&◌, ◌^◌, not, List, [], ◌∷◌}
use Rattle.std.proofs.Common.{◌++◌, drop, length, Option, Some, None, is_none, refl, sym, ap, subst, ◌∙◌, arith}
use Rattle.std.specs.Prelude.{slice_get, nat_lt}
use Rattle.std.proofs.lemmas.Bool.{and_parts, cases_lt, lt-ltb, le-ltb}
use Rattle.fk_image.specs.declared.image.image.SpaceRec.{SpaceRec}
use Rattle.fk_image.specs.declared.image.image.Image.{Image}
use Rattle.fk_image.specs.Image.Links.{all_lead}
use Rattle.fk_image.specs.Image.Preorder.{root_path, after_space}
use Rattle.fk_image.specs.Image.Valid.{all_from, fits_space, fits_spaces, is_valid}
use Rattle.fk_image.specs.Image.Picture.{space_path}
use Rattle.laws_restore.specs.Sites.Orders.{Order}
use Rattle.laws_restore.specs.Sites.Orders.Order.{Leads}
use Rattle.laws_restore.specs.Restore.Script as script
use Rattle.fk_restore.specs.declared.positions.position.Walk.{Walk, Walk as walks}
use Rattle.fk_restore.specs.declared.positions.position.Walk.TheVariants.{Done, Top, Down}
use Rattle.fk_restore.specs.declared.positions.position.Pass.{Pass, Pass as passes}
use Rattle.fk_restore.specs.declared.positions.position.Pass.TheVariants.{Spaces, Fills, Inward, Outward, Ties, Holds}
use Rattle.fk_restore.specs.declared.positions.position.Spot.{Spot, Spot as spots}
use Rattle.fk_restore.specs.declared.positions.position.Spot.TheVariants.{Before, Room, Part, After}
use Rattle.fk_restore.specs.declared.positions.position.Position.{Position}
use Rattle.fk_restore.specs.Positions.Walks.{walk_rest, walk_order, walk_next, last_order, slot_at, child_towards, goes}
use Rattle.fk_restore.specs.Positions.Passes.{visits, site, items_of, part_at, before, behind}
use Rattle.fk_restore.specs.Positions.Positions.{rest, spot_rest, order_at, next_of, IsPosition, listed, at, walked, next_pass, next_room, next_part, spot_next}
use Rattle.fk_restore.specs.Positions.Positions.{spot_order, is_walking}
use Rattle.fk_restore.specs.Orders.Left.{is_closing, is_empty, closes, rooms_left, item_left, spot_left, pass_left, outs_left, later, walk_left, places_left}
use Rattle.fk_restore.proofs.InPositions.Parted.{drop_at, drop_out}
use Rattle.fk_restore.proofs.InPositions.Scripted.{positions_are_the_places}

walk_small : (w : Walk) → walk_left w ≤ 1
walk_small Done = omega arith
walk_small (Top r) = omega arith
walk_small (Down r name from to last) = omega arith

-- where a list has nothing it is at an end
pub beyond : {A : Type 0} (xs : List A) (k : ℕ) → slice_get xs k ≡ None → length xs ≤ k
beyond [] k e = omega arith
beyond (x ∷ xs) zero e = absurd cc
beyond (x ∷ xs) (suc k) e = let le = beyond xs k e in omega (arith, le)

past : {A : Type 0} (xs : List A) (k : ℕ) → slice_get xs k ≡ None → ltb k (length xs) ≡ false
past xs k e = le-ltb k (length xs) (beyond xs k e)

module _ (ss : List SpaceRec) (slot : ℕ) (bind : ℕ → ℕ) where
  abbrev Less : Position → Pass → Spot → Type 0
  Less p pass spot = places_left ss p < (later ss pass + spot_left ss pass spot) * 2

  -- ---- from pass to pass

  outs_next : (i : ℕ) → i < 239 → outs_left ss (239 - i) (suc i) ≡ pass_left ss (passes.Outward (suc i)) + outs_left ss (239 - suc i) (suc (suc i))
  outs_next i lt = let more : 239 - i ≡ suc (239 - suc i) = omega (arith, lt) in ap (λ n. outs_left ss n (suc i)) more

  outs_end : (i : ℕ) → 239 ≤ i → outs_left ss (239 - i) (suc i) ≡ pass_left ss passes.Ties + pass_left ss passes.Holds
  outs_end i le = let none : 239 - i ≡ 0 = omega (arith, le) in ap (λ n. outs_left ss n (suc i)) none

  pub after_pass : (pass : Pass) (a k : ℕ) → closes walks.Done pass (spots.After k) ≡ false → Less (next_pass ss slot bind pass a) pass (spots.After k)
  after_pass Spaces a k more = omega arith
  after_pass Fills a k more = omega arith
  after_pass Inward a k more = omega arith
  after_pass Ties a k more = omega arith
  after_pass Holds a k more = absurd cc
  after_pass (Outward i) a k more = by (cases_lt i 239)
    where
      ahead : Bool → Position
      ahead t = cond t (at ss slot bind (passes.Outward (suc i)) a (spots.Before 0)) (at ss slot bind passes.Ties a (spots.Before 0))

      by : (i < 239) ⊎ (239 ≤ i) → Less (ahead (ltb i 239)) (passes.Outward i) (spots.After k)
      by (inl lt) = subst (λ t. Less (ahead t) (passes.Outward i) (spots.After k)) (sym (lt-ltb i 239 lt)) (let e = outs_next i lt in omega (arith, e))
      by (inr le) = subst (λ t. Less (ahead t) (passes.Outward i) (spots.After k)) (sym (le-ltb i 239 le)) (let e = outs_end i le in omega (arith, e))

  -- ---- from space to space

  rooms_next : (pass : Pass) (n : ℕ) (s : SpaceRec) → slice_get ss n ≡ Some s
      → rooms_left pass (drop n ss) ≡ (10 + items_of pass s * 8) + rooms_left pass (drop (suc n) ss)
  rooms_next pass n s here = ap (rooms_left pass) (drop_at ss n s here)

  item_here : (pass : Pass) (n j k : ℕ) (s : SpaceRec) → slice_get ss n ≡ Some s → item_left pass j k (slice_get ss n) ≡ (items_of pass s - j) * 8 + (7 - k)
  item_here pass n j k s here = ap (item_left pass j k) here

  after_room : (pass : Pass) (a n : ℕ) → Less (next_room ss slot bind pass a n (slice_get ss n)) pass (spots.Room n)
  after_room pass a n = by (slice_get ss n) refl
    where
      by : (o : Option SpaceRec) → slice_get ss n ≡ o → Less (next_room ss slot bind pass a n o) pass (spots.Room n)
      by None here = omega arith
      by (Some s) here = visit (visits ss pass n s)
        where
          first : Bool → Spot
          first t = cond t (spots.Part n 0 0) (spots.Room (suc n))

          enters : Bool → Position
          enters t = record { walk = goes ss slot a (site pass n s); pass = pass; spot = first t; stands = site pass n s }

          enter : (t : Bool) → Less (enters t) pass (spots.Room n)
          enter true =
              let e = rooms_next pass n s here in let f = item_here pass n 0 0 s here in
              let w = walk_small (goes ss slot a (site pass n s)) in omega (arith, e, f, w)
          enter false = let e = rooms_next pass n s here in let w = walk_small (goes ss slot a (site pass n s)) in omega (arith, e, w)

          visit : (t : Bool) → Less (cond t (enters (nat_lt 0 (items_of pass s))) (at ss slot bind pass a (spots.Room (suc n)))) pass (spots.Room n)
          visit true = enter (nat_lt 0 (items_of pass s))
          visit false = let e = rooms_next pass n s here in omega (arith, e)

  after_part : (pass : Pass) (a n j k : ℕ) → Less (next_part ss slot bind pass a n j k (slice_get ss n)) pass (spots.Part n j k)
  after_part pass a n j k = by (slice_get ss n) refl
    where
      by : (o : Option SpaceRec) → slice_get ss n ≡ o → Less (next_part ss slot bind pass a n j k o) pass (spots.Part n j k)
      by None here = omega arith
      by (Some s) here = part (cases_lt k 6)
        where
          walk : Walk
          walk = walked ss slot bind (part_at ss slot bind n s pass j k)

          walking : Position
          walking = record { walk = walk; pass = pass; spot = spots.Part n j (suc k); stands = a }

          moving : Bool → Position
          moving t = cond t (at ss slot bind pass a (spots.Part n (suc j) 0)) (at ss slot bind pass a (spots.Room (suc n)))

          now : item_left pass j k (slice_get ss n) ≡ (items_of pass s - j) * 8 + (7 - k)
          now = item_here pass n j k s here

          item : (suc j < items_of pass s) ⊎ (items_of pass s ≤ suc j) → Less (moving (ltb (suc j) (items_of pass s))) pass (spots.Part n j k)
          item (inl lt) =
              let more : items_of pass s - j ≡ suc (items_of pass s - suc j) = omega (arith, lt) in
              let ahead = item_here pass n (suc j) 0 s here in
              subst (λ t. Less (moving t) pass (spots.Part n j k)) (sym (lt-ltb (suc j) (items_of pass s) lt)) (omega (arith, now, ahead, more))
          item (inr le) = subst (λ t. Less (moving t) pass (spots.Part n j k)) (sym (le-ltb (suc j) (items_of pass s) le)) (omega (arith, now))

          part : (k < 6) ⊎ (6 ≤ k) → Less (cond (ltb k 6) walking (moving (ltb (suc j) (items_of pass s)))) pass (spots.Part n j k)
          part (inl lt) =
              let ahead = item_here pass n j (suc k) s here in
              let small = walk_small walk in
              subst (λ t. Less (cond t walking (moving (ltb (suc j) (items_of pass s)))) pass (spots.Part n j k)) (sym (lt-ltb k 6 lt))
              (omega (arith, now, ahead, small, lt))
          part (inr le) =
              subst (λ t. Less (cond t walking (moving (ltb (suc j) (items_of pass s)))) pass (spots.Part n j k)) (sym (le-ltb k 6 le))
              (item (cases_lt (suc j) (items_of pass s)))

  -- ---- any empty place

  spot_falls : (pass : Pass) (a : ℕ) (spot : Spot) → spot_order ss slot bind pass spot ≡ None → closes walks.Done pass spot ≡ false
      → Less (spot_next ss slot bind pass a spot) pass spot
  spot_falls pass a (Before k) none more =
      subst (λ t. Less (cond t (at ss slot bind pass a (spots.Before (suc k))) (at ss slot bind pass a (spots.Room 0))) pass (spots.Before k))
      (sym (past (before ss slot bind pass) k none)) (omega arith)
  spot_falls pass a (Room n) none more = after_room pass a n
  spot_falls pass a (Part n j k) none more = after_part pass a n j k
  spot_falls pass a (After k) none more =
      subst (λ t. Less (cond t (at ss slot bind pass a (spots.After (suc k))) (next_pass ss slot bind pass a)) pass (spots.After k))
      (sym (past (behind ss pass) k none)) (after_pass pass a k more)

  -- a walk without an order is at its end
  walk_ends : (w : Walk) → is_walking ss slot bind w ≡ true → walk_order ss w ≡ None → walk_left (walk_next ss w) < walk_left w
  walk_ends Done on none = absurd cc
  walk_ends (Top r) on none = absurd cc
  walk_ends (Down r name from to last) on none = by (from == to) none
    where
      by : (t : Bool) → cond t (last_order r name (space_path ss to) last) (Some (Leads r name (space_path ss from) (slot_at ss (child_towards ss from to))))
          ≡ None → walk_left (cond t walks.Done (walks.Down r r (child_towards ss from to) to last)) < 1
      by true none = omega arith
      by false none = absurd cc

  pub falls : (p : Position) → order_at ss slot bind p ≡ None → is_closing p ≡ false → places_left ss (next_of ss slot bind p) < places_left ss p
  falls p none more = by p.walk none more
    where
      by : (w : Walk) → cond (is_walking ss slot bind w) (walk_order ss w) (spot_order ss slot bind p.pass p.spot) ≡ None → closes w p.pass p.spot ≡ false →
          places_left ss (cond (is_walking ss slot bind w) (record p { walk = walk_next ss w }) (spot_next ss slot bind p.pass p.stands p.spot)) <
          (later ss p.pass + spot_left ss p.pass p.spot) * 2 + walk_left w
      by Done none more = let less = spot_falls p.pass p.stands p.spot none more in omega (arith, less)
      by (Top r) none more = absurd cc
      by (Down r name from to last) none more = let less = walk_ends (walks.Down r name from to last) refl none in omega (arith, less)

-- ---- what is left stays

pub stays : (i : Image) (slot : ℕ) (bind : ℕ → ℕ) (p : Position) → is_valid i ≡ true → IsPosition i.spaces slot bind p → order_at i.spaces slot bind p ≡ None →
    (rest i.spaces slot bind p ≡ rest i.spaces slot bind (next_of i.spaces slot bind p)) × IsPosition i.spaces slot bind (next_of i.spaces slot bind p)
stays i slot bind p valid good none =
    let step = positions_are_the_places i slot bind p valid good in
    (step.0 ∙ ap (λ o. listed i.spaces slot bind o ++ rest i.spaces slot bind (next_of i.spaces slot bind p)) none, step.1)

-- where no order is left
over_at : (k : ℕ) → slice_get script.closes k ≡ None → drop k script.closes ++ [] ≡ []
over_at k none = ap (λ (os : List Order). os ++ []) (out script.closes k none)
  where
    out : (os : List Order) (k : ℕ) → slice_get os k ≡ None → drop k os ≡ []
    out [] k none = drop_out [] k (omega arith)
    out (o ∷ os) zero none = absurd cc
    out (o ∷ os) (suc k) none = out os k none

pub ends : (ss : List SpaceRec) (slot : ℕ) (bind : ℕ → ℕ) (p : Position) → is_closing p ≡ true → order_at ss slot bind p ≡ None → rest ss slot bind p ≡ []
ends ss slot bind p last none = by p.walk p.pass p.spot last none
  where
    by : (w : Walk) (pass : Pass) (spot : Spot) → closes w pass spot ≡ true
        → cond (is_walking ss slot bind w) (walk_order ss w) (spot_order ss slot bind pass spot) ≡ None →
        walk_rest ss w ++ spot_rest ss slot bind pass p.stands spot ≡ []
    by Done Holds (After k) last none = over_at k none
    by Done Holds (Before k) last none = absurd cc
    by Done Holds (Room n) last none = absurd cc
    by Done Holds (Part n j k) last none = absurd cc
    by Done Spaces spot last none = absurd cc
    by Done Fills spot last none = absurd cc
    by Done Inward spot last none = absurd cc
    by Done (Outward i) spot last none = absurd cc
    by Done Ties spot last none = absurd cc
    by (Top r) pass spot last none = absurd cc
    by (Down r name from to to_slot) pass spot last none = absurd cc

-- an order that stands there is the next
pub stands : (i : Image) (slot : ℕ) (bind : ℕ → ℕ) (p : Position) (o : Order) → is_valid i ≡ true → IsPosition i.spaces slot bind p
    → order_at i.spaces slot bind p ≡ Some o →
    (rest i.spaces slot bind p ≡ o ∷ rest i.spaces slot bind (next_of i.spaces slot bind p)) × IsPosition i.spaces slot bind (next_of i.spaces slot bind p)
stands i slot bind p o valid good some =
    let step = positions_are_the_places i slot bind p valid good in
    (step.0 ∙ ap (λ o. listed i.spaces slot bind o ++ rest i.spaces slot bind (next_of i.spaces slot bind p)) some, step.1)

-- what the code's test says
pub empty_parts : (p : Position) (o : Option Order) → is_empty p o ≡ true → (is_closing p ≡ false) × (o ≡ None)
empty_parts p o e = by (is_closing p) o e
  where
    by : (c : Bool) (o : Option Order) → (not c && is_none o) ≡ true → (c ≡ false) × (o ≡ None)
    by false None e = (refl, refl)
    by false (Some o) e = absurd cc
    by true o e = absurd cc

-- a valid image has few spaces
pub few : (i : Image) → is_valid i ≡ true → length i.spaces < 2 ^ 32
unfolding is_valid
few i valid =
    let both = and_parts (fits_spaces i.spaces) (all_lead i.spaces) valid in
    let parts = and_parts (ltb 0 (length i.spaces) && ltb (length i.spaces) (2 ^ 32)) (all_from after_space fits_space ([], root_path) i.spaces) both.0 in
    by (cases_lt (length i.spaces) (2 ^ 32)) (and_parts (ltb 0 (length i.spaces)) (ltb (length i.spaces) (2 ^ 32)) parts.0).1
  where
    by : (length i.spaces < 2 ^ 32) ⊎ (2 ^ 32 ≤ length i.spaces) → ltb (length i.spaces) (2 ^ 32) ≡ true → length i.spaces < 2 ^ 32
    by (inl lt) is = lt
    by (inr le) is = let no = le-ltb (length i.spaces) (2 ^ 32) le in absurd cc
