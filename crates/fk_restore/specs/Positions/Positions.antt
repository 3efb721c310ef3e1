-- What is left of the script from a position on, which order stands at it, and the next one.
use Rattle.std.specs.Prelude.{◌≡◌, ℕ, zero, suc, ◌-◌, Bool, true, false, nat_lt, IsSome, List, [], ◌∷◌, ◌++◌, drop, length, Option, Some, None}
use Rattle.std.specs.Prelude.{if◌then◌else◌, slice_get}
use Rattle.fk_model.specs.Places.{strip}
use Rattle.fk_image.specs.declared.image.image.SpaceRec.{SpaceRec}
use Rattle.fk_image.specs.Image.Picture.{space_path}
use Rattle.laws_restore.specs.Sites.Orders.{Order}
use Rattle.fk_restore.specs.declared.positions.position.Walk.{Walk, Walk as walks}
use Rattle.fk_restore.specs.declared.positions.position.Walk.TheVariants.{Done, Top, Down}
use Rattle.fk_restore.specs.declared.positions.position.Pass.{Pass, Pass as passes}
use Rattle.fk_restore.specs.declared.positions.position.Pass.TheVariants.{Spaces, Fills, Inward, Outward, Ties, Holds}
use Rattle.fk_restore.specs.declared.positions.position.Spot.{Spot, Spot as spots}
use Rattle.fk_restore.specs.declared.positions.position.Spot.TheVariants.{Before, Room, Part, After}
use Rattle.fk_restore.specs.declared.positions.position.Position.{Position}
use Rattle.fk_restore.specs.Positions.Walks.{walk_rest, walk_order, walk_next, goes}
use Rattle.fk_restore.specs.Positions.Passes as passes_words
use Rattle.fk_restore.specs.Positions.Passes.{visits, site, items_of, LAST_PART, part_at, items_from, before, behind, pass_from, pass_end}
use Rattle.fk_restore.specs.Positions.Passes.Part.{Nothing, Walks, Asks}

module _ (ss : List SpaceRec) (slot : ℕ) (bind : ℕ → ℕ) where
  -- ---- passes, one after the other, P standing at a space

  abbrev pub whole : Pass → ℕ → List Order → List Order
  whole pass a rest = before ss slot bind pass ++ (pass_from ss slot bind pass a 0 ss ++ (behind ss pass ++ rest))

  abbrev pub from_holds : ℕ → List Order
  from_holds a = whole passes.Holds a []

  abbrev pub from_ties : ℕ → List Order
  from_ties a = whole passes.Ties a (from_holds (pass_end ss passes.Ties a 0 ss))

  -- so many slots of the nester, from one on
  abbrev pub from_outward : ℕ → ℕ → ℕ → List Order
  from_outward zero i a = from_ties a
  from_outward (suc n) i a = whole (passes.Outward i) a (from_outward n (suc i) (pass_end ss (passes.Outward i) a 0 ss))

  abbrev pub from_inward : ℕ → List Order
  from_inward a = whole passes.Inward a (from_outward 240 0 (pass_end ss passes.Inward a 0 ss))

  abbrev pub from_fills : ℕ → List Order
  from_fills a = whole passes.Fills a (from_inward (pass_end ss passes.Fills a 0 ss))

  -- what comes behind a pass
  abbrev pub onwards : Pass → ℕ → List Order
  onwards Spaces a = from_fills a
  onwards Fills a = from_inward a
  onwards Inward a = from_outward 240 0 a
  onwards (Outward i) a = from_outward (239 - i) (suc i) a
  onwards Ties a = from_holds a
  onwards Holds a = []

  -- ---- parts of an item, from one on

  abbrev pub part_orders : passes_words.Part → List Order
  part_orders Nothing = []
  part_orders (Walks walk) = walk_rest ss walk
  part_orders (Asks order) = order ∷ []

  abbrev pub parts_by : ℕ → ℕ → SpaceRec → Pass → ℕ → ℕ → List Order
  parts_by zero n s pass j k = []
  parts_by (suc m) n s pass j k = part_orders (part_at ss slot bind n s pass j k) ++ parts_by m n s pass j (suc k)

  abbrev pub parts_from : ℕ → SpaceRec → Pass → ℕ → ℕ → List Order
  parts_from n s pass j k = parts_by (LAST_PART - k) n s pass j k

  -- ---- what is left

  abbrev pub room_rest : Pass → ℕ → ℕ → List Order
  room_rest pass a n = pass_from ss slot bind pass a n (drop n ss) ++ (behind ss pass ++ onwards pass (pass_end ss pass a n (drop n ss)))

  abbrev pub part_rest : Pass → ℕ → ℕ → ℕ → ℕ → Option SpaceRec → List Order
  part_rest pass a n j k None = []
  part_rest pass a n j k (Some s) = parts_from n s pass j k ++ (items_from ss slot bind n s pass (suc j) ++ room_rest pass a (suc n))

  abbrev pub spot_rest : Pass → ℕ → Spot → List Order
  spot_rest pass a (Before k) = drop k (before ss slot bind pass) ++ room_rest pass a 0
  spot_rest pass a (Room n) = room_rest pass a n
  spot_rest pass a (Part n j k) = part_rest pass a n j k (slice_get ss n)
  spot_rest pass a (After k) = drop k (behind ss pass) ++ onwards pass a

  -- the orders that are left
  abbrev pub rest : Position → List Order
  rest p = walk_rest ss p.walk ++ spot_rest p.pass p.stands p.spot

  -- ---- the order at a position, and the next one

  abbrev pub asked : passes_words.Part → Option Order
  asked Nothing = None
  asked (Walks walk) = None
  asked (Asks order) = Some order

  abbrev pub asked_in : Pass → ℕ → ℕ → ℕ → Option SpaceRec → Option Order
  asked_in pass n j k None = None
  asked_in pass n j k (Some s) = if nat_lt k LAST_PART then asked (part_at ss slot bind n s pass j k) else None

  abbrev pub spot_order : Pass → Spot → Option Order
  spot_order pass (Before k) = slice_get (before ss slot bind pass) k
  spot_order pass (Room n) = None
  spot_order pass (Part n j k) = asked_in pass n j k (slice_get ss n)
  spot_order pass (After k) = slice_get (behind ss pass) k

  abbrev pub is_walking : Walk → Bool
  is_walking Done = false
  is_walking other = true

  -- the order at a position, if one is there
  abbrev pub order_at : Position → Option Order
  order_at p = if is_walking p.walk then walk_order ss p.walk else spot_order p.pass p.spot

  abbrev pub walked : passes_words.Part → Walk
  walked Nothing = walks.Done
  walked (Walks walk) = walk
  walked (Asks order) = walks.Done

  abbrev pub at : Pass → ℕ → Spot → Position
  at pass a spot = record { walk = walks.Done; pass = pass; spot = spot; stands = a }

  abbrev pub next_pass : Pass → ℕ → Position
  next_pass Spaces a = at passes.Fills a (spots.Before 0)
  next_pass Fills a = at passes.Inward a (spots.Before 0)
  next_pass Inward a = at (passes.Outward 0) a (spots.Before 0)
  next_pass (Outward i) a = if nat_lt i 239 then at (passes.Outward (suc i)) a (spots.Before 0) else at passes.Ties a (spots.Before 0)
  next_pass Ties a = at passes.Holds a (spots.Before 0)
  next_pass Holds a = at passes.Holds a (spots.After (length (behind ss passes.Holds)))

  abbrev pub next_room : Pass → ℕ → ℕ → Option SpaceRec → Position
  next_room pass a n None = at pass a (spots.After 0)
  next_room pass a n (Some s) =
      if visits ss pass n s
      then record {
        walk = goes ss slot a (site pass n s);
        pass = pass;
        spot = if nat_lt 0 (items_of pass s) then spots.Part n 0 0 else spots.Room (suc n);
        stands = site pass n s;
      }
      else at pass a (spots.Room (suc n))

  abbrev pub next_part : Pass → ℕ → ℕ → ℕ → ℕ → Option SpaceRec → Position
  next_part pass a n j k None = at pass a (spots.After 0)
  next_part pass a n j k (Some s) =
      if nat_lt k LAST_PART
      then record { walk = walked (part_at ss slot bind n s pass j k); pass = pass; spot = spots.Part n j (suc k); stands = a }
      else if nat_lt (suc j) (items_of pass s) then at pass a (spots.Part n (suc j) 0) else at pass a (spots.Room (suc n))

  abbrev pub spot_next : Pass → ℕ → Spot → Position
  spot_next pass a (Before k) = if nat_lt k (length (before ss slot bind pass)) then at pass a (spots.Before (suc k)) else at pass a (spots.Room 0)
  spot_next pass a (Room n) = next_room pass a n (slice_get ss n)
  spot_next pass a (Part n j k) = next_part pass a n j k (slice_get ss n)
  spot_next pass a (After k) = if nat_lt k (length (behind ss pass)) then at pass a (spots.After (suc k)) else next_pass pass a

  -- the position behind it
  abbrev pub next_of : Position → Position
  next_of p = if is_walking p.walk then record p { walk = walk_next ss p.walk } else spot_next p.pass p.stands p.spot

  -- ---- a place that is one

  abbrev pub IsWalk : Walk → Type 0
  IsWalk Done = Unit {0}
  IsWalk (Top r) = Unit {0}
  IsWalk (Down r name from to last) = IsSome (slice_get ss from) × IsSome (slice_get ss to) × IsSome (strip (space_path ss from) (space_path ss to))

  -- P stands where the pass works from
  abbrev pub IsRoom : Pass → ℕ → ℕ → Option SpaceRec → Type 0
  IsRoom pass a n None = ⊥
  IsRoom pass a n (Some s) = a ≡ site pass n s

  abbrev pub IsSpot : Pass → ℕ → Spot → Type 0
  IsSpot pass a (Part n j k) = IsRoom pass a n (slice_get ss n)
  IsSpot pass a other = Unit {0}

  abbrev pub IsPass : Pass → Type 0
  IsPass (Outward i) = nat_lt i 240 ≡ true
  IsPass other = Unit {0}

  pub record IsPosition (p : Position) : Type 0 where
    pub walk : IsWalk p.walk
    pub pass : IsPass p.pass
    pub spot : IsSpot p.pass p.stands p.spot
    pub stands : IsSome (slice_get ss p.stands)

  abbrev pub listed : Option Order → List Order
  listed None = []
  listed (Some o) = o ∷ []

-- the first position
abbrev pub first : Position
first = record { walk = walks.Done; pass = passes.Spaces; spot = spots.Before 0; stands = 0 }
