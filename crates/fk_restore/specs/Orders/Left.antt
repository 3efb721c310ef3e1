-- How many empty places may still go by before the next order, or the end.
use Rattle.std.specs.Prelude.{◌≡◌, ℕ, zero, suc, ◌+◌, ◌*◌, ◌-◌, ◌<◌, ◌≤◌, Bool, true, false, not, ◌&&◌, ◌||◌, ◌==◌, is_none, nat_le, nat_lt}
use Rattle.std.specs.Prelude.{List, [], ◌∷◌, drop, Option, Some, None, slice_get, if◌then◌else◌}
use Rattle.fk_image.specs.declared.image.image.Image.{Image}
use Rattle.fk_image.specs.declared.image.image.ObjectRec.{ObjectRec}
use Rattle.fk_image.specs.declared.image.image.Rec.{Rec}
use Rattle.fk_image.specs.declared.image.image.SpaceRec.{SpaceRec}
use Rattle.fk_restore.specs.declared.positions.position.Walk.{Walk, Walk as walks}
use Rattle.fk_restore.specs.declared.positions.position.Walk.TheVariants.{Done}
use Rattle.fk_restore.specs.declared.positions.position.Pass.{Pass, Pass as passes}
use Rattle.fk_restore.specs.declared.positions.position.Pass.TheVariants.{Spaces, Fills, Inward, Outward, Ties, Holds}
use Rattle.fk_restore.specs.declared.positions.position.Spot.{Spot, Spot as spots}
use Rattle.fk_restore.specs.declared.positions.position.Spot.TheVariants.{Before, Room, Part, After}
use Rattle.fk_restore.specs.declared.positions.position.Position.{Position}
use Rattle.laws_restore.specs.Sites.Orders.{Order}
use Rattle.fk_restore.specs.Positions.Code.{leads_in, leads_out, ties_inside}
use Rattle.fk_restore.specs.Positions.Doing.{next_item}
use Rattle.fk_restore.specs.Positions.Positions.{rest, IsPosition}
use Rattle.fk_restore.specs.Positions.Passes.{items_of}

-- the image with these spaces
abbrev pub image_of : List SpaceRec → Image
image_of ss = record { spaces = ss }

-- the places of the orders with which the script ends, and behind them
abbrev pub closes : Walk → Pass → Spot → Bool
closes Done Holds (After k) = true
closes walk pass spot = false

abbrev pub is_closing : Position → Bool
is_closing p = closes p.walk p.pass p.spot

-- in so many parts of an item something may be done
abbrev pub parts_of : Pass → ℕ
parts_of Spaces = 1
parts_of Fills = 1
parts_of Inward = 2
parts_of (Outward i) = 3
parts_of Ties = 6
parts_of Holds = 2

-- nothing is done at an object in a pass
abbrev pub is_idle : Pass → Rec → Bool
is_idle Spaces r = false
is_idle Fills r = false
is_idle Inward r = not (leads_in r)
is_idle (Outward i) r = not (leads_out i r)
is_idle Ties r = not (ties_inside r)
is_idle Holds r = false

abbrev pub idle_in : Pass → Option ObjectRec → Bool
idle_in pass None = false
idle_in pass (Some o) = is_idle pass o.body

-- nor at the object with a number in a space
abbrev pub idle_at : Pass → ℕ → Option SpaceRec → Bool
idle_at pass j None = false
idle_at pass j (Some s) = idle_in pass (slice_get s.objects j)

-- nothing is done in an item from a part on
abbrev pub is_spent : List SpaceRec → Pass → ℕ → ℕ → ℕ → Bool
is_spent ss pass n j k = nat_lt k 6 && (nat_le (parts_of pass) k || idle_at pass j (slice_get ss n))

-- behind an item in which nothing is done from a part on, and behind those that follow it up to one and in which nothing is done
pub record IsBehindItem (ss : List SpaceRec) (pass : Pass) (n j k : ℕ) (spot : Spot) : Type 0 where
  pub space : SpaceRec
  pub there : slice_get ss n ≡ Some space
  pub spent : is_spent ss pass n j k ≡ true
  pub last : ℕ
  pub from : j ≤ last
  pub idle : (i : ℕ) → j < i → i ≤ last → idle_in pass (slice_get space.objects i) ≡ true
  pub is : spot ≡ next_item pass n space last

abbrev pub IsBehind : List SpaceRec → Pass → Spot → Spot → Type 0
IsBehind ss pass (Part n j k) spot = IsBehindItem ss pass n j k spot
IsBehind ss pass other spot = ⊥

-- the slot of the nester whose pass is about to begin
abbrev pub begins_by : Walk → Pass → Spot → Option ℕ
begins_by Done (Outward i) (Before k) = if k == 0 then Some i else None
begins_by walk pass spot = None

abbrev pub begins : Position → Option ℕ
begins p = begins_by p.walk p.pass p.spot

-- the pass of a slot of the nester, or the one behind those of all slots
abbrev pub slot_pass : ℕ → Pass
slot_pass i = if nat_lt i 240 then passes.Outward i else passes.Ties

-- no order stands here, and one may follow
abbrev pub is_empty : Position → Option Order → Bool
is_empty p order = not (is_closing p) && is_none order

abbrev pub rooms_left : Pass → List SpaceRec → ℕ
rooms_left pass [] = 0
rooms_left pass (s ∷ ss) = (10 + items_of pass s * 8) + rooms_left pass ss

abbrev pub item_left : Pass → ℕ → ℕ → Option SpaceRec → ℕ
item_left pass j k None = 0
item_left pass j k (Some s) = (items_of pass s - j) * 8 + (7 - k)

abbrev pub spot_left : List SpaceRec → Pass → Spot → ℕ
spot_left ss pass (Before k) = 2 + rooms_left pass ss
spot_left ss pass (Room n) = 1 + rooms_left pass (drop n ss)
spot_left ss pass (Part n j k) = 2 + (item_left pass j k (slice_get ss n) + rooms_left pass (drop (suc n) ss))
spot_left ss pass (After k) = 0

abbrev pub pass_left : List SpaceRec → Pass → ℕ
pass_left ss pass = 3 + rooms_left pass ss

-- so many slots of the nester, from one on, and the passes behind them
abbrev pub outs_left : List SpaceRec → ℕ → ℕ → ℕ
outs_left ss zero i = pass_left ss passes.Ties + pass_left ss passes.Holds
outs_left ss (suc n) i = pass_left ss (passes.Outward i) + outs_left ss n (suc i)

-- the passes behind one
abbrev pub later : List SpaceRec → Pass → ℕ
later ss Spaces = pass_left ss passes.Fills + (pass_left ss passes.Inward + outs_left ss 240 0)
later ss Fills = pass_left ss passes.Inward + outs_left ss 240 0
later ss Inward = outs_left ss 240 0
later ss (Outward i) = outs_left ss (239 - i) (suc i)
later ss Ties = pass_left ss passes.Holds
later ss Holds = 0

abbrev pub walk_left : Walk → ℕ
walk_left Done = 0
walk_left other = 1

abbrev pub places_left : List SpaceRec → Position → ℕ
places_left ss p = (later ss p.pass + spot_left ss p.pass p.spot) * 2 + walk_left p.walk

-- from one place to another the orders are the same, and fewer places are left
pub record GoesBy (ss : List SpaceRec) (slot : ℕ) (bind : ℕ → ℕ) (p q : Position) : Type 0 where
  pub rest : rest ss slot bind p ≡ rest ss slot bind q
  pub place : IsPosition ss slot bind q
  pub fewer : places_left ss q < places_left ss p
