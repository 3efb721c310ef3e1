-- What a part of an item comes to in the code: a call in place of an order; and the places behind it.
use Rattle.std.specs.Prelude.{ℕ, suc, List, [], ◌∷◌, Option, Some, None, nat_lt, if◌then◌else◌, slice_get}
use Rattle.fk_model.specs.declared.stage.Stage.{Stage}
use Rattle.fk_image.specs.declared.image.image.ObjectRec.{ObjectRec}
use Rattle.fk_image.specs.declared.image.image.SpaceRec.{SpaceRec}
use Rattle.laws_restore.specs.Sites.Orders.{Order, stage_of}
use Rattle.laws_restore.specs.Sites.Orders.Order.{LeadsTop, Pins, Takes, Checks}
use Rattle.laws_restore.specs.Restore.Script.{T}
use Rattle.fk_restore.specs.declared.positions.parts.Doing.{Doing, Doing as doings}
use Rattle.fk_restore.specs.declared.positions.parts.Doing.TheVariants.{Walks as Goes, Asks as Calls}
use Rattle.fk_restore.specs.declared.positions.position.Walk.{Walk, Walk as walks}
use Rattle.fk_restore.specs.declared.positions.position.Position.{Position}
use Rattle.fk_restore.specs.declared.positions.position.Spot.{Spot, Spot as spots}
use Rattle.fk_restore.specs.declared.positions.position.Pass.{Pass}
use Rattle.fk_restore.specs.declared.positions.position.Pass.TheVariants.{Inward, Outward, Ties}
use Rattle.fk_restore.specs.Positions.Passes.{Part, Part as parts, inward_part, outward_part, ties_part, items_of}
use Rattle.fk_restore.specs.Positions.Passes.Part.{Nothing, Walks, Asks}

-- what is to be done for a part
abbrev pub doing_of : ℕ → Part → Doing
doing_of slot Nothing = doings.Nothing
doing_of slot (Walks walk) = doings.Walks walk
doing_of slot (Asks order) = doings.Asks (stage_of slot order)

-- a part of an object, in the passes that go through objects
abbrev pub object_part : List SpaceRec → ℕ → (ℕ → ℕ) → ℕ → SpaceRec → Pass → ObjectRec → ℕ → Part
object_part ss slot bind n s Inward o k = inward_part ss slot bind n s o.slot o.body k
object_part ss slot bind n s (Outward i) o k = outward_part ss slot bind n s i o.slot o.body k
object_part ss slot bind n s Ties o k = ties_part ss slot bind n s o.slot o.body k
object_part ss slot bind n s other o k = parts.Nothing

abbrev pub item_part : List SpaceRec → ℕ → (ℕ → ℕ) → ℕ → SpaceRec → Pass → ℕ → ℕ → Part
item_part ss slot bind n s pass j k = elim (slice_get s.objects j) [
  | None ↦ parts.Nothing
  | Some o ↦ object_part ss slot bind n s pass o k
]

-- the call of a part, and its walk
abbrev pub stage_in : Doing → Option Stage
stage_in (Calls stage) = Some stage
stage_in other = None

abbrev pub walk_in : Doing → Walk
walk_in (Goes walk) = walk
walk_in other = walks.Done

-- the orders that look for a port of the nester
abbrev pub pins : ℕ → List Order
pins port = Pins port ∷ Takes T ∷ Checks T port ∷ []

-- the order that leads its scratch reference in again
abbrev pub leads_in_again : List Order
leads_in_again = LeadsTop T ∷ []

-- a place where no walk is under way
abbrev pub place : Pass → ℕ → Spot → Position
place pass stands spot = record { walk = walks.Done; pass = pass; spot = spot; stands = stands }

-- the first spot in a space that is visited, and the one behind an item
abbrev pub first_spot : Pass → ℕ → SpaceRec → Spot
first_spot pass n s = if nat_lt 0 (items_of pass s) then spots.Part n 0 0 else spots.Room (suc n)

-- the place behind an object or a page in a pass
abbrev pub next_item : Pass → ℕ → SpaceRec → ℕ → Spot
next_item pass n s j = if nat_lt (suc j) (items_of pass s) then spots.Part n (suc j) 0 else spots.Room (suc n)
