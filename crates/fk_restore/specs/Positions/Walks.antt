-- Walks of scratch references by numbers of spaces, and the orders that are left of them.
use Rattle.std.specs.Prelude.{ℕ, zero, suc, Bool, ◌==◌, nat_le, List, [], ◌∷◌, Option, Some, None, if◌then◌else◌, slice_get}
use Rattle.fk_model.specs.Places.{Path, strip}
use Rattle.fk_image.specs.declared.image.image.Link.{Link}
use Rattle.fk_image.specs.declared.image.image.Link.TheVariants.{In, Root}
use Rattle.fk_image.specs.declared.image.image.SpaceRec.{SpaceRec}
use Rattle.fk_image.specs.Image.Picture.{space_path}
use Rattle.laws_restore.specs.Sites.Orders.{Order}
use Rattle.laws_restore.specs.Sites.Orders.Order.{Leads, LeadsTop}
use Rattle.laws_restore.specs.Restore.Script.{P, down}
use Rattle.fk_restore.specs.declared.positions.position.Walk.{Walk, Walk as walks}
use Rattle.fk_restore.specs.declared.positions.position.Walk.TheVariants.{Done, Top, Down}

-- ---- spaces above spaces, by numbers

abbrev pub parent_of : List SpaceRec → ℕ → ℕ
parent_of ss n = elim (slice_get ss n) [
  | None ↦ 0
  | Some s ↦ s.parent
]

-- a is b or lies above it; so many steps up suffice
unfoldable pub is_above_by : ℕ → List SpaceRec → ℕ → ℕ → Bool
is_above_by zero ss a b = a == b
is_above_by (suc d) ss a b = if nat_le b a then a == b else is_above_by d ss a (parent_of ss b)

abbrev pub is_above : List SpaceRec → ℕ → ℕ → Bool
is_above ss a b = is_above_by b ss a b

-- from b upwards, the first that lies in a
unfoldable pub child_by : ℕ → List SpaceRec → ℕ → ℕ → ℕ
child_by zero ss a b = b
child_by (suc d) ss a b = if parent_of ss b == a then b else child_by d ss a (parent_of ss b)

abbrev pub child_towards : List SpaceRec → ℕ → ℕ → ℕ
child_towards ss a b = child_by b ss a b

abbrev pub slot_at : List SpaceRec → ℕ → ℕ
slot_at ss n = elim (slice_get ss n) [
  | None ↦ 0
  | Some s ↦ s.slot
]

-- ---- what is left of a walk

abbrev pub target : Path → Option ℕ → Path
target q None = q
target q (Some k) = k ∷ q

abbrev pub down_by : ℕ → ℕ → Path → Option Path → List Order
down_by r name p None = []
down_by r name p (Some w) = down r name p w

abbrev pub walk_rest : List SpaceRec → Walk → List Order
walk_rest ss Done = []
walk_rest ss (Top r) = LeadsTop r ∷ []
walk_rest ss (Down r name from to last) = down_by r name (space_path ss from) (strip (space_path ss from) (target (space_path ss to) last))

abbrev pub last_order : ℕ → ℕ → Path → Option ℕ → Option Order
last_order r name q None = None
last_order r name q (Some k) = Some (Leads r name q k)

-- the next order of a walk
abbrev pub walk_order : List SpaceRec → Walk → Option Order
walk_order ss Done = None
walk_order ss (Top r) = Some (LeadsTop r)
walk_order ss (Down r name from to last) =
    if from == to then last_order r name (space_path ss to) last else Some (Leads r name (space_path ss from) (slot_at ss (child_towards ss from to)))

-- the walk behind it
abbrev pub walk_next : List SpaceRec → Walk → Walk
walk_next ss Done = walks.Done
walk_next ss (Top r) = walks.Done
walk_next ss (Down r name from to last) = if from == to then walks.Done else walks.Down r r (child_towards ss from to) to last

-- ---- walks

-- P goes on from a space to another, from the root where that lies elsewhere
abbrev pub goes : List SpaceRec → ℕ → ℕ → ℕ → Walk
goes ss slot a b = if is_above ss a b then walks.Down P P a b None else (if b == 0 then walks.Top P else walks.Down P slot 0 b None)

-- a scratch reference is led to what a pointer leads to, from the space where P stands or from the root
abbrev pub leads : List SpaceRec → ℕ → ℕ → ℕ → Link → Walk
leads ss slot r a (In k b) = if is_above ss a b then walks.Down r P a b (Some k) else walks.Down r slot 0 b (Some k)
leads ss slot r a Root = walks.Top r
leads ss slot r a other = walks.Done
