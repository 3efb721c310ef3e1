-- What a pass does in a space, item by item and part by part.
use Rattle.std.specs.Prelude.{ℕ, suc, ◌+◌, ◌-◌, Bool, true, false, not, ◌==◌, nat_lt, List, [], ◌∷◌, ◌++◌, map, drop, length, Option, Some, None}
use Rattle.std.specs.Prelude.{if◌then◌else◌, slice_get}
use Rattle.std.specs.List.{list_any, flat_map}
use Rattle.fk_model.specs.declared.names.Kind.TheVariants as kinds
use Rattle.fk_model.specs.Places.{Path}
use Rattle.fk_model.specs.Objects.{Body, kind_of}
use Rattle.fk_model.specs.Records.{record_of}
use Rattle.fk_image.specs.declared.image.image.Link.{Link}
use Rattle.fk_image.specs.declared.image.image.Link.TheVariants.{Null, Dead, In, Out, Root}
use Rattle.fk_image.specs.declared.image.image.TalkRec.{TalkRec}
use Rattle.fk_image.specs.declared.image.image.FaultRec.{FaultRec}
use Rattle.fk_image.specs.declared.image.image.Rec.{Rec}
use Rattle.fk_image.specs.declared.image.image.Rec.TheVariants.{Mapping, Region, Thread, Reference}
use Rattle.fk_image.specs.declared.image.image.ObjectRec.{ObjectRec}
use Rattle.fk_image.specs.declared.image.image.PageRec.{PageRec}
use Rattle.fk_image.specs.declared.image.image.SpaceRec.{SpaceRec}
use Rattle.fk_image.specs.Image.Picture.{space_path, pictured_talk, pictured_fault, pictured_body}
use Rattle.laws_restore.specs.Sites.Orders.{Order}
use Rattle.laws_restore.specs.Sites.Orders.Order.{Makes, Sets, Points, Gives, ParksTalk, ParksFault, LinksTalk, RaisesFault, LinksFault, Holds, Pins, Takes}
use Rattle.laws_restore.specs.Sites.Orders.Order.{Checks, LeadsTop}
use Rattle.laws_restore.specs.Restore.Rooms.{Item}
use Rattle.laws_restore.specs.Restore.Script.{P, T, U, D, padded, points_body, leads_in, leads_out, leads_body_out, ties_body, ties_inside, talk_words}
use Rattle.laws_restore.specs.Restore.Script.{fault_words, taken_flag, has, opens, closes}
use Rattle.laws_restore.specs.Rooms.Rooms.{item_of, room_of, rooms_from}
use Rattle.fk_restore.specs.declared.positions.position.Walk.{Walk}
use Rattle.fk_restore.specs.declared.positions.position.Pass.{Pass}
use Rattle.fk_restore.specs.declared.positions.position.Pass.TheVariants.{Spaces, Fills, Inward, Outward, Ties, Holds as HoldsPass}
use Rattle.fk_restore.specs.Positions.Walks.{walk_rest, goes, leads}

-- a part is nothing, a walk, or an order
pub data Part : Type 0 where
  Nothing : Part
  Walks : (walk : Walk) → Part
  Asks : (order : Order) → Part

-- ---- which spaces a pass visits, and from which it works

-- a pointer leads inside
abbrev pub leads_within : Link → Bool
leads_within (In slot space) = true
leads_within Root = true
leads_within other = false

-- which spaces a pass goes through
abbrev pub visits : List SpaceRec → Pass → ℕ → SpaceRec → Bool
visits ss Spaces n s = not (n == 0)
visits ss Fills n s = true
visits ss Inward n s = has leads_in (room_of ss n s)
visits ss (Outward i) n s = has (leads_out i) (room_of ss n s)
visits ss Ties n s = has ties_inside (room_of ss n s)
visits ss HoldsPass n s = if n == 0 then false else leads_within s.holder

-- a space is made, and gets its holder, from the one in which it lies
abbrev pub site : Pass → ℕ → SpaceRec → ℕ
site Spaces n s = s.parent
site Fills n s = n
site Inward n s = n
site (Outward i) n s = n
site Ties n s = n
site HoldsPass n s = s.parent

-- ---- items

abbrev pub items_of : Pass → SpaceRec → ℕ
items_of Spaces s = 1
items_of Fills s = length s.objects + length s.objects + length s.pages
items_of Inward s = length s.objects
items_of (Outward i) s = length s.objects
items_of Ties s = length s.objects
items_of HoldsPass s = 1

abbrev pub LAST_PART : ℕ
LAST_PART = 6

-- ---- parts of an item

-- the one pointer of an object that is no thread
abbrev pub link_of : Rec → Link
link_of (Mapping first count offset write to) = to
link_of (Region first count write to) = to
link_of (Reference to) = to
link_of other = Null

-- the talk of an object
abbrev pub talk_of : Rec → Option TalkRec
talk_of (Thread t) = t.talk
talk_of other = None

-- the fault of an object
abbrev pub fault_of : Rec → Option FaultRec
fault_of (Thread t) = t.fault
fault_of other = None

module _ (ss : List SpaceRec) (slot : ℕ) (bind : ℕ → ℕ) (n : ℕ) (s : SpaceRec) where
  abbrev pub here : Path
  here = space_path ss n

  abbrev pub above : Path
  above = space_path ss s.parent

  -- Spaces
  abbrev pub makes_part : ℕ → Part
  makes_part k = if k == 0 then Asks (Makes P above s.slot kinds.Space) else Nothing

  -- Fills
  abbrev pub object_part : (ObjectRec → Order) → ℕ → List ObjectRec → Part
  object_part order j os = elim (slice_get os j) [
    | None ↦ Nothing
    | Some o ↦ Asks (order o)
  ]

  abbrev pub page_part : ℕ → List PageRec → Part
  page_part j ps = elim (slice_get ps j) [
    | None ↦ Nothing
    | Some p ↦ Asks (Gives P here p.page p.words)
  ]

  abbrev pub makes_object : ObjectRec → Order
  makes_object o = Makes P here o.slot (kind_of (pictured_body ss o.body))

  abbrev pub sets_object : ObjectRec → Order
  sets_object o = Sets P here o.slot (padded (record_of (pictured_body ss o.body)))

  abbrev pub fills_item : ℕ → Part
  fills_item j =
      if nat_lt j (length s.objects) then object_part makes_object j s.objects
      else if nat_lt j (length s.objects + length s.objects) then object_part sets_object (j - length s.objects) s.objects
      else page_part (j - (length s.objects + length s.objects)) s.pages

  -- what is done to fill an item
  abbrev pub fills_part : ℕ → ℕ → Part
  fills_part j k = if k == 0 then fills_item j else Nothing

  -- Inward
  abbrev pub points_to : ℕ → Link → Part
  points_to x (In k m) = Asks (Points P here x T)
  points_to x Root = Asks (Points P here x T)
  points_to x Dead = Asks (Points P here x D)
  points_to x other = Nothing

  abbrev pub walks_to : ℕ → ℕ → Link → Part
  walks_to r a (In k m) = Walks (leads ss slot r a (In k m))
  walks_to r a Root = Walks (leads ss slot r a Root)
  walks_to r a other = Nothing

  abbrev pub inward_part : ℕ → Rec → ℕ → Part
  inward_part x r k = if k == 0 then walks_to T n (link_of r) else if k == 1 then points_to x (link_of r) else Nothing

  -- Outward
  abbrev pub is_out : ℕ → Link → Bool
  is_out i (Out j) = j == i
  is_out i other = false

  abbrev pub parks_talk_part : ℕ → ℕ → Option TalkRec → Part
  parks_talk_part i x None = Nothing
  parks_talk_part i x (Some t) = if is_out i t.port then Asks (ParksTalk P here x (bind i) (talk_words (pictured_talk ss t))) else Nothing

  abbrev pub parks_fault_part : ℕ → ℕ → Option FaultRec → Part
  parks_fault_part i x None = Nothing
  parks_fault_part i x (Some f) = if is_out i f.port then Asks
      (ParksFault P here x (bind i) (taken_flag (pictured_fault ss f).taker) (fault_words (pictured_fault ss f))) else Nothing

  abbrev pub points_out_part : ℕ → ℕ → Link → Part
  points_out_part i x to = if is_out i to then Asks (Points P here x T) else Nothing

  abbrev pub outward_part : ℕ → ℕ → Rec → ℕ → Part
  outward_part i x r k =
      if k == 0 then points_out_part i x (link_of r) else if k == 1 then parks_talk_part i x (talk_of r) else if k
      == 2 then parks_fault_part i x (fault_of r) else Nothing

  -- Ties
  abbrev pub path_of : Link → Path
  path_of (In k m) = k ∷ space_path ss m
  path_of other = []

  -- a port inside, and a thread inside
  abbrev pub is_pair : Link → Link → Bool
  is_pair port thread = if leads_within port then leads_within thread else false

  abbrev pub talk_part : ℕ → ℕ → Option TalkRec → Part
  talk_part x k None = Nothing
  talk_part x k (Some t) =
      if is_pair t.port t.server
      then (if k == 0 then walks_to T n t.port else if k
      == 1 then walks_to U n t.server else Asks (LinksTalk P here x T U (path_of t.port) (path_of t.server) (talk_words (pictured_talk ss t))))
      else Nothing

  abbrev pub taken_part : ℕ → ℕ → FaultRec → Option Link → Part
  taken_part x k f None =
      if leads_within f.port
      then (if k == 0 then walks_to T n f.port else if k
      == 1 then Nothing else Asks (RaisesFault P here x T (path_of f.port) (fault_words (pictured_fault ss f))))
      else Nothing
  taken_part x k f (Some taker) =
      if is_pair f.port taker
      then (if k == 0 then walks_to T n f.port else if k
      == 1 then walks_to U n taker else Asks (LinksFault P here x T U (path_of f.port) (path_of taker) (fault_words (pictured_fault ss f))))
      else Nothing

  abbrev pub fault_part : ℕ → ℕ → Option FaultRec → Part
  fault_part x k None = Nothing
  fault_part x k (Some f) = taken_part x k f f.taker

  -- three parts for a talk, and three for a fault
  abbrev pub ties_part : ℕ → Rec → ℕ → Part
  ties_part x r k = if nat_lt k 3 then talk_part x k (talk_of r) else if nat_lt k 6 then fault_part x (k - 3) (fault_of r) else Nothing

  -- Holds, from the space above
  abbrev pub holds_part : ℕ → Part
  holds_part k =
      if leads_within s.holder
      then (if k == 0 then Walks (leads ss slot T s.parent s.holder) else if k == 1 then Asks (Holds P above s.slot T (path_of s.holder)) else Nothing)
      else Nothing

  -- ---- a part of an item

  abbrev pub object_parts : (ℕ → Rec → ℕ → Part) → ℕ → ℕ → Part
  object_parts parts j k = elim (slice_get s.objects j) [
    | None ↦ Nothing
    | Some o ↦ parts o.slot o.body k
  ]

  -- what a pass does for an item
  abbrev pub part_at : Pass → ℕ → ℕ → Part
  part_at Spaces j k = makes_part k
  part_at Fills j k = fills_part j k
  part_at Inward j k = object_parts inward_part j k
  part_at (Outward i) j k = object_parts (outward_part i) j k
  part_at Ties j k = object_parts ties_part j k
  part_at HoldsPass j k = holds_part k

  -- ---- the orders of items, from one on, as the script has them

  abbrev pub from_item : (Path → ℕ → Body → List Order) → ℕ → List Order
  from_item orders j = flat_map (λ (item : Item). orders here item.slot item.body) (map (item_of ss) (drop j s.objects))

  abbrev pub once : ℕ → List Order → List Order
  once j os = if j == 0 then os else []

  abbrev pub held_orders : List Order
  held_orders = if leads_within s.holder then walk_rest ss (leads ss slot T s.parent s.holder) ++ Holds P above s.slot T (path_of s.holder) ∷ [] else []

  abbrev pub items_from : Pass → ℕ → List Order
  items_from Spaces j = once j (Makes P above s.slot kinds.Space ∷ [])
  items_from Fills j =
      flat_map (λ (o : ObjectRec). makes_object o ∷ []) (drop j s.objects)
      ++ (flat_map (λ (o : ObjectRec). sets_object o ∷ []) (drop (j - length s.objects) s.objects)
      ++ flat_map (λ (p : PageRec). Gives P here p.page p.words ∷ []) (drop (j - (length s.objects + length s.objects)) s.pages))
  items_from Inward j = from_item (points_body slot) j
  items_from (Outward i) j = from_item (leads_body_out i bind) j
  items_from Ties j = from_item (ties_body slot) j
  items_from HoldsPass j = once j held_orders

-- ---- orders before and behind a pass

-- some object leads to the port in this slot of the nester
abbrev pub leads_out_any : List SpaceRec → ℕ → Bool
leads_out_any ss i = list_any (has (leads_out i)) (rooms_from ss 0 ss)

abbrev pub before : List SpaceRec → ℕ → (ℕ → ℕ) → Pass → List Order
before ss slot bind Spaces = opens slot
before ss slot bind Fills = []
before ss slot bind Inward = []
before ss slot bind (Outward i) = if leads_out_any ss i then Pins (bind i) ∷ Takes T ∷ Checks T (bind i) ∷ [] else []
before ss slot bind Ties = []
before ss slot bind HoldsPass = []

abbrev pub behind : List SpaceRec → Pass → List Order
behind ss Spaces = []
behind ss Fills = []
behind ss Inward = []
behind ss (Outward i) = if leads_out_any ss i then LeadsTop T ∷ [] else []
behind ss Ties = []
behind ss HoldsPass = closes

-- ---- a pass, from a space on, P standing at one

abbrev pub pass_from : List SpaceRec → ℕ → (ℕ → ℕ) → Pass → ℕ → ℕ → List SpaceRec → List Order
pass_from ss slot bind pass a n [] = []
pass_from ss slot bind pass a n (s ∷ rest) =
    if visits ss pass n s
    then walk_rest ss (goes ss slot a (site pass n s)) ++ (items_from ss slot bind n s pass 0 ++ pass_from ss slot bind pass (site pass n s) (suc n) rest)
    else pass_from ss slot bind pass a (suc n) rest

-- where P stands at its end
abbrev pub pass_end : List SpaceRec → Pass → ℕ → ℕ → List SpaceRec → ℕ
pass_end ss pass a n [] = a
pass_end ss pass a n (s ∷ rest) = if visits ss pass n s then pass_end ss pass (site pass n s) (suc n) rest else pass_end ss pass a (suc n) rest
