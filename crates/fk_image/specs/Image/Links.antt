-- Where pointers lead, and what each field may hold.
use Rattle.std.specs.Prelude.{ℕ, ◌+◌, ◌-◌, Bool, true, false, not, ◌&&◌, ◌||◌, nat_le, nat_lt, ◌==◌, List, [], ◌∷◌, ◌++◌, drop, slice_get, Option, Some, None}
use Rattle.std.specs.List.{list_any, list_all, flat_map}
use Rattle.fk_model.specs.declared.names.Kind.{Kind}
use Rattle.fk_model.specs.declared.names.Kind.TheVariants as kinds
use Rattle.fk_image.specs.declared.image.image.Link.{Link}
use Rattle.fk_image.specs.declared.image.image.Link.TheVariants.{Null, Dead, In, Out, Outside}
use Rattle.fk_image.specs.declared.image.image.TalkRec.{TalkRec}
use Rattle.fk_image.specs.declared.image.image.FaultRec.{FaultRec}
use Rattle.fk_image.specs.declared.image.image.Rec.{Rec}
use Rattle.fk_image.specs.declared.image.image.Rec.TheVariants.{Mapping, Region, Port, Thread, Reference}
use Rattle.fk_image.specs.declared.image.image.ObjectRec.{ObjectRec}
use Rattle.fk_image.specs.declared.image.image.SpaceRec.{SpaceRec}
use Rattle.fk_image.specs.Image.Objects.{kind_in}
use Rattle.fk_image.specs.Image.Preorder.{run_beneath}

-- ---- what lies where

-- the kind of the object in a slot of the space with a number
abbrev pub kind_in_space : List SpaceRec → ℕ → ℕ → Option Kind
kind_in_space spaces space slot = elim (slice_get spaces space) [
  | None ↦ None
  | Some s ↦ kind_in s.objects slot
]

-- a space lies in that slot
abbrev pub lies_in : ℕ → ℕ → SpaceRec → Bool
lies_in space slot s = s.parent == space && s.slot == slot

-- a space that isn't the first lies in this slot of this space
unfoldable pub has_space_at : List SpaceRec → ℕ → ℕ → Bool
has_space_at spaces space slot = list_any (lies_in space slot) (drop 1 spaces)

-- the number behind those of a space and of all beneath it
unfoldable pub end_of : List SpaceRec → ℕ → ℕ
end_of spaces space = space + 1 + run_beneath space (drop (space + 1) spaces)

-- the second space is the first or lies beneath it
abbrev pub is_space_within : List SpaceRec → ℕ → ℕ → Bool
is_space_within spaces space other = nat_le space other && nat_lt other (end_of spaces space)

-- ---- kinds

abbrev pub is_thread_kind : Option Kind → Bool
is_thread_kind (Some kinds.Thread) = true
is_thread_kind other = false

abbrev pub is_portset_kind : Option Kind → Bool
is_portset_kind (Some kinds.Portset) = true
is_portset_kind other = false

abbrev pub is_region_kind : Option Kind → Bool
is_region_kind (Some kinds.Region) = true
is_region_kind other = false

abbrev pub is_port_kind : Option Kind → Bool
is_port_kind (Some kinds.Port) = true
is_port_kind other = false

-- what a reference may lead to, besides spaces
abbrev pub is_referable : Option Kind → Bool
is_referable (Some kinds.Mapping) = true
is_referable (Some kinds.Region) = true
is_referable (Some kinds.Port) = true
is_referable (Some kinds.Thread) = true
is_referable other = false

-- ---- what each field may hold

-- a space's holder isn't in or beneath it
abbrev pub may_hold : List SpaceRec → ℕ → Link → Bool
may_hold spaces space Null = true
may_hold spaces space (In slot other) = is_thread_kind (kind_in_space spaces other slot) && not (is_space_within spaces space other)
may_hold spaces space other = false

-- what a mapping's pointer may be
abbrev pub leads_to_region : List SpaceRec → Link → Bool
leads_to_region spaces Null = true
leads_to_region spaces Dead = true
leads_to_region spaces (In slot space) = is_region_kind (kind_in_space spaces space slot)
leads_to_region spaces other = false

-- what a region's pointer may be
abbrev pub leads_to_keeper : List SpaceRec → Link → Bool
leads_to_keeper spaces Null = true
leads_to_keeper spaces Dead = true
leads_to_keeper spaces (Out slot) = true
leads_to_keeper spaces (In slot space) = is_port_kind (kind_in_space spaces space slot)
leads_to_keeper spaces other = false

abbrev pub may_refer : List SpaceRec → Link → Bool
may_refer spaces (In slot space) = is_referable (kind_in_space spaces space slot) || has_space_at spaces space slot
may_refer spaces Outside = false
may_refer spaces other = true

-- the port of a talk or a fault
abbrev pub leads_to_port : List SpaceRec → Link → Bool
leads_to_port spaces (Out slot) = true
leads_to_port spaces (In slot space) = is_port_kind (kind_in_space spaces space slot)
leads_to_port spaces other = false

abbrev pub is_outside_link : Link → Bool
is_outside_link Outside = true
is_outside_link other = false

-- a thread of that space
abbrev pub is_thread_in : List SpaceRec → ℕ → Link → Bool
is_thread_in spaces space (In slot other) = other == space && is_thread_kind (kind_in_space spaces other slot)
is_thread_in spaces space other = false

-- who serves a talk, or took a fault, at a port: a thread of the port's space, or a peer outside where the port is
abbrev pub serves_port : List SpaceRec → Link → Link → Bool
serves_port spaces (Out slot) peer = is_outside_link peer
serves_port spaces (In slot space) peer = is_thread_in spaces space peer
serves_port spaces other peer = false

-- a port's set is a port set of its space
abbrev pub is_set_of : List ObjectRec → ℕ → Bool
is_set_of objects set = set == 0 || is_portset_kind (kind_in objects (set - 1))

-- ---- objects and spaces

abbrev pub talk_leads : List SpaceRec → Option TalkRec → Bool
talk_leads spaces None = true
talk_leads spaces (Some talk) = leads_to_port spaces talk.port && serves_port spaces talk.port talk.server

abbrev pub taker_leads : List SpaceRec → Link → Option Link → Bool
taker_leads spaces port None = true
taker_leads spaces port (Some taker) = serves_port spaces port taker

abbrev pub fault_leads : List SpaceRec → Option FaultRec → Bool
fault_leads spaces None = true
fault_leads spaces (Some fault) = leads_to_port spaces fault.port && taker_leads spaces fault.port fault.taker

abbrev pub body_leads : List SpaceRec → List ObjectRec → Rec → Bool
body_leads spaces objects (Mapping first count offset write region) = leads_to_region spaces region
body_leads spaces objects (Region first count write keeper) = leads_to_keeper spaces keeper
body_leads spaces objects (Port set) = is_set_of objects set
body_leads spaces objects (Thread t) = talk_leads spaces t.talk && fault_leads spaces t.fault
body_leads spaces objects (Reference to) = may_refer spaces to
body_leads spaces objects other = true

abbrev pub space_leads : List SpaceRec → ℕ → SpaceRec → Bool
space_leads spaces number s = may_hold spaces number s.holder && list_all (λ (o : ObjectRec). body_leads spaces s.objects o.body) s.objects

-- the same for each space from a number on
abbrev pub spaces_lead : List SpaceRec → ℕ → List SpaceRec → Bool
spaces_lead spaces number [] = true
spaces_lead spaces number (s ∷ ss) = space_leads spaces number s && spaces_lead spaces (number + 1) ss

-- ---- the threads that serve talks or took faults

abbrev pub peer : Link → List (ℕ × ℕ)
peer (In slot space) = (space, slot) ∷ []
peer other = []

abbrev pub talk_peers : Option TalkRec → List (ℕ × ℕ)
talk_peers None = []
talk_peers (Some talk) = peer talk.server

abbrev pub taker_peers : Option Link → List (ℕ × ℕ)
taker_peers None = []
taker_peers (Some taker) = peer taker

abbrev pub fault_peers : Option FaultRec → List (ℕ × ℕ)
fault_peers None = []
fault_peers (Some fault) = taker_peers fault.taker

abbrev pub body_peers : Rec → List (ℕ × ℕ)
body_peers (Thread t) = talk_peers t.talk ++ fault_peers t.fault
body_peers other = []

abbrev pub object_peers : ObjectRec → List (ℕ × ℕ)
object_peers o = body_peers o.body

abbrev pub space_peers : SpaceRec → List (ℕ × ℕ)
space_peers s = flat_map object_peers s.objects

abbrev pub is_same_place : ℕ × ℕ → ℕ × ℕ → Bool
is_same_place a b = b.0 == a.0 && b.1 == a.1

-- none is among those seen before it
abbrev pub are_fresh : List (ℕ × ℕ) → List (ℕ × ℕ) → Bool
are_fresh seen [] = true
are_fresh seen (p ∷ ps) = not (list_any (is_same_place p) seen) && are_fresh (p ∷ seen) ps

-- Each pointer leads to what its field may hold, and no thread serves or took twice.
abbrev pub all_lead : List SpaceRec → Bool
all_lead spaces = spaces_lead spaces 0 spaces && are_fresh [] (flat_map space_peers spaces)
