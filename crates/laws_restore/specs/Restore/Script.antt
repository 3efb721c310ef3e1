-- The orders that make a subtree from its rooms, with its outward ports bound to others.
--
-- Scratch P names places: it stands at the space of a room, and goes on from there. T and U are led to what a pointer is to lead
-- to, D leads to what was destroyed. Inside a space all objects are made before any gets its record, since a port names its set.
-- Outward pointers are led by rising slots of the nester, all fields of a slot at once, so that a port that is missing is the
-- lowest one, and one that was there is kept by the pin until a field keeps it.
use Rattle.std.specs.Prelude.{ℕ, zero, suc, Bool, true, false, ◌||◌, ◌==◌, List, [], ◌∷◌, ◌++◌, Option, Some, None, if◌then◌else◌}
use Rattle.std.specs.List.{list_any, flat_map}
use Rattle.fk_model.specs.declared.limits.TheConstants.{PAGE_WORDS}
use Rattle.fk_model.specs.declared.names.Kind.TheVariants as kinds
use Rattle.fk_model.specs.Places.{Path, strip, Ptr}
use Rattle.fk_model.specs.Places.Ptr.{Null, Dead, At, Out}
use Rattle.fk_model.specs.Objects.{Peer, Talk, Fault, Body, kind_of, flag_of}
use Rattle.fk_model.specs.Objects.Peer.{Server}
use Rattle.fk_model.specs.Objects.Body.{Mapping, Region, Thread_of, Reference}
use Rattle.fk_model.specs.Records.{record_of}
use Rattle.fk_model.specs.Records as records
use Rattle.laws_restore.specs.Sites.Orders.{Order}
use Rattle.laws_restore.specs.Sites.Orders.Order.{Readies, Leads, LeadsTop, Makes, Sets, Points, Gives, MakesPin, Pins, Takes, Checks, ParksTalk, ParksFault}
use Rattle.laws_restore.specs.Sites.Orders.Order.{LinksTalk}
use Rattle.laws_restore.specs.Sites.Orders.Order.{RaisesFault, LinksFault, Holds, Drops, DropsPin, Deadens}
use Rattle.laws_restore.specs.Restore.Rooms.{Item, Sheet, Room}

abbrev pub P : ℕ
P = 240

abbrev pub T : ℕ
T = 241

abbrev pub U : ℕ
U = 242

abbrev pub D : ℕ
D = 243

-- a porter gives 64 words with each call
abbrev pub padded : List ℕ → List ℕ
padded words = records.padded PAGE_WORDS words

-- ---- ways

abbrev pub next_name : ℕ → ℕ → Path → ℕ
next_name r s [] = s
next_name r s (k ∷ w) = r

-- scratch r comes from the space at q, which s names, down to what lies at w beneath it
unfoldable pub down : ℕ → ℕ → Path → Path → List Order
down r s q [] = []
down r s q (k ∷ w) = down r s q w ++ Leads r (next_name r s w) (w ++ q) k ∷ []

-- scratch r comes from the root, which the subtree's own slot names, down to z
unfoldable pub root_down : ℕ → ℕ → Path → List Order
root_down slot r [] = []
root_down slot r (k ∷ z) = root_down slot r z ++ Leads r (next_name r slot z) z k ∷ []

abbrev pub from_root : ℕ → ℕ → Path → List Order
from_root slot r [] = LeadsTop r ∷ []
from_root slot r (k ∷ z) = root_down slot r (k ∷ z)

-- P goes on from the space at p, where it stands, if the next one lies beneath it
abbrev pub goes_by : ℕ → Path → Path → Option Path → List Order
goes_by slot p q None = from_root slot P q
goes_by slot p q (Some w) = down P P p w

abbrev pub goes_to : ℕ → Path → Path → List Order
goes_to slot p q = goes_by slot p q (strip p q)

-- scratch r is led to z, from the space where P stands if z lies in or beneath it
abbrev pub leads_by : ℕ → ℕ → Path → Path → Option Path → List Order
leads_by slot r p z (Some (k ∷ w)) = down r P p (k ∷ w)
leads_by slot r p z other = from_root slot r z

abbrev pub leads_to_at : ℕ → ℕ → Path → Path → List Order
leads_to_at slot r p z = leads_by slot r p z (strip p z)

-- ---- room by room, P standing at the space of the room before

unfoldable pub through_rooms : ℕ → (Room → Bool) → (Room → List Order) → Path → List Room → List Order
through_rooms slot visits orders p [] = []
through_rooms slot visits orders p (r ∷ rs) =
    if visits r then goes_to slot p r.path ++ (orders r ++ through_rooms slot visits orders r.path rs) else through_rooms slot visits orders p rs

-- where P stands at their end
abbrev pub after_rooms : (Room → Bool) → Path → List Room → Path
after_rooms visits p [] = p
after_rooms visits p (r ∷ rs) = if visits r then after_rooms visits r.path rs else after_rooms visits p rs

-- every space but the root, P standing at the space in which it lies
abbrev pub makes_space : ℕ → Path → Path → List Order
makes_space slot p [] = []
makes_space slot p (k ∷ q) = goes_to slot p q ++ Makes P q k kinds.Space ∷ []

abbrev pub stands_at : Path → Path → Path
stands_at p [] = p
stands_at p (k ∷ q) = q

unfoldable pub makes_spaces : ℕ → Path → List Room → List Order
makes_spaces slot p [] = []
makes_spaces slot p (r ∷ rs) = makes_space slot p r.path ++ makes_spaces slot (stands_at p r.path) rs

abbrev pub after_spaces : Path → List Room → Path
after_spaces p [] = p
after_spaces p (r ∷ rs) = after_spaces (stands_at p r.path) rs

-- objects with their records, and pages
abbrev pub fills : Room → List Order
fills r =
    flat_map (λ (i : Item). Makes P r.path i.slot (kind_of i.body) ∷ []) r.items
    ++ (flat_map (λ (i : Item). Sets P r.path i.slot (padded (record_of i.body)) ∷ []) r.items
    ++ flat_map (λ (s : Sheet). Gives P r.path s.number s.words ∷ []) r.sheets)

-- ---- pointers that stay inside

abbrev pub pointer_of : Body → Ptr
pointer_of (Mapping m) = m.region
pointer_of (Region r) = r.keeper
pointer_of (Reference to) = to
pointer_of other = Null

abbrev pub points_in : ℕ → Path → ℕ → Ptr → List Order
points_in slot q x (At z) = leads_to_at slot T q z ++ Points P q x T ∷ []
points_in slot q x Dead = Points P q x D ∷ []
points_in slot q x other = []

abbrev pub stays_inside : Ptr → Bool
stays_inside (At z) = true
stays_inside Dead = true
stays_inside other = false

-- ---- pointers to a port outside, for one slot of the nester

abbrev pub is_out_to : ℕ → Ptr → Bool
is_out_to i (Out j) = j == i
is_out_to i other = false

abbrev pub is_talk_out : ℕ → Option Talk → Bool
is_talk_out i None = false
is_talk_out i (Some talk) = is_out_to i talk.port

abbrev pub is_fault_out : ℕ → Option Fault → Bool
is_fault_out i None = false
is_fault_out i (Some fault) = is_out_to i fault.port

abbrev pub leads_out : ℕ → Body → Bool
leads_out i (Thread_of t) = is_talk_out i t.talk || is_fault_out i t.fault
leads_out i b = is_out_to i (pointer_of b)

-- what a porter gives with a talk: whose turn it is, and how many words were moved; with a fault: its page, and 1 for a write
abbrev pub talk_words : Talk → List ℕ
talk_words talk = padded (records.talk_words (Some talk))

-- what a porter gives with a fault: its page, and 1 for a write
abbrev pub fault_words : Fault → List ℕ
fault_words fault = padded (fault.page ∷ flag_of fault.write ∷ [])

-- 1 for a fault that somebody outside has taken
abbrev pub taken_flag : Option Peer → ℕ
taken_flag None = 0
taken_flag (Some taker) = 1

abbrev pub parks_talk : ℕ → (ℕ → ℕ) → Path → ℕ → Option Talk → List Order
parks_talk i bind q x None = []
parks_talk i bind q x (Some talk) = if is_out_to i talk.port then ParksTalk P q x (bind i) (talk_words talk) ∷ [] else []

abbrev pub parks_fault : ℕ → (ℕ → ℕ) → Path → ℕ → Option Fault → List Order
parks_fault i bind q x None = []
parks_fault i bind q x (Some fault) = if is_out_to i fault.port then ParksFault P q x (bind i) (taken_flag fault.taker) (fault_words fault) ∷ [] else []

abbrev pub leads_body_out : ℕ → (ℕ → ℕ) → Path → ℕ → Body → List Order
leads_body_out i bind q x (Thread_of t) = parks_talk i bind q x t.talk ++ parks_fault i bind q x t.fault
leads_body_out i bind q x b = if is_out_to i (pointer_of b) then Points P q x T ∷ [] else []

abbrev pub has : (Body → Bool) → Room → Bool
has test r = list_any (λ (item : Item). test item.body) r.items

-- for each object of a room
abbrev pub each : (Path → ℕ → Body → List Order) → Room → List Order
each orders r = flat_map (λ (item : Item). orders r.path item.slot item.body) r.items

-- the pin finds the port, every field that leads to it is led there, and T leads in again
abbrev pub leads_out_by : ℕ → (ℕ → ℕ) → List Room → Path → ℕ → List Order
leads_out_by slot bind rooms p i =
    if list_any (has (leads_out i)) rooms
    then (Pins (bind i) ∷ Takes T ∷ Checks T (bind i) ∷ [])
    ++ (through_rooms slot (has (leads_out i)) (each (leads_body_out i bind)) p rooms ++ LeadsTop T ∷ [])
    else []

-- so many slots of the nester, from one on
unfoldable pub leads_outs : ℕ → (ℕ → ℕ) → List Room → Path → ℕ → ℕ → List Order
leads_outs slot bind rooms p zero i = []
leads_outs slot bind rooms p (suc n) i = leads_out_by slot bind rooms p i ++ leads_outs slot bind rooms (after_rooms (has (leads_out i)) p rooms) n (suc i)

abbrev pub after_outs : List Room → Path → ℕ → ℕ → Path
after_outs rooms p zero i = p
after_outs rooms p (suc n) i = after_outs rooms (after_rooms (has (leads_out i)) p rooms) n (suc i)

-- ---- talks and faults between threads inside, and inner holds

abbrev pub ties_talk : ℕ → Path → ℕ → Talk → Ptr → Peer → List Order
ties_talk slot q x talk (At port) (Server (At server)) =
    leads_to_at slot T q port ++ (leads_to_at slot U q server ++ LinksTalk P q x T U port server (talk_words talk) ∷ [])
ties_talk slot q x talk port peer = []

abbrev pub ties_fault : ℕ → Path → ℕ → Fault → Ptr → Option Peer → List Order
ties_fault slot q x fault (At port) None = leads_to_at slot T q port ++ RaisesFault P q x T port (fault_words fault) ∷ []
ties_fault slot q x fault (At port) (Some (Server (At taker))) =
    leads_to_at slot T q port ++ (leads_to_at slot U q taker ++ LinksFault P q x T U port taker (fault_words fault) ∷ [])
ties_fault slot q x fault port taker = []

abbrev pub ties_its_talk : ℕ → Path → ℕ → Option Talk → List Order
ties_its_talk slot q x None = []
ties_its_talk slot q x (Some talk) = ties_talk slot q x talk talk.port talk.peer

abbrev pub ties_its_fault : ℕ → Path → ℕ → Option Fault → List Order
ties_its_fault slot q x None = []
ties_its_fault slot q x (Some fault) = ties_fault slot q x fault fault.port fault.taker

abbrev pub ties_body : ℕ → Path → ℕ → Body → List Order
ties_body slot q x (Thread_of t) = ties_its_talk slot q x t.talk ++ ties_its_fault slot q x t.fault
ties_body slot q x other = []

abbrev pub is_port_inside : Ptr → Bool
is_port_inside (At port) = true
is_port_inside other = false

abbrev pub is_talk_inside : Option Talk → Bool
is_talk_inside None = false
is_talk_inside (Some talk) = is_port_inside talk.port

abbrev pub is_fault_inside : Option Fault → Bool
is_fault_inside None = false
is_fault_inside (Some fault) = is_port_inside fault.port

abbrev pub ties_inside : Body → Bool
ties_inside (Thread_of t) = is_talk_inside t.talk || is_fault_inside t.fault
ties_inside other = false

-- who holds the space of a room, P standing where it lies
abbrev pub holds_space : ℕ → Path → Path → Option Ptr → List Order
holds_space slot p (k ∷ q) (Some (At holder)) = goes_to slot p q ++ (leads_to_at slot T q holder ++ Holds P q k T holder ∷ [])
holds_space slot p path holder = []

abbrev pub stands_held : Path → Path → Option Ptr → Path
stands_held p (k ∷ q) (Some (At holder)) = q
stands_held p path holder = p

unfoldable pub holds_spaces : ℕ → Path → List Room → List Order
holds_spaces slot p [] = []
holds_spaces slot p (r ∷ rs) = holds_space slot p r.path r.holder ++ holds_spaces slot (stands_held p r.path r.holder) rs

abbrev pub after_holds : Path → List Room → Path
after_holds p [] = p
after_holds p (r ∷ rs) = after_holds (stands_held p r.path r.holder) rs

-- ---- the whole: the first call has made the space

abbrev pub opens : ℕ → List Order
opens slot =
    Readies P ∷ Readies T ∷ Readies U ∷ Readies D ∷ Makes slot [] 0 kinds.Region ∷ Leads D slot [] 0 ∷ Deadens D ∷ MakesPin ∷ LeadsTop P ∷ []

abbrev pub closes : List Order
closes = LeadsTop T ∷ LeadsTop U ∷ DropsPin ∷ Drops P ∷ Drops T ∷ Drops U ∷ Drops D ∷ []

-- ---- all of it

abbrev pub points_body : ℕ → Path → ℕ → Body → List Order
points_body slot q x b = points_in slot q x (pointer_of b)

abbrev pub leads_in : Body → Bool
leads_in b = stays_inside (pointer_of b)

abbrev pub any_room : Room → Bool
any_room r = true

-- where P stands after each pass
abbrev pub made_by : List Room → Path
made_by rooms = after_spaces [] rooms

abbrev pub filled_by : List Room → Path
filled_by rooms = after_rooms any_room (made_by rooms) rooms

abbrev pub pointed_by : List Room → Path
pointed_by rooms = after_rooms (has leads_in) (filled_by rooms) rooms

abbrev pub led_out_by : List Room → Path
led_out_by rooms = after_outs rooms (pointed_by rooms) 240 0

abbrev pub tied_by : List Room → Path
tied_by rooms = after_rooms (has ties_inside) (led_out_by rooms) rooms

unfoldable pub script : ℕ → (ℕ → ℕ) → List Room → List Order
script slot bind rooms =
    opens slot
    ++ (makes_spaces slot [] rooms
    ++ (through_rooms slot any_room fills (made_by rooms) rooms
    ++ (through_rooms slot (has leads_in) (each (points_body slot)) (filled_by rooms) rooms
    ++ (leads_outs slot bind rooms (pointed_by rooms) 240 0
    ++ (through_rooms slot (has ties_inside) (each (ties_body slot)) (led_out_by rooms) rooms
    ++ (holds_spaces slot (tied_by rooms) rooms
    ++ closes))))))
