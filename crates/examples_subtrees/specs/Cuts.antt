-- Subtrees seen alone: what their cuts show, and the first place at which they aren't closed.
--
-- /1 is the subtree, or its nester.
use Rattle.std.specs.Prelude.{ℕ, true, false, List, [], ◌∷◌, ◌++◌, replicate, Option, None, Some}
use Rattle.fk_model.specs.declared.thread.Turn.TheVariants as turns
use Rattle.fk_model.specs.Places.{Path, Ptr}
use Rattle.fk_model.specs.Places.Ptr.{Null, At}
use Rattle.fk_model.specs.Objects.{Peer, Talk, Fault, Body}
use Rattle.fk_model.specs.Objects.Mode.{Native}
use Rattle.fk_model.specs.Objects.Peer.{Parked}
use Rattle.fk_model.specs.Objects.Body.{Mapping, Region, Port, Portset, Space, Reference}
use Rattle.fk_model.specs.World.{World}
use Rattle.fk_model.specs.Cut.{seen_by, cut}
use Rattle.fk_model.specs.Closed.{Place, open_place}
use Rattle.examples_moves.specs.Worked.{machine, world_of, page_with, numbered, running, calling, thread_in_mode, with_talk, with_fault, served_by, root_port}

-- a place, by its path from the nester and the number of a field
abbrev pub open_at : Path → ℕ → Option Place
open_at path field = Some (record { path = path; field = field })

-- the subtree
abbrev pub subtree : Path
subtree = 1 ∷ []

-- what stands in a slot of the subtree
abbrev pub in_subtree : ℕ → Path
in_subtree k = k ∷ subtree

-- another space of the root, and what stands in a slot of it
abbrev pub beside : ℕ → Path
beside k = k ∷ 2 ∷ []

-- the root's port and two spaces
abbrev pub two_spaces : List (Path × Body)
two_spaces = (root_port, Port None true) ∷ (subtree, Space 1 None) ∷ (2 ∷ [], Space 2 None) ∷ []

-- ---- pointers of /2 lead into /1, where there is a port in slot 4 and a thread in slot 3

-- the port and the thread
abbrev pub inner_port : List (Path × Body)
inner_port = (in_subtree 4, Port None false) ∷ (in_subtree 3, running 0 []) ∷ []

-- a thread of /2 is about to clear a reference there
abbrev pub clearer : Path
clearer = beside 1

unfoldable pub led_into : World
led_into = world_of ((beside 0, Reference (At (in_subtree 4))) ∷ (clearer, calling 0 (6 ∷ 256 ∷ 0 ∷ [])) ∷ (inner_port ++ two_spaces)) []

-- a thread of /2 talks at the port with this peer
unfoldable pub talked_into : Peer → World
talked_into peer = world_of
    ((beside 0, with_talk (record { port = At (in_subtree 4); peer = peer; turn = turns.Client; moved = 0 }) (running 0 [])) ∷ (inner_port ++ two_spaces)) []

-- ---- /1 is a nester; slot 3 of the space in slot 2 of it is a reference

-- which leads there. The nester has a port in slot 9 and a port set in slot 8
unfoldable pub led_from_1_2 : Ptr → World
led_from_1_2 to = world_of
    ((3 ∷ in_subtree 2, Reference to) ∷ (root_port, Port None false)
    ∷ (subtree, Space 1 None) ∷ (in_subtree 9, Port None false) ∷ (in_subtree 8, Portset) ∷ (in_subtree 2, Space 2 None) ∷ []) []

-- ---- a thread of /1 sends 70 words from 128 on to port 9, of which the 65th is 7; port 10 is another of the root

-- its talk with this peer, after so many words
abbrev pub talk_out : Ptr → Peer → ℕ → Talk
talk_out port peer moved = record { port = port; peer = peer; turn = turns.Client; moved = moved }

-- the rest of its call
abbrev pub still_sending : ℕ → ℕ → Body
still_sending address count = calling 7 (34 ∷ 1 ∷ address ∷ count ∷ 0 ∷ 0 ∷ 7 ∷ 192 ∷ [])

-- before its first block
unfoldable pub sending_out : Peer → World
sending_out peer = world_of
    ((root_port, Port None true) ∷ (10 ∷ [], Port None true) ∷ (subtree, Space 1 None)
    ∷ (in_subtree 0, with_talk (talk_out (At root_port) peer 0) (still_sending 128 70)) ∷ (in_subtree 1, Reference (At root_port)) ∷ [])
    (page_with subtree 2 [] ∷ page_with subtree 3 (7 ∷ []) ∷ [])

-- ---- holders: slot 5 of /1 is a space too, and slot 3 of it a thread

-- who holds /1 and who holds the space in it
unfoldable pub held_twice : Option Ptr → Option Ptr → World
held_twice outer within = world_of
    ((root_port, Port None false) ∷ (0 ∷ [], running 0 []) ∷ (subtree, Space 7 outer) ∷ (in_subtree 3, running 0 []) ∷ (in_subtree 5, Space 8 within) ∷ []) []

-- the porters of the root and of /2
abbrev pub porters : List (Path × Body)
porters = (255 ∷ [], thread_in_mode (Native (replicate 16 0)) 0) ∷ (beside 255, thread_in_mode (Native (replicate 16 0)) 0) ∷ []

-- who holds /1, and where a reference to what is in slot 4 of it stands
unfoldable pub with_scratch : Option Ptr → Path → World
with_scratch holder scratch = world_of
    ((scratch, Reference (At (in_subtree 4))) ∷ (in_subtree 4, Portset) ∷ (subtree, Space 1 holder) ∷ (2 ∷ [], Space 2 None) ∷ porters) []

-- ---- memory: slot 3 of /1 is a mapping and slot 5 a region

-- where the mapping leads, and the keeper. Slot 6 of the root is a region too, and slot 7 of /2 a port
unfoldable pub memory_of : Ptr → Ptr → World
memory_of region keeper = world_of
    ((in_subtree 3, Mapping (record { first = 8; count = 1; offset = 0; write = true; region = region }))
    ∷ (in_subtree 5, Region (record { first = 2; count = 1; write = true; keeper = keeper }))
    ∷ (6 ∷ [], Region (record { first = 2; count = 1; write = true; keeper = Null })) ∷ (beside 7, Port None false) ∷ two_spaces) []

-- ---- many places: in /1 are a thread, a space with a reference in slot 7, and a reference in slot 4

-- a fault there
abbrev pub missed_3 : Ptr → Fault
missed_3 port = record { page = 3; write = true; port = port; taker = None }

-- at which ports its talk and its fault are, where the deep reference leads, and where one of the root does. The port in
-- slot 7 of /2 is far, and the reference in slot 4 leads to it
unfoldable pub many : Ptr → Ptr → Ptr → Ptr → World
many talk fault deep from_root = world_of
    ((in_subtree 0, with_talk (talk_out talk Parked 0) (with_fault (missed_3 fault) (running 0 [])))
    ∷ (in_subtree 2, Space 3 None) ∷ (7 ∷ in_subtree 2, Reference deep)
    ∷ (in_subtree 4, Reference (At (beside 7))) ∷ (6 ∷ [], Reference from_root) ∷ (beside 7, Port None false) ∷ two_spaces) []

-- ---- what is inside: a client in slot 0, a server in slot 5 and a port in slot 4, in the set of slot 6; a space in slot 2

-- with a page in both spaces
unfoldable pub all_inside : World
all_inside = world_of
    ((in_subtree 0, with_talk (served_by (in_subtree 4) (in_subtree 5) turns.Server 3) (running 0 []))
    ∷ (in_subtree 5, running 1 []) ∷ (in_subtree 4, Port (Some 6) true) ∷ (in_subtree 6, Portset)
    ∷ (in_subtree 2, Space 3 (Some (At (in_subtree 5)))) ∷ (7 ∷ in_subtree 2, Reference (At subtree)) ∷ (6 ∷ [], Reference Null) ∷ two_spaces)
    (numbered subtree 1000 3 ∷ numbered (in_subtree 2) 2000 3 ∷ numbered [] 3000 3 ∷ [])

-- ---- to compute in these worlds is to unfold these
unfoldable pub cut_worlds : Unit {0}
unfolding machine seen_by cut open_place led_into talked_into led_from_1_2 sending_out held_twice with_scratch memory_of many all_inside
cut_worlds = tt
