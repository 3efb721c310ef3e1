-- How moves look from within the subtree /1. The root is its nester, with a thread in slot 0 that serves at port 9, which
-- is in the set of slot 8, and with a native server at port 10.
use Rattle.std.specs.Prelude.{◌≡◌, ℕ, true, false, List, [], ◌∷◌, ◌++◌, replicate, Option, Some, None}
use Rattle.fk_model.specs.declared.thread.Turn.{Turn}
use Rattle.fk_model.specs.declared.thread.Turn.TheVariants as turns
use Rattle.fk_model.specs.Places.{Path, Ptr}
use Rattle.fk_model.specs.Places.Ptr.{At}
use Rattle.fk_model.specs.Objects.{Peer, Body}
use Rattle.fk_model.specs.Objects.Mode.{Native}
use Rattle.fk_model.specs.Objects.Peer.{Server, Service, Parked}
use Rattle.fk_model.specs.Objects.Body.{Mutex, Cond, Mapping, Region, Port, Portset, Space, Reference}
use Rattle.fk_model.specs.World.{World}
use Rattle.fk_model.specs.Runs.{Event}
use Rattle.fk_model.specs.Cut.{seen_by, cut}
use Rattle.fk_model.specs.Further.{Touch}
use Rattle.fk_model.specs.Further.Onward.{ByOthers}
use Rattle.fk_model.specs.Seen.{Seen, IsSeen, seen_row}
use Rattle.fk_model.specs.Seen.Seen.{Onwards}
use Rattle.examples_moves.specs.Worked.{Page, machine, world_of, page_with, numbered, running, calling, thread_in_mode, with_talk, with_fault, root_port}
use Rattle.examples_moves.specs.Worked.{stores_at_r2}
use Rattle.examples_subtrees.specs.Cuts.{in_subtree, subtree}

-- ---- how the subtree sees a move

abbrev pub LooksLike : World → Event → Seen → Type 0
LooksLike w e seen = IsSeen w [] 1 e seen

-- as something that the outside does to it
abbrev pub Touches : World → Event → Touch → Type 0
Touches w e touch = LooksLike w e (Onwards (ByOthers touch))

-- it is neither a move of the subtree's own nor a touch
abbrev pub IsInNoRow : World → Event → Type 0
IsInNoRow w e = seen_row w subtree e ≡ None

-- ---- who is there

abbrev pub outer_server : Path
outer_server = 0 ∷ []

abbrev pub native_port : Path
native_port = 10 ∷ []

abbrev pub porter : Path
porter = 255 ∷ []

abbrev pub inner_client : Path
inner_client = in_subtree 0

-- the nester, with what its thread in slot 0 is
abbrev pub nester_of : Body → List (Path × Body)
nester_of server =
    (outer_server, server) ∷ (8 ∷ [], Portset) ∷ (root_port, Port (Some 8) false) ∷ (native_port, Port None true)
    ∷ (porter, thread_in_mode (Native (replicate 16 0)) 0) ∷ (subtree, Space 1 None) ∷ []

-- what else is in /1: references to both ports, a mutex, a condition, and a port in slot 5 at which slot 6 serves
abbrev pub rest_of_subtree : List (Path × Body)
rest_of_subtree =
    (in_subtree 1, Reference (At root_port)) ∷ (in_subtree 2, Reference (At native_port)) ∷ (in_subtree 3, Mutex false) ∷ (in_subtree 4, Cond)
    ∷ (in_subtree 5, Port (Some 7) false) ∷ (in_subtree 7, Portset) ∷ []

abbrev pub pages_of : List Page
pages_of = numbered subtree 1000 2 ∷ numbered subtree 1000 3 ∷ numbered [] 2000 4 ∷ numbered [] 2000 5 ∷ []

-- the server of port 9, and the thread in slot 0 of /1
unfoldable pub facing : Body → Body → World
facing server client = world_of ((inner_client, client) ∷ (nester_of server ++ rest_of_subtree)) pages_of

-- with one object more
unfoldable pub facing_beside : Path → Body → Body → Body → World
facing_beside x b server client = world_of ((x, b) ∷ (inner_client, client) ∷ (nester_of server ++ rest_of_subtree)) pages_of

-- ---- what they are at

abbrev pub at_9 : Turn → Body → Body
at_9 turn b = with_talk (record { port = At root_port; peer = Server (At outer_server); turn = turn; moved = 0 }) b

abbrev pub at_10 : Turn → Body → Body
at_10 turn b = with_talk (record { port = At native_port; peer = Service; turn = turn; moved = 0 }) b

-- a talk at port 9 or port 10 that waits to be taken up
abbrev pub parked_at : Path → Body → Body
parked_at port b = with_talk (record { port = At port; peer = Parked; turn = turns.Server; moved = 0 }) b

-- the client sends so many words from 128 on
abbrev pub sends_words : ℕ → Body
sends_words count = calling 20 (37 ∷ 0 ∷ 128 ∷ count ∷ [])

-- it receives into so much room from 192 on
abbrev pub receives_into : ℕ → Body
receives_into room = calling 20 (36 ∷ 0 ∷ 0 ∷ 0 ∷ 192 ∷ room ∷ [])

-- the server receives into so much room from 256 on
abbrev pub server_receives : ℕ → Body
server_receives room = calling 30 (50 ∷ 0 ∷ 0 ∷ 0 ∷ 256 ∷ room ∷ [])

-- it sends so many words from 256 on
abbrev pub server_sends : ℕ → Body
server_sends count = calling 30 (51 ∷ 0 ∷ 256 ∷ count ∷ [])

abbrev pub waits : Body
waits = calling 30 (48 ∷ 8 ∷ [])

-- a thread with a fault at port 9, and with who has taken it
abbrev pub faulty : Option Peer → Body
faulty taker = with_fault (record { page = 9; write = true; port = At root_port; taker = taker }) (running 0 [])

-- ---- the server hands over the pointer in slot 3, or in another

abbrev pub hands_over_of : ℕ → Body
hands_over_of k = calling 30 (57 ∷ k ∷ [])

-- the client receives into 4 words of room, and the reference in slot 1, or another, awaits a pointer
abbrev pub awaits_in : ℕ → Body
awaits_in k = calling 20 (41 ∷ 0 ∷ 0 ∷ 0 ∷ 192 ∷ 4 ∷ k ∷ [])

unfoldable pub handing_in : Ptr → Body → World
handing_in to client = facing_beside (3 ∷ []) (Reference to) (hands_over_of 3) (at_9 turns.Server client)

-- ---- two threads inside talk at the port in slot 5, and a third sleeps on the condition

abbrev pub inner_server : Path
inner_server = in_subtree 6

unfoldable pub talking_inside : World
talking_inside = facing_beside inner_server (calling 30 (50 ∷ 0 ∷ 0 ∷ 0 ∷ 192 ∷ 9 ∷ [])) (running 0 [])
    (with_talk (record { port = At (in_subtree 5); peer = Server (At inner_server); turn = turns.Client; moved = 0 }) (sends_words 5))

unfoldable pub sleeping_inside : World
sleeping_inside = facing_beside inner_server (calling 5 (25 ∷ 4 ∷ 3 ∷ [])) (running 0 []) (calling 20 (26 ∷ 4 ∷ []))

-- a thread inside waits, and one of the nester is at its Connect to the port inside
unfoldable pub waiting_inside : World
waiting_inside = facing_beside (11 ∷ []) (Reference (At (in_subtree 5))) (calling 30 (32 ∷ 11 ∷ [])) (calling 20 (48 ∷ 7 ∷ []))

-- ---- page 10 of the nester is a window on page 3 of /1, and its thread stores a word at its begin

unfoldable pub storing_in : ℕ → World
storing_in word = world_of
    ((outer_server, running 0 (0 ∷ word ∷ 640 ∷ []))
    ∷ (6 ∷ [], Mapping (record { first = 10; count = 1; offset = 0; write = true; region = At (in_subtree 8) }))
    ∷ (in_subtree 8, Region (record { first = 3; count = 1; write = true; keeper = At root_port })) ∷ (subtree, Space 1 None) ∷ (
      root_port,
      Port None false,
    ) ∷ [])
    (page_with [] 0 stores_at_r2 ∷ pages_of)

-- ---- to compute in these worlds is to unfold these
unfoldable pub seen_worlds : Unit {0}
unfolding machine seen_by cut facing facing_beside handing_in talking_inside sleeping_inside waiting_inside storing_in
seen_worlds = tt
