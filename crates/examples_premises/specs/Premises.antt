-- A world that meets every premise of the laws: a nester with a subtree in slot 1, in which there is something of all.
use Rattle.std.specs.Prelude.{ℕ, true, false, List, [], ◌∷◌, replicate, Option, None, Some}
use Rattle.fk_model.specs.declared.stage.Stage.TheVariants.{GetState, LinkPark, FaultPark}
use Rattle.fk_model.specs.declared.thread.Turn.TheVariants as turns
use Rattle.fk_model.specs.Places.{Path, Ptr}
use Rattle.fk_model.specs.Places.Ptr.{At}
use Rattle.fk_model.specs.Objects.{Body}
use Rattle.fk_model.specs.Objects.Mode.{Native}
use Rattle.fk_model.specs.Objects.Peer.{Server, Service, Parked}
use Rattle.fk_model.specs.Objects.Body.{Mutex, Mapping, Region, Port, Portset, Space, Reference}
use Rattle.fk_model.specs.World.{World}
use Rattle.fk_model.specs.Runs.{Event}
use Rattle.fk_model.specs.Valid.{is_fit}
use Rattle.fk_model.specs.Cut.{seen_by, cut}
use Rattle.fk_model.specs.Closed.{open_place}
use Rattle.examples_moves.specs.Worked.{Page, machine, world_of, numbered, running, calling, thread_in_mode, with_talk, with_fault, goes, makes}

abbrev pub nesters_porter : Path
nesters_porter = 255 ∷ []

-- what stands in a slot of the subtree
abbrev pub within : ℕ → Path
within k = k ∷ 1 ∷ []

-- a client sends to the native server of port 9
abbrev pub to_native : Body
to_native = with_talk (record { port = At (9 ∷ []); peer = Service; turn = turns.Client; moved = 5 }) (calling 20 (37 ∷ 0 ∷ 128 ∷ 70 ∷ []))

-- a talk at port 8 waits to be taken up
abbrev pub parked_client : Body
parked_client = with_talk (record { port = At (8 ∷ []); peer = Parked; turn = turns.Server; moved = 0 }) (calling 20 (36 ∷ 0 ∷ 0 ∷ 0 ∷ 128 ∷ 4 ∷ []))

-- a fault that the thread in slot 5 has taken at the port in slot 4
abbrev pub faulty_thread : Body
faulty_thread = with_fault (record { page = 9; write = true; port = At (within 4); taker = Some (Server (At (within 5))) }) (running 3 [])

abbrev pub objects_of : Option Ptr → List (Path × Body)
objects_of holder =
    (9 ∷ [], Port None true) ∷ (8 ∷ [], Port None false) ∷ (nesters_porter, thread_in_mode (Native (replicate 16 0)) 0)
    ∷ (1 ∷ [], Space 1 holder) ∷ (within 0, to_native) ∷ (within 2, faulty_thread) ∷ (within 3, parked_client)
    ∷ (within 4, Port (Some 10) false) ∷ (within 5, running 1 []) ∷ (within 10, Portset)
    ∷ (within 6, Space 2 (Some (At (within 5)))) ∷ (7 ∷ within 6, Reference (At (within 4)))
    ∷ (within 7, Region (record { first = 2; count = 1; write = true; keeper = At (8 ∷ []) }))
    ∷ (within 11, Mapping (record { first = 8; count = 1; offset = 0; write = true; region = At (within 7) })) ∷ (within 12, Mutex true) ∷ []

abbrev pub pages_of : List Page
pages_of = numbered (1 ∷ []) 1000 2 ∷ numbered (1 ∷ []) 1000 255 ∷ numbered (within 6) 2000 0 ∷ []

-- with this holder of the subtree
unfoldable pub full_of_all : Option Ptr → World
full_of_all holder = world_of (objects_of holder) pages_of

-- held by the porter, which has this in its scratch
unfoldable pub held_with : Body → World
held_with b = world_of ((240 ∷ [], b) ∷ objects_of (Some (At nesters_porter))) pages_of

-- with one object more, and with one page more
unfoldable pub with_object : Path → Body → World
with_object x b = world_of ((x, b) ∷ objects_of None) pages_of

unfoldable pub with_one_page : Path → ℕ → World
with_one_page space page = world_of (objects_of None) (numbered space 0 page ∷ pages_of)

-- a thread of the nester's that somebody within serves, and one whose fault somebody within has taken
abbrev pub served_within : Body
served_within = with_talk (record { port = At (within 4); peer = Server (At (within 5)); turn = turns.Client; moved = 0 }) (running 0 [])

abbrev pub fault_within : Body
fault_within = with_fault (record { page = 9; write = true; port = At (within 4); taker = Some (Server (At (within 5))) }) (running 0 [])

-- a mapping of the nester's onto the region within
abbrev pub nesters_window : Body
nesters_window = Mapping (record { first = 8; count = 1; offset = 0; write = true; region = At (within 7) })

-- a user of the nester's beside the subtree that its porter holds, with a reference into it in its scratch
unfoldable pub with_user : World
with_user = world_of ((0 ∷ [], running 0 []) ∷ (240 ∷ [], Reference (At (within 5))) ∷ objects_of (Some (At nesters_porter))) pages_of

abbrev pub users_goes : Event
users_goes = goes (0 ∷ [])

-- the porter makes a call, and gives so many zeros, or two numbers and then zeros
abbrev pub asks_with : ℕ → Event
asks_with count = makes nesters_porter (GetState 1 5 0) (replicate count 0)

abbrev pub parks_talk : ℕ → ℕ → Event
parks_talk turn moved = makes nesters_porter (LinkPark 1 0 8) (turn ∷ moved ∷ replicate 62 0)

abbrev pub parks_fault : ℕ → Event
parks_fault taken = makes nesters_porter (FaultPark 1 2 8 taken) (9 ∷ 1 ∷ replicate 62 0)

-- a native server in another space, and a thread there that connects to it
abbrev pub strangers_port : Path
strangers_port = 9 ∷ 2 ∷ []

abbrev pub strangers_client : Path
strangers_client = 0 ∷ 2 ∷ []

unfoldable pub with_stranger : World
with_stranger = world_of ((2 ∷ [], Space 3 None) ∷ (strangers_port, Port None true) ∷ (strangers_client, calling 0 (32 ∷ 9 ∷ [])) ∷ objects_of None) pages_of

unfoldable pub premises : Unit {0}
unfolding machine is_fit seen_by cut open_place full_of_all held_with with_object with_one_page with_user with_stranger
premises = tt
