-- Talks: a client in /1 and a server thread in /2, linked at the port in slot 3 of /2.
use Rattle.std.specs.Prelude.{ℕ, false, true, List, [], ◌∷◌, ◌++◌, map, Bool, Option, Some, None}
use Rattle.fk_model.specs.declared.thread.Turn.TheVariants as turns
use Rattle.fk_model.specs.Places.{Path, Ptr}
use Rattle.fk_model.specs.Places.Ptr.{Null, At}
use Rattle.fk_model.specs.Objects.{Talk, Fault, Peer, Body}
use Rattle.fk_model.specs.Objects.Peer.{Server, Parked}
use Rattle.fk_model.specs.Objects.Body.{Region, Port, Portset, Space, Reference}
use Rattle.fk_model.specs.World.{World}
use Rattle.fk_model.specs.Runs.{Event, run}
use Rattle.examples_moves.specs.Worked.{Page, machine, world_of, page_with, numbered, running, calling, stopped, with_talk, with_fault, served_by, registers_at}
use Rattle.examples_moves.specs.Worked.{scene, registers_from, goes, picks, times, client, server}

-- the port
abbrev pub port : Path
port = 3 ∷ 2 ∷ []

-- the talk at its client's turn
abbrev pub clients_turn : ℕ → Talk
clients_turn moved = served_by port server turns.Client moved

-- and at its server's
abbrev pub servers_turn : ℕ → Talk
servers_turn moved = served_by port server turns.Server moved

-- ---- a message: the client sends words of /1, which are 1000 and their addresses; in /2 words are 2000 and theirs

-- the client's registers in call 34
abbrev pub sending : ℕ → ℕ → List ℕ
sending address count = 34 ∷ 9 ∷ address ∷ count ∷ 448 ∷ 10 ∷ []

-- all is sent
abbrev pub sent_all : List ℕ
sent_all = 35 ∷ 9 ∷ 312 ∷ 0 ∷ 448 ∷ 10 ∷ []

-- the server's registers in call 50
abbrev pub asking_to_receive : ℕ → ℕ → List ℕ
asking_to_receive into room = 50 ∷ 8 ∷ 7 ∷ 6 ∷ into ∷ room ∷ []

-- both ends, their spaces, and the port
abbrev pub talkers : Body → Body → List (Path × Body)
talkers client_body server_body = (1 ∷ [], Space 1 None) ∷ (2 ∷ [], Space 2 None) ∷ (client, client_body) ∷ (server, server_body) ∷ (port, Port None false) ∷ []

-- the pages 2, 3, 4, 5 and 7 of /1, and 4, 5 and 6 of /2
abbrev pub both_pages : List Page
both_pages = map (numbered (1 ∷ []) 1000) (2 ∷ 3 ∷ 4 ∷ 5 ∷ 7 ∷ []) ++ map (numbered (2 ∷ []) 2000) (4 ∷ 5 ∷ 6 ∷ [])

-- from where and how many words are sent, and into how much room
unfoldable pub message : ℕ → ℕ → ℕ → ℕ → World
message address count into room =
    world_of (talkers (with_talk (clients_turn 0) (calling 20 (sending address count))) (calling 30 (asking_to_receive into room))) both_pages

-- 130 words from 182 into 200 words at 315, after so many moves of the client
unfoldable pub sent : ℕ → World
sent n = run (message 182 130 315 200) (times n (goes client))

-- the registers of both ends
abbrev pub ends_at : World → List ℕ × List ℕ
ends_at w = (registers_at w client, registers_at w server)

-- what they are with so much left to send and to receive
abbrev pub left : ℕ → ℕ → ℕ → ℕ → List ℕ × List ℕ
left address count into room = (registers_from (sending address count), registers_from (asking_to_receive into room))

-- both ends
abbrev pub both_ends : List Path
both_ends = client ∷ server ∷ []

-- 130 words from 256 into 40 words at 320
unfoldable pub sent_to_few : ℕ → World
sent_to_few n = run (message 256 130 320 40) (times n (goes client))

-- ---- calls of a client, with a talk at its own turn and without one. Slot 4 of /1 leads to the port

-- the client in a call, with a talk
unfoldable pub linked_in : List ℕ → World
linked_in g =
    world_of ((4 ∷ 1 ∷ [], Reference (At port)) ∷ talkers (with_talk (clients_turn 0) (calling 20 g)) (calling 30 (asking_to_receive 315 200))) both_pages

-- and without one
unfoldable pub unlinked_in : List ℕ → World
unlinked_in g = world_of ((4 ∷ 1 ∷ [], Reference (At port)) ∷ talkers (calling 20 g) (calling 30 (48 ∷ 7 ∷ []))) both_pages

-- ---- a pointer goes with the turn. Slot 4 of /1 holds a reference, and slot 5 of /2 one that leads nowhere

-- both in calls, at the client's turn
unfoldable pub handing : Ptr → List ℕ → List ℕ → World
handing to g h = world_of ((4 ∷ 1 ∷ [], Reference to) ∷ (5 ∷ 2 ∷ [], Reference Null) ∷ talkers (with_talk (clients_turn 7) (calling 20 g)) (calling 30 h))
    both_pages

-- the reference that is to take the pointer
abbrev pub taker : Path
taker = 5 ∷ 2 ∷ []

-- both ends, and that reference, after a move of the client
abbrev pub handed : World → List (Option Body)
handed w = scene (client ∷ server ∷ taker ∷ []) (run w (goes client ∷ []))

-- the server's call with this reference
abbrev pub taking_in : ℕ → List ℕ
taking_in k = 58 ∷ 8 ∷ 7 ∷ 6 ∷ 320 ∷ 40 ∷ k ∷ []

-- the same at the server's turn: its reference is handed over, and that of the client leads nowhere
unfoldable pub handing_back : Ptr → List ℕ → List ℕ → World
handing_back to g h = world_of ((4 ∷ 1 ∷ [], Reference Null) ∷ (5 ∷ 2 ∷ [], Reference to) ∷ talkers (with_talk (servers_turn 7) (calling 20 g)) (calling 30 h))
    both_pages

-- the client's call with this reference
abbrev pub taking_back_in : ℕ → List ℕ
taking_back_in k = 41 ∷ 8 ∷ 7 ∷ 6 ∷ 448 ∷ 40 ∷ k ∷ []

-- both ends, and the client's reference, after a move of the server
abbrev pub handed_back : World → List (Option Body)
handed_back w = scene (client ∷ server ∷ (4 ∷ 1 ∷ []) ∷ []) (run w (goes server ∷ []))

-- the space in slot 6 of the root, in which a port stands, is held by a third thread. The client's reference leads to the first pointer, the server's to the
-- second
unfoldable pub handing_beside : Ptr → Ptr → List ℕ → List ℕ → World
handing_beside to old g h = world_of
    ((4 ∷ 1 ∷ [], Reference to) ∷ (5 ∷ 2 ∷ [], Reference old) ∷ (6 ∷ [], Space 3 (Some (At (0 ∷ [])))) ∷ (1 ∷ 6 ∷ [], Port None false) ∷ (0 ∷ [], running 0 [])
    ∷ talkers (with_talk (clients_turn 7) (calling 20 g)) (calling 30 h)) both_pages

-- into that space, and to it
abbrev pub into_held : Ptr
into_held = At (1 ∷ 6 ∷ [])

abbrev pub to_held : Ptr
to_held = At (6 ∷ [])

-- both ends lie in one space, and name one reference
unfoldable pub handing_within : World
handing_within = world_of
    ((1 ∷ [], Space 1 None) ∷ (3 ∷ 1 ∷ [], Port None false) ∷ (4 ∷ 1 ∷ [], Reference (At (3 ∷ 1 ∷ [])))
    ∷ (client, with_talk (served_by (3 ∷ 1 ∷ []) (1 ∷ 1 ∷ []) turns.Client 0) (calling 20 (40 ∷ 4 ∷ [])))
    ∷ (1 ∷ 1 ∷ [], calling 30 (taking_in 4)) ∷ []) []

-- ---- two threads of the root read the states of both ends, into page 1 of the root

-- the first reads the client's state
abbrev pub reader : Path
reader = 5 ∷ []

-- the second the server's
abbrev pub second_reader : Path
second_reader = 6 ∷ []

-- the client is /1's object 0, the server /2's object 1
abbrev pub readers : List (Path × Body)
readers = (reader, calling 0 (9 ∷ 1 ∷ 0 ∷ 64 ∷ [])) ∷ (second_reader, calling 0 (9 ∷ 2 ∷ 1 ∷ 96 ∷ [])) ∷ []

-- the message, and both readers
unfoldable pub watched : World
watched = world_of (readers ++ talkers (with_talk (clients_turn 0) (calling 20 (sending 182 130))) (calling 30 (asking_to_receive 315 200)))
    (numbered [] 0 1 ∷ both_pages)

-- three moves of the client, and both reads
abbrev pub sent_and_read : List Event
sent_and_read = times 3 (goes client) ++ (goes reader ∷ goes second_reader ∷ [])

-- ---- page 5 of /2 is missing. A region there has it kept by port 9 of the root, which is in the set of slot 8

-- the keeper's thread
abbrev pub keeper_thread : Path
keeper_thread = 0 ∷ []

-- set r0, 48; set r1, 8; call; set r0, 17; set r1, 2; set r2, 5; addi r3, r15, -1; call; set r0, 56; call
abbrev pub waits_and_gives : List ℕ
waits_and_gives =
    0x0100_0000_0000_0030 ∷ 0x0110_0000_0000_0008 ∷ 0x1400_0000_0000_0000 ∷
    0x0100_0000_0000_0011 ∷ 0x0110_0000_0000_0002 ∷ 0x0120_0000_0000_0005 ∷ 0x133f_0000_ffff_ffff ∷ 0x1400_0000_0000_0000 ∷
    0x0100_0000_0000_0038 ∷ 0x1400_0000_0000_0000 ∷ []

-- the keeper's side, and the region
abbrev pub kept_by_root : List (Path × Body)
kept_by_root =
    (keeper_thread, running 0 []) ∷ (8 ∷ [], Portset) ∷ (9 ∷ [], Port (Some 8) false)
    ∷ (4 ∷ 2 ∷ [], Region (record { first = 5; count = 1; write = false; keeper = At (9 ∷ []) })) ∷ []

-- the message, without page 5 of /2
unfoldable pub kept : World
kept = world_of (kept_by_root ++ talkers (with_talk (clients_turn 0) (calling 20 (sending 182 130))) (calling 30 (asking_to_receive 315 200)))
    (page_with [] 0 waits_and_gives ∷ (map (numbered (1 ∷ []) 1000) (2 ∷ 3 ∷ 4 ∷ 5 ∷ 7 ∷ []) ++ map (numbered (2 ∷ []) 2000) (4 ∷ 6 ∷ [])))

-- what there is to look at
abbrev pub talkers_and_keeper : List Path
talkers_and_keeper = client ∷ server ∷ keeper_thread ∷ []

-- the receiver missed page 5 by a write
abbrev pub write_missed_5 : Option Peer → Fault
write_missed_5 taker = record { page = 5; write = true; port = At (9 ∷ []); taker = taker }

-- the client after its first block, and the server that has taken it
abbrev pub sent_5 : Body
sent_5 = with_talk (clients_turn 5) (calling 20 (sending 187 125))

abbrev pub received_5 : Body
received_5 = calling 30 (asking_to_receive 320 195)

-- five words arrive
abbrev pub arrives : List Event
arrives = goes client ∷ []

-- the receiver misses the page
abbrev pub misses : List Event
misses = goes server ∷ []

-- the keeper takes the fault
abbrev pub keeper_takes : List Event
keeper_takes = times 3 (goes keeper_thread) ++ picks keeper_thread server ∷ []

-- it gives a page of zeros
abbrev pub keeper_gives : List Event
keeper_gives = times 6 (goes keeper_thread)

-- it is done
abbrev pub mends : List Event
mends = times 3 (goes keeper_thread)

-- all of it, in parts
abbrev pub keeper_parts : List (List Event)
keeper_parts = arrives ∷ misses ∷ keeper_takes ∷ (keeper_gives ++ mends) ∷ []

-- all of it
abbrev pub until_mended : List Event
until_mended = (arrives ++ misses) ++ (keeper_takes ++ (keeper_gives ++ mends))

-- ---- a client calls a port that a server waits at: the port is in the set of slot 8 of /2

-- the client connects, the server waits
unfoldable pub meeting : World
meeting = world_of
    ((1 ∷ [], Space 1 None) ∷ (2 ∷ [], Space 2 None) ∷ (4 ∷ 1 ∷ [], Reference (At port)) ∷ (8 ∷ 2 ∷ [], Portset) ∷ (port, Port (Some 8) false)
    ∷ (client, calling 20 (33 ∷ 4 ∷ 182 ∷ 130 ∷ 448 ∷ 10 ∷ [])) ∷ (server, calling 30 (49 ∷ 8 ∷ 77 ∷ 66 ∷ 315 ∷ 200 ∷ [])) ∷ [])
    both_pages

-- ---- the server replies ten words from 256 to the client, which receives at 448

-- page 7 of /1 is there, and page 4 of /2
unfoldable pub replying : World
replying =
    world_of (talkers (with_talk (servers_turn 0) (calling 20 (36 ∷ 9 ∷ 312 ∷ 0 ∷ 448 ∷ 10 ∷ []))) (calling 30 (53 ∷ 8 ∷ 256 ∷ 10 ∷ 315 ∷ 200 ∷ []))) both_pages

-- the server ends the talk instead
unfoldable pub ending : World
ending = world_of (talkers (with_talk (servers_turn 0) (calling 20 (36 ∷ 9 ∷ 312 ∷ 0 ∷ 448 ∷ 10 ∷ []))) (calling 30 (55 ∷ []))) both_pages

-- ---- the server waits on the set of slot 8 of /2, with the port in it

-- a thread of /1, by its slot
abbrev pub waited_for : ℕ → Path
waited_for k = k ∷ 1 ∷ []

-- a parked talk at the server's turn, of which 5 words were moved
abbrev pub parked_talk : Talk
parked_talk = record { port = At port; peer = Parked; turn = turns.Server; moved = 5 }

-- a fault on the port
abbrev pub fault_at_port : ℕ → Bool → Option Peer → Fault
fault_at_port page write taker = record { page = page; write = write; port = At port; taker = taker }

-- a client that receives
abbrev pub receives_10 : Body
receives_10 = calling 20 (36 ∷ 0 ∷ 0 ∷ 0 ∷ 448 ∷ 10 ∷ [])

-- a fault that the server has taken
abbrev pub taken_fault : ℕ → Bool → Fault
taken_fault page write = fault_at_port page write (Some (Server (At server)))

-- a parked talk; a raised fault of a stopped thread; a parked fault; a fault that another has taken; a parked talk of a
-- stopped thread; a stopped thread that connects
unfoldable pub waiting : World
waiting = world_of
    ((1 ∷ [], Space 1 None)
    ∷ (2 ∷ [], Space 2 None) ∷ (4 ∷ 1 ∷ [], Reference (At port)) ∷ (8 ∷ 2 ∷ [], Portset) ∷ (port, Port (Some 8) false) ∷ (2 ∷ 2 ∷ [], running 0 [])
    ∷ (server, calling 30 (49 ∷ 8 ∷ 77 ∷ 66 ∷ 315 ∷ 200 ∷ []))
    ∷ (waited_for 10, with_talk parked_talk receives_10)
    ∷ (waited_for 11, stopped 1 (with_fault (fault_at_port 5 true None) (running 0 [])))
    ∷ (waited_for 12, with_fault (fault_at_port 6 false (Some Parked)) (running 0 []))
    ∷ (waited_for 13, with_fault (fault_at_port 7 false (Some (Server (At (2 ∷ 2 ∷ []))))) (running 0 []))
    ∷ (waited_for 14, stopped 1 (with_talk parked_talk (running 0 [])))
    ∷ (waited_for 15, stopped 1 (calling 0 (32 ∷ 4 ∷ []))) ∷ [])
    []

-- the server picks one of them
unfoldable pub picked : ℕ → World
picked k = run waiting (picks server (waited_for k) ∷ [])

-- the server waits while it serves
unfoldable pub still_serving : World
still_serving = world_of ((8 ∷ 2 ∷ [], Portset) ∷ talkers (with_talk (clients_turn 0) (running 20 [])) (calling 30 (48 ∷ 8 ∷ []))) []

-- ---- to compute in these worlds is to unfold these
unfoldable pub talk_worlds : Unit {0}
unfolding machine message sent sent_to_few linked_in unlinked_in handing handing_back handing_beside handing_within watched kept meeting replying ending waiting picked still_serving
talk_worlds = tt
