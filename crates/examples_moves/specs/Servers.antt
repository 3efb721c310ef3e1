-- Native servers: a thread of /1 talks to the native server of port 9 of the root.
use Rattle.std.specs.Prelude.{ℕ, true, List, [], ◌∷◌, ◌++◌, None}
use Rattle.fk_model.specs.declared.thread.Turn.{Turn}
use Rattle.fk_model.specs.declared.thread.Turn.TheVariants as turns
use Rattle.fk_model.specs.Places.{Path}
use Rattle.fk_model.specs.Places.Ptr.{At}
use Rattle.fk_model.specs.Objects.{Talk}
use Rattle.fk_model.specs.Objects.Peer.{Service, Parked}
use Rattle.fk_model.specs.Objects.Body.{Port, Space, Reference}
use Rattle.fk_model.specs.World.{World}
use Rattle.fk_model.specs.Runs.{Event}
use Rattle.examples_moves.specs.Worked.{machine, world_of, page_with, numbered, running, calling, with_talk, goes, times, accepts, hands_over, root_port}
use Rattle.examples_moves.specs.Worked.{client}

-- its talk with the native server
abbrev pub served : Turn → ℕ → Talk
served turn moved = record { port = At root_port; peer = Service; turn = turn; moved = moved }

-- ---- a program sends 70 words from 128 on, of which the 65th is 7, with no room for a reply

-- set r6, 7; set r7, 192; store r6, r7, 0; set r0, 33; set r1, 1; set r2, 128; set r3, 70; call; halt
abbrev pub sends_70 : List ℕ
sends_70 =
    0x0160_0000_0000_0007 ∷ 0x0170_0000_0000_00c0 ∷ 0x0e67_0000_0000_0000 ∷
    0x0100_0000_0000_0021 ∷ 0x0110_0000_0000_0001 ∷ 0x0120_0000_0000_0080 ∷ 0x0130_0000_0000_0046 ∷ 0x1400_0000_0000_0000 ∷
    0x0000_0000_0000_0000 ∷ []

-- it has the pages 0, 2 and 3
unfoldable pub to_console : World
to_console = world_of
    ((root_port, Port None true) ∷ (1 ∷ [], Space 1 None) ∷ (1 ∷ 1 ∷ [], Reference (At root_port)) ∷ (client, running 0 []) ∷ [])
    (page_with (1 ∷ []) 0 sends_70 ∷ page_with (1 ∷ []) 2 [] ∷ page_with (1 ∷ []) 3 [] ∷ [])

-- its registers in that call: the code, and what is left to send
abbrev pub rest_of_send : ℕ → ℕ → ℕ → List ℕ
rest_of_send code address count = code ∷ 1 ∷ address ∷ count ∷ 0 ∷ 0 ∷ 7 ∷ 192 ∷ []

-- it enters its call
abbrev pub entered : List Event
entered = times 8 (goes client)

-- it is accepted
abbrev pub and_accepted : List Event
and_accepted = entered ++ accepts root_port client ∷ []

-- it sends a block
abbrev pub and_sent_one : List Event
and_sent_one = and_accepted ++ goes client ∷ []

-- it sends another
abbrev pub and_sent_two : List Event
and_sent_two = and_sent_one ++ goes client ∷ []

-- it hands over the turn
abbrev pub and_turned : List Event
and_turned = and_sent_two ++ goes client ∷ []

-- it gets the turn back
abbrev pub and_returned : List Event
and_returned = and_turned ++ hands_over root_port ∷ []

-- ---- a client receives so many words at 192, at its server's turn

-- page 3 is there
unfoldable pub awaiting : ℕ → World
awaiting room = world_of
    ((root_port, Port None true) ∷ (1 ∷ [], Space 1 None) ∷ (client, with_talk (served turns.Server 0) (calling 20 (36 ∷ 1 ∷ 128 ∷ 0 ∷ 192 ∷ room ∷ []))) ∷ [])
    (numbered (1 ∷ []) 1000 3 ∷ [])

-- a client in this call, at this turn. Slot 1 of /1 holds a reference to the port
unfoldable pub handing_to_native : Turn → List ℕ → World
handing_to_native turn g = world_of
    ((root_port, Port None true) ∷ (1 ∷ [], Space 1 None) ∷ (1 ∷ 1 ∷ [], Reference (At root_port)) ∷ (client, with_talk (served turn 0) (calling 20 g)) ∷ [])
    (numbered (1 ∷ []) 1000 3 ∷ [])

-- ---- a client with a parked talk at the server's turn, and one that connects

-- the one that connects
abbrev pub second : Path
second = 2 ∷ 1 ∷ []

-- the first waits for the native server
unfoldable pub two_clients : World
two_clients = world_of
    ((root_port, Port None true) ∷ (1 ∷ [], Space 1 None) ∷ (1 ∷ 1 ∷ [], Reference (At root_port)) ∷ (second, calling 20 (32 ∷ 1 ∷ []))
    ∷ (client, with_talk (record { port = At root_port; peer = Parked; turn = turns.Server; moved = 5 }) (calling 20 (36 ∷ 1 ∷ 128 ∷ 0 ∷ 192 ∷ 4 ∷ [])))
    ∷ []) []

-- a client ends its talk
unfoldable pub leaving : World
leaving = world_of ((root_port, Port None true) ∷ (1 ∷ [], Space 1 None) ∷ (client, with_talk (served turns.Client 0) (calling 20 (39 ∷ []))) ∷ []) []

-- a client runs on at its server's turn
unfoldable pub idling : World
idling = world_of ((root_port, Port None true) ∷ (1 ∷ [], Space 1 None) ∷ (client, with_talk (served turns.Server 0) (running 20 [])) ∷ []) []

-- ---- to compute in these worlds is to unfold these
unfoldable pub server_worlds : Unit {0}
unfolding machine to_console awaiting handing_to_native two_clients leaving idling
server_worlds = tt
