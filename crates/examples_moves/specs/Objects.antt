-- Objects: made, found, renamed and destroyed; references and handles.
use Rattle.std.specs.Prelude.{ℕ, false, true, List, [], ◌∷◌, Option, None, Some}
use Rattle.fk_model.specs.declared.thread.Turn.TheVariants as turns
use Rattle.fk_model.specs.Places.{Path, Ptr}
use Rattle.fk_model.specs.Places.Ptr.{Null, Dead, At}
use Rattle.fk_model.specs.Objects.{Peer, Body}
use Rattle.fk_model.specs.Objects.Peer.{Server}
use Rattle.fk_model.specs.Objects.Body.{Mutex, Region, Port, Portset, Space, Reference}
use Rattle.fk_model.specs.World.{World}
use Rattle.fk_model.specs.Runs.{Event, run}
use Rattle.examples_moves.specs.Worked.{machine, world_of, scene, numbered, running, calling, with_talk, with_fault, served_by, goes, times, caller}

-- ---- one thread of /1 makes a call there

-- with these objects in /1 besides
abbrev pub in_1 : List (Path × Body) → List ℕ → World
in_1 objects g = world_of ((1 ∷ [], Space 1 None) ∷ (caller, calling 0 g) ∷ objects) []

-- with nothing else
unfoldable pub alone_in : List ℕ → World
alone_in g = in_1 [] g

-- the reference in slot 2 leads to the port in slot 6 of the space in slot 4
unfoldable pub locating : ℕ → World
locating s = in_1 ((2 ∷ 1 ∷ [], Reference (At (6 ∷ 4 ∷ 1 ∷ []))) ∷ (4 ∷ 1 ∷ [], Space 2 None) ∷ (6 ∷ 4 ∷ 1 ∷ [], Port None false) ∷ []) (7 ∷ 2 ∷ s ∷ [])

-- a space with objects in the slots 3 and 7 alone: the thread that searches, and a mutex
abbrev pub searcher : Path
searcher = 3 ∷ 1 ∷ []

-- it searches from a slot on
unfoldable pub searching : ℕ → World
searching from = world_of ((1 ∷ [], Space 1 None) ∷ (searcher, calling 0 (4 ∷ 256 ∷ from ∷ [])) ∷ (7 ∷ 1 ∷ [], Mutex false) ∷ []) []

-- references in the slots 1 to 4: to nothing, to what was destroyed, to a port, to the thread; a mutex in 5, a port in 6
unfoldable pub with_references : List ℕ → World
with_references g = in_1
    ((1 ∷ 1 ∷ [], Reference Null) ∷ (2 ∷ 1 ∷ [], Reference Dead) ∷ (3 ∷ 1 ∷ [], Reference (At (6 ∷ 1 ∷ []))) ∷ (4 ∷ 1 ∷ [], Reference (At caller))
    ∷ (5 ∷ 1 ∷ [], Mutex false) ∷ (6 ∷ 1 ∷ [], Port None false) ∷ (240 ∷ 1 ∷ [], Reference (At caller)) ∷ []) g

-- ---- the space in slot 2 of the root is destroyed, by a thread of the root

-- the caller
abbrev pub destroyer : Path
destroyer = 0 ∷ []

-- it serves the thread in slot 1 of /2
abbrev pub left_server : Path
left_server = 1 ∷ []

-- the server receives
abbrev pub server_receives : Body
server_receives = calling 30 (50 ∷ 0 ∷ 0 ∷ 0 ∷ 64 ∷ 10 ∷ [])

-- it is ended with ENDED
abbrev pub server_ended : Body
server_ended = running 31 (14 ∷ 0 ∷ 0 ∷ 0 ∷ 64 ∷ 10 ∷ [])

-- the caller still destroys
abbrev pub still_destroys : Body
still_destroys = calling 0 (2 ∷ 256 ∷ 2 ∷ [])

-- the thread of /2 that it serves
abbrev pub served_one : Body
served_one = with_talk (served_by (3 ∷ []) left_server turns.Client 0) (running 20 [])

-- what there is at first, but for the root
abbrev pub doomed : List (Path × Body)
doomed =
    (destroyer, still_destroys) ∷ (left_server, server_receives) ∷ (3 ∷ [], Port None false)
    ∷ (2 ∷ [], Space 1 None) ∷ (0 ∷ 2 ∷ [], Reference (At (3 ∷ []))) ∷ (1 ∷ 2 ∷ [], served_one) ∷ (4 ∷ 2 ∷ [], Mutex false)
    ∷ (5 ∷ [], Reference (At (2 ∷ []))) ∷ (6 ∷ [], Reference (At (1 ∷ 2 ∷ []))) ∷ []

-- each space has a page
unfoldable pub destroying : World
destroying = world_of doomed (numbered [] 1000 1 ∷ numbered (2 ∷ []) 2000 0 ∷ [])

-- the objects of /2, and /2 itself; the server, and the caller; the references to /2 and to the thread in it
abbrev pub in_2_and_beside : List Path
in_2_and_beside = (0 ∷ 2 ∷ []) ∷ (1 ∷ 2 ∷ []) ∷ (4 ∷ 2 ∷ []) ∷ (2 ∷ []) ∷ left_server ∷ destroyer ∷ (5 ∷ []) ∷ (6 ∷ []) ∷ []

-- three stages, and the last one
abbrev pub up_to_the_last : List (List Event)
up_to_the_last = times 3 (goes destroyer) ∷ (goes destroyer ∷ []) ∷ []

-- after so many stages
unfoldable pub destroyed : ℕ → World
destroyed n = run destroying (times n (goes destroyer))

-- ---- threads of /1 rename a port, a space with an object, and a port set

-- a thread that renames
abbrev pub renamer : ℕ → Path
renamer k = k ∷ 1 ∷ []

-- what there is at first, but for the root
abbrev pub to_rename : List (Path × Body)
to_rename =
    (1 ∷ [], Space 1 None) ∷ (2 ∷ [], Space 2 None) ∷ (8 ∷ 1 ∷ [], Space 3 None) ∷ (0 ∷ 8 ∷ 1 ∷ [], Mutex false)
    ∷ (4 ∷ 1 ∷ [], Port (Some 20) false) ∷ (20 ∷ 1 ∷ [], Portset)
    ∷ (5 ∷ 1 ∷ [], Reference (At (4 ∷ 1 ∷ []))) ∷ (6 ∷ 1 ∷ [], Reference (At (4 ∷ 1 ∷ []))) ∷ (0 ∷ 2 ∷ [], Reference (At (4 ∷ 1 ∷ [])))
    ∷ (renamer 10, calling 0 (3 ∷ 256 ∷ 4 ∷ 7 ∷ [])) ∷ (renamer 11, calling 0 (3 ∷ 256 ∷ 7 ∷ 5 ∷ [])) ∷ (renamer 12, calling 0 (3 ∷ 256 ∷ 8 ∷ 9 ∷ []))
    ∷ (renamer 13, calling 0 (3 ∷ 256 ∷ 20 ∷ 21 ∷ [])) ∷ []

-- nothing is in memory
unfoldable pub renaming : World
renaming = world_of to_rename []

-- the port set's old and new slot, and the port
abbrev pub port_set_and_port : List Path
port_set_and_port = (20 ∷ 1 ∷ []) ∷ (21 ∷ 1 ∷ []) ∷ (4 ∷ 1 ∷ []) ∷ []

-- the renamed port's old and new slot, and the three references to it
abbrev pub port_and_references : List Path
port_and_references = (4 ∷ 1 ∷ []) ∷ (7 ∷ 1 ∷ []) ∷ (5 ∷ 1 ∷ []) ∷ (6 ∷ 1 ∷ []) ∷ (0 ∷ 2 ∷ []) ∷ []

-- ---- a port of the root, in a set, and all that goes with it: a talk, a fault that is raised and one that is taken, and
-- the keeper of a region. The caller in slot 0 of the root makes a call

-- the client of a talk at the port
abbrev pub talker : Path
talker = 0 ∷ 1 ∷ []

-- a thread with a fault that is raised on the port
abbrev pub faulty : Path
faulty = 2 ∷ 1 ∷ []

-- a thread with a fault that was raised there and is taken
abbrev pub helped : Path
helped = 4 ∷ 1 ∷ []

-- the port
abbrev pub set_port : Path
set_port = 3 ∷ []

-- the taker of that fault
abbrev pub helper : Path
helper = 7 ∷ []

-- a thread in a talk
abbrev pub talking : Path → Path → Body → Body
talking port server b = with_talk (served_by port server turns.Client 0) b

-- a thread with a fault on page 5
abbrev pub missing_5 : Path → Option Peer → Body → Body
missing_5 port taker b = with_fault (record { page = 5; write = false; port = At port; taker = taker }) b

-- a region with a keeper
abbrev pub kept_by : Ptr → Body
kept_by keeper = Region (record { first = 0; count = 9; write = false; keeper = keeper })

-- its server in slot 2 of the root; the taker of one fault in slot 7; a native server's port in slot 10
abbrev pub root_server : Path
root_server = 2 ∷ []

-- the caller makes a call
unfoldable pub related : List ℕ → World
related g = world_of
    ((1 ∷ [], Space 2 None)
    ∷ (root_server, server_receives) ∷ (set_port, Port (Some 8) false) ∷ (8 ∷ [], Portset) ∷ (helper, running 0 []) ∷ (10 ∷ [], Port None true)
    ∷ (destroyer, calling 0 g) ∷ (talker, talking set_port root_server (calling 20 (38 ∷ [])))
    ∷ (faulty, missing_5 set_port None (running 0 [])) ∷ (helped, missing_5 set_port (Some (Server (At helper))) (running 0 []))
    ∷ (3 ∷ 1 ∷ [], kept_by (At set_port)) ∷ [])
    []

-- what there is to look at
abbrev pub related_ones : List Path
related_ones = root_server ∷ talker ∷ faulty ∷ helped ∷ (3 ∷ 1 ∷ []) ∷ []

-- what stands at some paths after the call
unfoldable pub scene_after : List Path → List ℕ → List (Option Body)
scene_after xs g = scene xs (run (related g) (goes destroyer ∷ []))

-- what becomes of the caller
unfoldable pub answer_to : List ℕ → Option Body
answer_to g = (run (related g) (goes destroyer ∷ [])).body destroyer

-- ---- the thread in slot 5 of the root, which holds the space in slot 6, destroys itself, or another destroys it

-- the holder
abbrev pub space_holder : Path
space_holder = 5 ∷ []

-- both are in call 2
unfoldable pub holder_dies : World
holder_dies =
    world_of ((destroyer, calling 0 (2 ∷ 256 ∷ 5 ∷ [])) ∷ (space_holder, calling 0 (2 ∷ 256 ∷ 5 ∷ [])) ∷ (6 ∷ [], Space 1 (Some (At space_holder))) ∷ []) []

-- ---- a thread of /1/2 names /1, by the reference in slot 1, and its own space there

-- it makes a call
unfoldable pub beneath_itself : List ℕ → World
beneath_itself g =
    world_of ((1 ∷ [], Space 1 None) ∷ (2 ∷ 1 ∷ [], Space 2 None) ∷ (0 ∷ 2 ∷ 1 ∷ [], calling 0 g) ∷ (1 ∷ 2 ∷ 1 ∷ [], Reference (At (1 ∷ []))) ∷ []) []

-- ---- to compute in these worlds is to unfold these
unfoldable pub object_worlds : Unit {0}
unfolding machine alone_in locating searching with_references destroying destroyed renaming related scene_after answer_to holder_dies beneath_itself
object_worlds = tt
