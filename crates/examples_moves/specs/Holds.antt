-- Holds: threads of the root beside the space /1, which one of them holds.
use Rattle.std.specs.Prelude.{ℕ, false, true, List, [], ◌∷◌, ◌++◌, replicate, Option, None, Some}
use Rattle.fk_model.specs.declared.thread.Turn.TheVariants as turns
use Rattle.fk_model.specs.Places.{Path, Ptr}
use Rattle.fk_model.specs.Places.Ptr.{Null, At}
use Rattle.fk_model.specs.Objects.{Body}
use Rattle.fk_model.specs.Objects.Mode.{Native}
use Rattle.fk_model.specs.Objects.Peer.{Server}
use Rattle.fk_model.specs.Objects.Body.{Mapping, Region, Port, Space, Reference}
use Rattle.fk_model.specs.World.{World}
use Rattle.examples_moves.specs.Worked.{machine, world_of, page_with, numbered, running, calling, thread_in_mode, with_talk, with_fault, served_by, client}
use Rattle.examples_moves.specs.Worked.{server, stores_at_r2}
use Rattle.examples_moves.specs.States.{inner_porter}

-- the thread that holds or would hold /1, and another one
abbrev pub holder : Path
holder = 0 ∷ []

-- another thread of the root
abbrev pub other : Path
other = 2 ∷ []

-- a thread in /1
abbrev pub inner : Path
inner = 0 ∷ 1 ∷ []

-- set r1, 3
abbrev pub sets_r1 : List ℕ
sets_r1 = 0x0110_0000_0000_0003 ∷ []

-- slot 5 of the root holds a space that nobody holds
abbrev pub root_and_1 : Option Ptr → List ℕ → List ℕ → List (Path × Body)
root_and_1 held g h =
    (holder, calling 0 g) ∷ (other, calling 0 h) ∷ (1 ∷ [], Space 1 held) ∷ (inner, running 0 []) ∷ (5 ∷ [], Space 2 None) ∷ []

-- the holder is about to hold /1, and the other thread makes a call
unfoldable pub before_hold : List ℕ → World
before_hold h = world_of (root_and_1 None (13 ∷ 256 ∷ 1 ∷ []) h) (numbered [] 1000 1 ∷ page_with (1 ∷ []) 0 sets_r1 ∷ [])

-- /1 is held, and both threads make calls. In the root are references to the thread in /1, in slot 8, and to nothing, in
-- slot 9, and a port in slot 10, to which a reference of /1 leads. Page 2
-- begins with the record of a thread that runs. In the space in slot 5 is another that is held
unfoldable pub held : List ℕ → List ℕ → World
held g h = world_of
    (root_and_1 (Some (At holder)) g h
    ++ ((8 ∷ [], Reference (At inner)) ∷ (9 ∷ [], Reference Null) ∷ (10 ∷ [], Port None false) ∷ (7 ∷ 1 ∷ [], Reference (At (10 ∷ [])))
    ∷ (0 ∷ 5 ∷ [], Space 3 (Some (At holder))) ∷ []))
    (numbered [] 1000 1 ∷ page_with [] 2 (8 ∷ 5 ∷ []) ∷ page_with (1 ∷ []) 0 sets_r1 ∷ [])

-- ---- page 10 of the root is a window on page 3 of /1, and a thread of the root stores there

-- /1 is held by somebody, or not
unfoldable pub storing : Option Ptr → World
storing held = world_of
    (root_and_1 held [] []
    ++ ((6 ∷ [], running 0 (0 ∷ 7 ∷ 640 ∷ [])) ∷ (7 ∷ [], Mapping (record { first = 10; count = 1; offset = 0; write = true; region = At (3 ∷ 1 ∷ []) }))
    ∷ (3 ∷ 1 ∷ [], Region (record { first = 3; count = 1; write = true; keeper = Null })) ∷ []))
    (page_with [] 0 stores_at_r2 ∷ numbered (1 ∷ []) 1000 3 ∷ [])

-- ---- /1 is held, and the space in slot 2 of it by the other thread. Slot 3 of the root leads to that space

-- both threads make calls
unfoldable pub held_in_held : List ℕ → List ℕ → World
held_in_held g h = world_of
    (root_and_1 (Some (At holder)) g h ++ ((2 ∷ 1 ∷ [], Space 3 (Some (At other))) ∷ (3 ∷ [], Reference (At (2 ∷ 1 ∷ []))) ∷ [])) []

-- ---- a client in /1 talks with a server in /2; the holder holds one of the two spaces, or none

-- who holds /1 and who holds /2, and the calls of the client and of the server
unfoldable pub talk_across : Option Ptr → Option Ptr → List ℕ → List ℕ → World
talk_across hold_1 hold_2 g h = world_of
    ((holder, running 0 []) ∷ (1 ∷ [], Space 1 hold_1) ∷ (2 ∷ [], Space 2 hold_2) ∷ (3 ∷ 2 ∷ [], Port None false)
    ∷ (client, with_talk (served_by (3 ∷ 2 ∷ []) server turns.Client 0) (calling 20 g)) ∷ (server, calling 30 h) ∷ [])
    (numbered (1 ∷ []) 1000 2 ∷ numbered (2 ∷ []) 2000 4 ∷ [])

-- a send and a receive
abbrev pub sends_5 : List ℕ
sends_5 = 37 ∷ 0 ∷ 128 ∷ 5 ∷ []

abbrev pub receives_9 : List ℕ
receives_9 = 50 ∷ 0 ∷ 0 ∷ 0 ∷ 256 ∷ 9 ∷ []

-- ---- a thread of /1, which is held or not, has a fault that a thread of the root has taken

-- the other thread of the root is done with the fault
unfoldable pub fault_across : Option Ptr → World
fault_across held = world_of
    ((holder, running 0 []) ∷ (other, calling 0 (56 ∷ [])) ∷ (10 ∷ [], Port None false) ∷ (1 ∷ [], Space 1 held)
    ∷ (inner, with_fault (record { page = 5; write = false; port = At (10 ∷ []); taker = Some (Server (At other)) }) (running 0 [])) ∷ [])
    []

-- ---- /1 has a porter, which holds the space in slot 2 of /1

-- a thread of the root would hold /1
unfoldable pub working_porter : World
working_porter = world_of
    ((holder, calling 0 (13 ∷ 256 ∷ 1 ∷ []))
    ∷ (1 ∷ [], Space 1 None) ∷ (2 ∷ 1 ∷ [], Space 2 (Some (At inner_porter))) ∷ (inner_porter, thread_in_mode (Native (replicate 16 0)) 0) ∷ []) []

-- ---- to compute in these worlds is to unfold these
unfoldable pub hold_worlds : Unit {0}
unfolding machine before_hold held storing held_in_held talk_across fault_across working_porter
hold_worlds = tt
