-- Further runs of subtrees that are seen alone: which moves are ready there, what they leave, and what the outside hears.
use Rattle.std.specs.Prelude.{ℕ, Bool, true, false, List, [], ◌∷◌, Option, Some, None}
use Rattle.fk_model.specs.declared.thread.Turn.{Turn}
use Rattle.fk_model.specs.declared.thread.Turn.TheVariants as turns
use Rattle.fk_model.specs.Places.{Path, Ptr}
use Rattle.fk_model.specs.Places.Ptr.{Null, At, Out, Outside}
use Rattle.fk_model.specs.Objects.{Peer, Talk, Body}
use Rattle.fk_model.specs.Objects.Peer.{Server}
use Rattle.fk_model.specs.Objects.Body.{Mutex, Mapping, Region, Port, Space, Reference}
use Rattle.fk_model.specs.World.{World, apply_all}
use Rattle.fk_model.specs.Outcomes.{Outcome, listed}
use Rattle.fk_model.specs.Outcomes.Outcome.{Refused, Waits, Goes}
use Rattle.fk_model.specs.Further.{Onward, Told, touch_row, onward_row, told_by}
use Rattle.fk_model.specs.Further.Onward.{Own}
use Rattle.fk_model.specs.Seen.{outcome_said}
use Rattle.fk_model.specs.Valid.{kind_there}
use Rattle.examples_moves.specs.Worked.{Page, machine, body_in, page_among, numbered, running, calling, with_talk, with_fault, served_by}

-- a subtree seen alone: its root, which nobody holds, and what lies in it
unfoldable pub alone_of : List (Path × Body) → List Page → World
alone_of objects pages = record { body = body_in (([], Space 0 None) ∷ objects); page = page_among pages; next = 0 }

-- ---- what a move comes to. Where nothing is held the freezing rule bars nothing, so it is ready where its row goes

abbrev pub is_going : Outcome → Bool
is_going (Goes changes said) = true
is_going (Refused status) = false
is_going Waits = false

abbrev pub is_ready : World → Onward → Bool
is_ready c m = is_going (onward_row c m)

abbrev pub later : World → Onward → World
later c m = apply_all (listed (onward_row c m)) c

abbrev pub heard : World → Onward → List Told
heard c m = told_by c m (listed (onward_row c m)) (outcome_said (onward_row c m))

-- the thread in slot 0 moves, and a peer outside takes so many words
abbrev pub own_move_taking : ℕ → Onward
own_move_taking taken = Own (0 ∷ []) None taken

-- ---- a client whose talk is at port 9 of the nester

abbrev pub outward : Turn → ℕ → Talk
outward turn moved = record { port = Out 9; peer = Server Outside; turn = turn; moved = moved }

-- at the call that these registers name; pages 2 and 3 are there, and nobody keeps others
unfoldable pub talking_out : Turn → ℕ → List ℕ → World
talking_out turn moved g =
    alone_of ((0 ∷ [], with_talk (outward turn moved) (calling 20 g)) ∷ (1 ∷ [], Mutex false) ∷ []) (numbered [] 1000 2 ∷ numbered [] 1000 3 ∷ [])

-- it sends so many words from an address on
abbrev pub sending_out : ℕ → ℕ → World
sending_out address count = talking_out turns.Client 0 (37 ∷ 0 ∷ address ∷ count ∷ [])

-- port 9 keeps the pages from 8 on
unfoldable pub kept_out : List ℕ → World
kept_out g = alone_of
    ((0 ∷ [], with_talk (outward turns.Client 0) (calling 20 g)) ∷ (5 ∷ [], Region (record { first = 8; count = 8; write = true; keeper = Out 9 })) ∷ []) []

-- ---- a thread at its Connect, and a port in slot 4

-- whose handle leads there
unfoldable pub connecting : Ptr → Body → World
connecting to b = alone_of ((0 ∷ [], b) ∷ (1 ∷ [], Reference to) ∷ (4 ∷ [], Port None false) ∷ []) []

abbrev pub connects : Body
connects = calling 20 (32 ∷ 1 ∷ [])

-- ---- the space in slot 2 is held by the thread in slot 5, or by nobody. In it are a thread that receives, one with a
-- fault, and one whose fault somebody outside has taken

abbrev pub fault_out : Option Peer → Body
fault_out taker = with_fault (record { page = 9; write = true; port = Out 9; taker = taker }) (running 0 [])

abbrev pub in_2 : ℕ → Path
in_2 k = k ∷ 2 ∷ []

unfoldable pub held_within : Option Ptr → World
held_within holder = alone_of
    ((2 ∷ [], Space 0 holder) ∷ (5 ∷ [], running 0 []) ∷ (in_2 0, with_talk (outward turns.Server 0) (calling 20 (36 ∷ 0 ∷ 0 ∷ 0 ∷ 192 ∷ 4 ∷ [])))
    ∷ (in_2 1, fault_out None) ∷ (in_2 3, fault_out (Some (Server Outside))) ∷ []) (numbered (2 ∷ []) 1000 3 ∷ [])

-- ---- the reference in slot 6 is to take a pointer, or is handed over. The space in slot 2, with a port in it, is held by the thread in slot 5, or by nobody

unfoldable pub awaiting : Ptr → Option Ptr → World
awaiting old holder = alone_of
    ((0 ∷ [], with_talk (outward turns.Server 3) (calling 20 (41 ∷ 0 ∷ 0 ∷ 0 ∷ 192 ∷ 4 ∷ 6 ∷ []))) ∷ (6 ∷ [], Reference old) ∷ (7 ∷ [], Mutex false)
    ∷ (2 ∷ [], Space 0 holder) ∷ (5 ∷ [], running 0 []) ∷ (in_2 1, Port None false) ∷ []) []

unfoldable pub handing_out : Ptr → Option Ptr → World
handing_out to holder = alone_of
    ((0 ∷ [], with_talk (outward turns.Client 3) (calling 20 (40 ∷ 6 ∷ []))) ∷ (6 ∷ [], Reference to)
    ∷ (2 ∷ [], Space 0 holder) ∷ (5 ∷ [], running 0 []) ∷ (in_2 1, Port None false) ∷ []) []

-- the thread in slot 5 holds it
abbrev pub by_5 : Option Ptr
by_5 = Some (At (5 ∷ []))

-- ---- a thread in the space in slot 2 receives through a mapping, into page 3 of the space in slot 3, which is held by the thread in slot 5,
-- or by nobody

unfoldable pub receiving_through : Option Ptr → World
receiving_through holder = alone_of
    ((2 ∷ [], Space 0 None) ∷ (3 ∷ [], Space 0 holder) ∷ (5 ∷ [], running 0 [])
    ∷ (in_2 0, with_talk (outward turns.Server 0) (calling 20 (36 ∷ 0 ∷ 0 ∷ 0 ∷ 192 ∷ 4 ∷ [])))
    ∷ (in_2 1, Mapping (record { first = 3; count = 1; offset = 0; write = true; region = At (0 ∷ 3 ∷ []) }))
    ∷ (0 ∷ 3 ∷ [], Region (record { first = 3; count = 1; write = true; keeper = Null })) ∷ []) (numbered (3 ∷ []) 1000 3 ∷ [])

-- ---- the thread in slot 0 destroys what is in slot 3: a client, a space with one in it, or the port of one

abbrev pub destroys_3 : Body
destroys_3 = calling 20 (2 ∷ 256 ∷ 3 ∷ [])

unfoldable pub destroying : List (Path × Body) → World
destroying objects = alone_of ((0 ∷ [], destroys_3) ∷ (5 ∷ [], running 0 []) ∷ (4 ∷ [], Port None false) ∷ objects) []

-- a client of the thread in slot 5, at the port in slot 3 or 4
abbrev pub inner_talk : Path → Body
inner_talk port = with_talk (served_by port (5 ∷ []) turns.Client 0) (running 0 [])

-- ---- to compute in these worlds is to unfold these
unfoldable pub further_worlds : Unit {0}
unfolding machine alone_of talking_out kept_out connecting held_within awaiting handing_out receiving_through destroying touch_row onward_row kind_there
further_worlds = tt
