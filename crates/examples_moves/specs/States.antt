-- States: threads of /1 set records and pointer fields of objects there, and get pointer fields.
use Rattle.std.specs.Prelude.{ℕ, Bool, false, true, Option, List, [], ◌∷◌, ◌++◌, replicate, None}
use Rattle.fk_model.specs.Places.{Path}
use Rattle.fk_model.specs.Places.Ptr.{Null, Dead, At}
use Rattle.fk_model.specs.Objects.{Peer, Body}
use Rattle.fk_model.specs.Objects.Mode.{Native}
use Rattle.fk_model.specs.Objects.Body.{Mutex, Mapping, Region, Port, Portset, Space, Reference}
use Rattle.fk_model.specs.World.{World}
use Rattle.examples_moves.specs.Worked.{machine, world_of, page_with, filled_to, running, calling, thread_in_mode, with_fault, stopped, caller}

-- ---- records, in the pages 1 to 5

-- a running thread that isn't stopped, a thread that is stopped, a mutex, a mapping, a port, a port set
abbrev pub subjects : List (Path × Body)
subjects =
    (1 ∷ 1 ∷ [], running 3 (5 ∷ 6 ∷ [])) ∷ (2 ∷ 1 ∷ [], stopped 1 (running 3 (5 ∷ 6 ∷ []))) ∷ (3 ∷ 1 ∷ [], Mutex false)
    ∷ (4 ∷ 1 ∷ [], Mapping (record { first = 0; count = 1; offset = 0; write = false; region = At (7 ∷ 1 ∷ []) }))
    ∷ (5 ∷ 1 ∷ [], Port None false) ∷ (6 ∷ 1 ∷ [], Portset) ∷ (7 ∷ 1 ∷ [], Region (record { first = 0; count = 1; write = false; keeper = Null })) ∷ []

-- two records in a page
abbrev pub records : List ℕ → List ℕ → List ℕ
records a b = filled_to 32 a ++ filled_to 32 b

-- a thread at counter 9 in call 21, of mutex 3, that isn't stopped
abbrev pub in_call_21 : List ℕ
in_call_21 = 8 ∷ 21 ∷ 3 ∷ (replicate 14 0 ++ (9 ∷ 1 ∷ 0 ∷ 0 ∷ []))

-- the same with 40, which is no call, in its first register
abbrev pub in_no_call : List ℕ
in_no_call = 8 ∷ 42 ∷ 3 ∷ (replicate 14 0 ++ (9 ∷ 1 ∷ 0 ∷ 0 ∷ []))

-- one that has halted with code 7 and is stopped twice
abbrev pub halted_twice_stopped : List ℕ
halted_twice_stopped = 8 ∷ 21 ∷ 3 ∷ (replicate 14 0 ++ (9 ∷ 2 ∷ 7 ∷ 2 ∷ []))

-- the caller makes a call
unfoldable pub setting_by : List ℕ → World
setting_by g = world_of
    ((1 ∷ [], Space 1 None) ∷ (caller, calling 0 g) ∷ subjects)
    (page_with (1 ∷ []) 1 (records in_call_21 in_no_call)
    ∷ page_with (1 ∷ []) 2 (records halted_twice_stopped (1 ∷ 2 ∷ []))
    ∷ page_with (1 ∷ []) 3 (records (1 ∷ 1 ∷ []) (3 ∷ 10 ∷ 4 ∷ 2 ∷ 1 ∷ []))
    ∷ page_with (1 ∷ []) 4 (records (3 ∷ 250 ∷ 7 ∷ 2 ∷ 1 ∷ []) (5 ∷ 7 ∷ []))
    ∷ page_with (1 ∷ []) 5 (records (5 ∷ 6 ∷ []) (4 ∷ 8 ∷ 9 ∷ 1 ∷ []))
    ∷ [])

-- the caller sets the object in slot x by the record at an address
abbrev pub setting : ℕ → ℕ → World
setting x address = setting_by (10 ∷ 256 ∷ x ∷ address ∷ [])

-- the mapping after its record was set
abbrev pub set_mapping : Body
set_mapping = Mapping (record { first = 10; count = 4; offset = 2; write = true; region = At (7 ∷ 1 ∷ []) })

-- ---- records that are set or not by the numbers in them

-- a thread at counter 9 in this mode, with this halt code and stop count
abbrev pub in_mode : ℕ → ℕ → ℕ → List ℕ
in_mode mode code stops = 8 ∷ 21 ∷ 3 ∷ (replicate 14 0 ++ (9 ∷ mode ∷ code ∷ stops ∷ []))

-- the caller sets the stopped thread by a record
unfoldable pub setting_to : List ℕ → World
setting_to words = world_of
    ((1 ∷ [], Space 1 None) ∷ (caller, calling 0 (10 ∷ 256 ∷ 2 ∷ 64 ∷ [])) ∷ subjects)
    (page_with (1 ∷ []) 1 (records words []) ∷ [])

-- the porter of /1
abbrev pub inner_porter : Path
inner_porter = 255 ∷ 1 ∷ []

-- it is there, and is not stopped
unfoldable pub with_porter : World
with_porter = world_of ((1 ∷ [], Space 1 None) ∷ (inner_porter, thread_in_mode (Native (replicate 16 0)) 0) ∷ []) []

-- ---- slot 11 holds a thread with a fault on page 12 at the port

-- the caller gets its record
unfoldable pub faulting : Bool → Option Peer → World
faulting write taker = world_of
    ((1 ∷ [], Space 1 None) ∷ (caller, calling 0 (9 ∷ 256 ∷ 11 ∷ 64 ∷ []))
    ∷ (11 ∷ 1 ∷ [], with_fault (record { page = 12; write = write; port = At (5 ∷ 1 ∷ []); taker = taker }) (running 7 (6 ∷ []))) ∷ subjects)
    (page_with (1 ∷ []) 1 [] ∷ [])

-- the record, by its words on the fault
abbrev pub faulting_record : ℕ → ℕ → ℕ → List ℕ
faulting_record fault page write = 8 ∷ 6 ∷ (replicate 15 0 ++ (7 ∷ 0 ∷ 0 ∷ 0 ∷ 0 ∷ 0 ∷ fault ∷ page ∷ write ∷ []))

-- ---- slot 11 holds a thread that is stopped so often

-- the caller stops it
unfoldable pub stopping : ℕ → World
stopping stops = world_of
    ((1 ∷ [], Space 1 None) ∷ (caller, calling 0 (15 ∷ 11 ∷ [])) ∷ (11 ∷ 1 ∷ [], stopped stops (running 7 [])) ∷ []) []

-- ---- pointer fields: slot 8 holds a reference to nothing, slot 9 one to the region in slot 7, slot 10 one to the port,
-- slot 11 one to what was destroyed, slot 12 a space

-- the caller makes a call
unfoldable pub pointing : List ℕ → World
pointing g = world_of
    ((1 ∷ [], Space 1 None) ∷ (caller, calling 0 g)
    ∷ (8 ∷ 1 ∷ [], Reference Null) ∷ (9 ∷ 1 ∷ [], Reference (At (7 ∷ 1 ∷ []))) ∷ (10 ∷ 1 ∷ [], Reference (At (5 ∷ 1 ∷ [])))
    ∷ (11 ∷ 1 ∷ [], Reference Dead) ∷ (12 ∷ 1 ∷ [], Space 2 None) ∷ subjects) []

-- ---- to compute in these worlds is to unfold these
unfoldable pub state_worlds : Unit {0}
unfolding machine setting_by setting_to with_porter faulting stopping pointing
state_worlds = tt
