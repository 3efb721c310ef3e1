-- A nester whose porter pages the space in slot 1: the port is in slot 10, in the set in slot 8. There is one page in it, with an instruction of a thread.
use Rattle.std.specs.Prelude.{ℕ, true, false, List, [], ◌∷◌, ◌++◌, ◌==◌, replicate, Option, Some, None, if◌then◌else◌}
use Rattle.fk_model.specs.declared.moves.Ask.TheVariants as asks
use Rattle.fk_model.specs.Places.{Path}
use Rattle.fk_model.specs.Places.Ptr.{At}
use Rattle.fk_model.specs.Objects.{Fault, Body}
use Rattle.fk_model.specs.Objects.Mode.{Native}
use Rattle.fk_model.specs.Objects.Body.{Port, Portset, Space, Region}
use Rattle.fk_model.specs.World.{World}
use Rattle.fk_model.specs.Runs.{Event, after, run}
use Rattle.laws_filled.specs.Filled.{Paging, filled}
use Rattle.laws_filled.specs.Pager.{Desk, State, Phase, paging, next, first, hears, call_of, said_of}
use Rattle.examples_moves.specs.Worked.{Page, machine, world_of, page_with, filled_to, running, thread_in_mode, goes, stores_at_r2}

abbrev pub desk : Desk
desk = record { nester = []; slot = 1; port = 10; set = 8; room = 1 }

abbrev pub porter : Path
porter = 255 ∷ []

abbrev pub space : Path
space = 1 ∷ []

-- it stores 7 at address 3, by the instruction at address 0
abbrev pub thread : Path
thread = 0 ∷ 1 ∷ []

abbrev pub others : List (Path × Body)
others = (porter, thread_in_mode (Native (replicate 16 0)) 0) ∷ (8 ∷ [], Portset) ∷ (10 ∷ [], Port (Some 8) false) ∷ (space, Space 1 None)
    ∷ (2 ∷ space, Region (record { first = 0; count = 256; write = true; keeper = At (10 ∷ []) })) ∷ []

abbrev pub storing : Body
storing = running 0 (0 ∷ 7 ∷ 3 ∷ [])

unfoldable pub whole : World
whole = world_of ((thread, storing) ∷ others) (page_with space 0 stores_at_r2 ∷ [])

-- ---- turns: the porter's own call, with a pick, or a move of another

pub data Turn : Type 0 where
  Calls : (pick : Option Path) → Turn
  Moves : (e : Event) → Turn

unfoldable pub played : World × State → List Turn → World × State
played at [] = at
played at (Calls pick ∷ turns) =
    played (after at.0 (call_of desk at.1 pick), hears desk at.1 (said_of at.0 (call_of desk at.1 pick))) turns
played at (Moves e ∷ turns) = played (after at.0 e, at.1) turns

-- the opening; the thread misses its page; the pager gives it and ends the fault; the thread stores
abbrev pub opens : List Turn
opens = Calls None ∷ Calls None ∷ Calls None ∷ []

abbrev pub misses : List Turn
misses = opens ++ (Moves (goes thread) ∷ [])

abbrev pub hears_of_it : List Turn
hears_of_it = misses ++ (Calls (Some thread) ∷ Calls None ∷ [])

abbrev pub serves_it : List Turn
serves_it = hears_of_it ++ (Calls None ∷ Calls None ∷ [])

abbrev pub goes_on : List Turn
goes_on = serves_it ++ (Moves (goes thread) ∷ [])

unfoldable pub opened : World × State
opened = played (whole, first) opens

unfoldable pub missed : World × State
missed = played (whole, first) misses

unfoldable pub heard : World × State
heard = played (whole, first) hears_of_it

unfoldable pub served : World × State
served = played (whole, first) serves_it

unfoldable pub stored : World × State
stored = played (whole, first) goes_on

-- the filled world of a moment
abbrev pub filled_at : World × State → World
filled_at at = filled (paging desk at.1) at.0

-- ---- faults

abbrev pub fault_at_port : Path → ℕ → Fault
fault_at_port port page = record { page = page; write = false; port = At port; taker = None }

-- ---- the machine by answers: a pager in a phase that keeps pages 3 and 4 back, of which 3 is in

abbrev pub list_of_two : ℕ → Option (List ℕ)
list_of_two g = if g == 3 then Some (5 ∷ []) else if g == 4 then Some (6 ∷ []) else None

abbrev pub in_phase : Phase → State
in_phase phase = record { backing = list_of_two; inside = 3 ∷ []; faults = 9; phase = phase }

abbrev pub two_in : Desk
two_in = record { nester = []; slot = 1; port = 10; set = 8; room = 2 }

-- ---- to compute in these worlds is to unfold them
unfoldable pub paged_worlds : Unit {0}
unfolding machine whole played opened missed heard served stored next first
paged_worlds = tt
