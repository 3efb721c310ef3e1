-- Worked examples: small worlds, moves in them, and what there is to see afterwards.
--
-- A world is a list of paths and objects, with the root, and a list of pages. What an example expects is reckoned by
-- hand from the rules, and written out.
use Rattle.std.specs.Prelude.{ℕ, suc, zero, ◌+◌, ◌-◌, ◌*◌, ◌&&◌, ◌==◌, List, [], ◌∷◌, ◌++◌, length, map, replicate, Option, Some, None, if◌then◌else◌}
use Rattle.fk_model.specs.declared.moves.Ask.TheVariants as asks
use Rattle.fk_model.specs.declared.stage.Stage.{Stage}
use Rattle.fk_model.specs.declared.thread.Turn.{Turn}
use Rattle.fk_model.specs.Places.{Path, same_path, strip}
use Rattle.fk_model.specs.Places.Ptr.{At}
use Rattle.fk_model.specs.Calls.{code_of, words, todo_of, rest_of}
use Rattle.fk_model.specs.Objects.{Mode, Talk, Fault, Thread, Body, registers_of, thread_of, and_then}
use Rattle.fk_model.specs.Objects.Mode.{Running, Halted}
use Rattle.fk_model.specs.Objects.Peer.{Server}
use Rattle.fk_model.specs.Objects.Body.{Thread_of, Space}
use Rattle.fk_model.specs.World.{World, edited, apply, apply_all, on_thread}
use Rattle.fk_model.specs.Searches.{lowest, slots, residents, beneath_by, beneath, leaf_by, leaf, client_of, faulter_of, clients_at, client_at}
use Rattle.fk_model.specs.Reach.{mapping_at, region_at, keeper, reach_within, reach}
use Rattle.fk_model.specs.Holds.{decider}
use Rattle.fk_model.specs.Readers.{object_in, handle, space_argument, referred}
use Rattle.fk_model.specs.Talks.{line}
use Rattle.fk_model.specs.UserRows.{run_row_by}
use Rattle.fk_model.specs.SyncRows.{mutex_lock, mutex_trylock, mutex_unlock, cond_wait, cond_asleep, sleepers, cond_signal, cond_broadcast}
use Rattle.fk_model.specs.TransferRows.{send, receive, receive_ref, over, over_ref}
use Rattle.fk_model.specs.LinkRows.{connect, candidate, wait, disconnect, link_set, link_park}
use Rattle.fk_model.specs.FaultRows.{fault_done, fault_set, fault_park}
use Rattle.fk_model.specs.SpaceRows.{space_hold, space_release, thread_stop, thread_go, page_give, page_take, page_read, next_page, page_next, hold_set}
use Rattle.fk_model.specs.SpaceRows.{space_make_held}
use Rattle.fk_model.specs.Records.{record_of, set, takes_state, calling_by}
use Rattle.fk_model.specs.StateRows.{get_state, set_state, get_ptr, set_ptr}
use Rattle.fk_model.specs.ObjectRows.{create, destroy, rename, search, point, clear, locate, count_in}
use Rattle.fk_model.specs.NativeRows.{accept_row, give_row, over_row}
use Rattle.fk_model.specs.Outcomes.{Said}
use Rattle.fk_model.specs.Moves.{IsReady, call_row, outcome, step}
use Rattle.fk_model.specs.Runs.{Event, run}

-- ---- worlds

-- what stands at a path
unfoldable pub body_in : List (Path × Body) → Path → Option Body
body_in [] x = None
body_in (e ∷ es) x = if same_path e.0 x then Some e.1 else body_in es x

-- a page of a space, with its words
pub record Page : Type 0 where
  pub space : Path
  pub page : ℕ
  pub words : List ℕ

-- the words of a page, by such a list
unfoldable pub page_among : List Page → Path → ℕ → Option (List ℕ)
page_among [] s page = None
page_among (p ∷ ps) s page = if same_path p.space s && p.page == page then Some p.words else page_among ps s page

-- the root holds no page but those in the list, and is held by nobody
unfoldable pub world_of : List (Path × Body) → List Page → World
world_of objects pages = record { body = body_in (([], Space 0 None) ∷ objects); page = page_among pages; next = 100 }

-- ---- words and pages

-- so many numbers, rising by one
unfoldable pub numbers_from : ℕ → ℕ → List ℕ
numbers_from first zero = []
numbers_from first (suc n) = first ∷ numbers_from (first + 1) n

-- a list made so long by zeros
abbrev pub filled_to : ℕ → List ℕ → List ℕ
filled_to n words = words ++ replicate (n - length words) 0

-- a page that begins with these words, and has zeros after them
abbrev pub page_with : Path → ℕ → List ℕ → Page
page_with s page words = record { space = s; page = page; words = filled_to 64 words }

-- a page in which the word at an address is the address and a base
abbrev pub numbered : Path → ℕ → ℕ → Page
numbered s base page = record { space = s; page = page; words = numbers_from (base + 64 * page) 64 }

-- ---- threads

-- 16 registers, of which these are the first
abbrev pub registers_from : List ℕ → List ℕ
registers_from g = filled_to 16 g

-- threads of /1 and /2, and a port of the root
abbrev pub caller : Path
caller = 0 ∷ 1 ∷ []

abbrev pub client : Path
client = 0 ∷ 1 ∷ []

abbrev pub server : Path
server = 1 ∷ 2 ∷ []

abbrev pub root_port : Path
root_port = 9 ∷ []

-- store r1, r2, 0
abbrev pub stores_at_r2 : List ℕ
stores_at_r2 = 0x0e12_0000_0000_0000 ∷ []

-- a thread that is at this, with nothing else to say of it
abbrev pub thread_in_mode : Mode → ℕ → Body
thread_in_mode mode counter = Thread_of (record { mode = mode; counter = counter; stops = 0; talk = None; fault = None })

-- one that runs, from a counter on, with these first registers
abbrev pub running : ℕ → List ℕ → Body
running counter g = thread_in_mode (Running (registers_from g)) counter

-- one in the call that these registers name
abbrev pub calling : ℕ → List ℕ → Body
calling counter g = thread_in_mode (calling_by (registers_from g) (todo_of (registers_from g))) counter

-- one that has halted with a code
abbrev pub halted : ℕ → List ℕ → ℕ → Body
halted counter g code = thread_in_mode (Halted (registers_from g) code) counter

-- a thread with a talk, with a fault, and one that is stopped so often
abbrev pub with_talk : Talk → Body → Body
with_talk talk b = on_thread (λ t. record t { talk = Some talk }) b

abbrev pub with_fault : Fault → Body → Body
with_fault fault b = on_thread (λ t. record t { fault = Some fault }) b

abbrev pub stopped : ℕ → Body → Body
stopped stops b = on_thread (λ t. record t { stops = stops }) b

-- a talk at a port with a server thread
abbrev pub served_by : Path → Path → Turn → ℕ → Talk
served_by port server turn moved = record { port = At port; peer = Server (At server); turn = turn; moved = moved }

-- ---- moves

-- a user thread goes on
abbrev pub goes : Path → Event
goes x = record { mover = x; pick = None; ask = asks.Run }

-- and picks another
abbrev pub picks : Path → Path → Event
picks x picked = record { mover = x; pick = Some picked; ask = asks.Run }

-- a move, so many times
abbrev pub times : ℕ → Event → List Event
times n e = replicate n e

-- a porter makes a stage, giving these words
abbrev pub makes : Path → Stage → List ℕ → Event
makes porter stage words = record { mover = porter; pick = None; ask = asks.Call stage words }

-- the native server of a port accepts a client
abbrev pub accepts : Path → Path → Event
accepts port client = record { mover = port; pick = Some client; ask = asks.Accept }

-- it hands its turn over
abbrev pub hands_over : Path → Event
hands_over port = record { mover = port; pick = None; ask = asks.Over }

-- it gives its client words
abbrev pub gives : Path → List ℕ → Event
gives port words = record { mover = port; pick = None; ask = asks.Give (filled_to 64 words) (length words) }

-- the worlds after a first list of moves, after a second one from there on, and so on
unfoldable pub after_each : World → List (List Event) → List World
after_each w [] = []
after_each w (es ∷ ess) = let v = run w es in v ∷ after_each v ess

-- the move is ready
abbrev pub IsReadyTo : World → Event → Type 0
IsReadyTo w e = IsReady w e.mover e.pick e.ask

-- what the move tells
abbrev pub told_by_move : World → Event → Said
told_by_move w e = (step w e.mover e.pick e.ask).said

-- ---- what there is to see

-- none where there is no thread
abbrev pub registers_in : Option Thread → List ℕ
registers_in None = []
registers_in (Some t) = registers_of t.mode

-- the registers of a thread
unfoldable pub registers_at : World → Path → List ℕ
registers_at w x = registers_in (and_then thread_of (w.body x))

-- what a user thread is after its own move
abbrev pub becomes : World → Path → Option Body
becomes w x = (run w (goes x ∷ [])).body x

-- what stands at some paths
abbrev pub scene : List Path → World → List (Option Body)
scene xs w = map w.body xs

-- ---- to compute a move is to unfold all of these
unfoldable pub machine : Unit {0}
unfolding body_in page_among world_of numbers_from registers_at after_each same_path strip code_of
    words todo_of rest_of edited apply apply_all lowest slots residents beneath_by beneath leaf_by leaf client_of faulter_of clients_at client_at mapping_at
    region_at keeper reach_within reach decider object_in handle space_argument referred line run_row_by mutex_lock mutex_trylock mutex_unlock cond_wait
    cond_asleep sleepers cond_signal cond_broadcast send receive receive_ref over over_ref connect candidate wait disconnect link_set link_park fault_done fault_set fault_park
    space_hold space_release thread_stop thread_go page_give page_take page_read next_page page_next hold_set space_make_held record_of set takes_state
    get_state set_state get_ptr set_ptr create destroy rename search point clear locate count_in accept_row give_row over_row call_row outcome step run
machine = tt
