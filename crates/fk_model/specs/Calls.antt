-- Calls: the stages of each call, and the registers in which they stand.
--
-- A calling thread keeps, in place of its 16 registers, the stages that it has before it and what else stands in the
-- registers. The first register holds the code that names this list of stages. So a thread's whole state can be read
-- and set between any two stages, and it goes on from there.
use Rattle.std.specs.Prelude.{ℕ, ◌+◌, true, ◌==◌, nat_lt, ◌≡◌, List, [], ◌∷◌, ◌++◌, length, Option, Some, None, if◌then◌else◌, slice_index, slice_set}
use Rattle.std.specs.List.{flat_map}
use Rattle.fk_model.specs.declared.stage.Stage.{Stage}
use Rattle.fk_model.specs.StageFacts.{facts_of}
use Rattle.fk_model.specs.declared.call.TheConstants.{CREATE, DESTROY, RENAME, SEARCH, POINT, CLEAR, LOCATE, COUNT_IN, GET_STATE, SET_STATE, GET_PTR, SET_PTR}
use Rattle.fk_model.specs.declared.call.TheConstants.{SPACE_HOLD, SPACE_RELEASE, THREAD_STOP, THREAD_GO, PAGE_GIVE, PAGE_TAKE, PAGE_READ, PAGE_NEXT, MUTEX_LOCK}
use Rattle.fk_model.specs.declared.call.TheConstants.{MUTEX_TRYLOCK, MUTEX_UNLOCK, COND_WAIT, COND_ASLEEP, COND_SIGNAL, COND_BROADCAST, CONNECT}
use Rattle.fk_model.specs.declared.call.TheConstants.{CONNECT_SEND_OVER_RECEIVE, CLIENT_SEND_OVER_RECEIVE, CLIENT_OVER_RECEIVE, CLIENT_RECEIVE, CLIENT_SEND}
use Rattle.fk_model.specs.declared.call.TheConstants.{CLIENT_OVER, DISCONNECT, CLIENT_OVER_REF, CLIENT_RECEIVE_REF, WAIT, WAIT_RECEIVE, SERVER_RECEIVE}
use Rattle.fk_model.specs.declared.call.TheConstants.{SERVER_SEND, SERVER_OVER, SERVER_SEND_OVER_RECEIVE, SERVER_OVER_RECEIVE, SERVER_END, FAULT_DONE}
use Rattle.fk_model.specs.declared.call.TheConstants.{SERVER_OVER_REF, SERVER_RECEIVE_REF, LINK_SET, LINK_PARK, FAULT_SET, FAULT_PARK, HOLD_SET}
use Rattle.fk_model.specs.declared.call.TheConstants.{SPACE_MAKE_HELD}
use Rattle.fk_model.specs.declared.stage.Todo.{Todo}
use Rattle.fk_model.specs.declared.stage.Todo.TheVariants.{One, Two, Three, Four}
use Rattle.fk_model.specs.declared.stage.Stage.TheVariants.{Create, Destroy, Rename, Search, Point, Clear, Locate, CountIn, GetState, SetState, GetPtr, SetPtr}
use Rattle.fk_model.specs.declared.stage.Stage.TheVariants.{SpaceHold, SpaceRelease, ThreadStop, ThreadGo, PageGive, PageTake, PageRead, PageNext, MutexLock}
use Rattle.fk_model.specs.declared.stage.Stage.TheVariants.{MutexTrylock, MutexUnlock, CondWait, CondAsleep, CondSignal, CondBroadcast, Connect, ClientReceive}
use Rattle.fk_model.specs.declared.stage.Stage.TheVariants.{ClientSend, ClientOver, Disconnect, ClientOverRef, ClientReceiveRef, Wait, ServerReceive}
use Rattle.fk_model.specs.declared.stage.Stage.TheVariants.{ServerSend, ServerOver, ServerEnd, FaultDone, ServerOverRef, ServerReceiveRef, LinkSet, LinkPark}
use Rattle.fk_model.specs.declared.stage.Stage.TheVariants.{FaultSet, FaultPark, HoldSet, SpaceMakeHeld}

-- the code of the call that has this stage alone
abbrev pub code_of_stage : Stage → ℕ
code_of_stage stage = (facts_of stage).code

-- the code of a list of stages; 0 where no call has these stages
unfoldable pub code_of : List Stage → ℕ
code_of (stage ∷ []) = code_of_stage stage
code_of (Connect h ∷ ClientSend address count ∷ ClientOver ∷ ClientReceive into room ∷ []) = CONNECT_SEND_OVER_RECEIVE
code_of (ClientSend address count ∷ ClientOver ∷ ClientReceive into room ∷ []) = CLIENT_SEND_OVER_RECEIVE
code_of (ClientOver ∷ ClientReceive into room ∷ []) = CLIENT_OVER_RECEIVE
code_of (Wait set ∷ ServerReceive into room ∷ []) = WAIT_RECEIVE
code_of (ServerSend address count ∷ ServerOver ∷ ServerReceive into room ∷ []) = SERVER_SEND_OVER_RECEIVE
code_of (ServerOver ∷ ServerReceive into room ∷ []) = SERVER_OVER_RECEIVE
code_of other = 0

-- the list is that of a call
abbrev pub IsTodo : List Stage → Type 0
IsTodo todo = nat_lt 0 (code_of todo) ≡ true

-- values in registers, from one register on
abbrev pub from_register : ℕ → List ℕ → List (ℕ × ℕ)
from_register r [] = []
from_register r (value ∷ values) = (r, value) ∷ from_register (r + 1) values

-- the registers of a stage's arguments, with their values
abbrev pub arguments : Stage → List (ℕ × ℕ)
arguments (Create s x kind) = from_register 1 (s ∷ x ∷ kind ∷ [])
arguments (Destroy s x) = from_register 1 (s ∷ x ∷ [])
arguments (Rename s x y) = from_register 1 (s ∷ x ∷ y ∷ [])
arguments (Search s from) = from_register 1 (s ∷ from ∷ [])
arguments (Point s x s2 x2) = from_register 1 (s ∷ x ∷ s2 ∷ x2 ∷ [])
arguments (Clear s x) = from_register 1 (s ∷ x ∷ [])
arguments (Locate reference s) = from_register 1 (reference ∷ s ∷ [])
arguments (CountIn base s x) = from_register 1 (base ∷ s ∷ x ∷ [])
arguments (GetState s x address) = from_register 1 (s ∷ x ∷ address ∷ [])
arguments (SetState s x address) = from_register 1 (s ∷ x ∷ address ∷ [])
arguments (GetPtr s x field reference) = from_register 1 (s ∷ x ∷ field ∷ reference ∷ [])
arguments (SetPtr s x field reference) = from_register 1 (s ∷ x ∷ field ∷ reference ∷ [])
arguments (SpaceHold s x) = from_register 1 (s ∷ x ∷ [])
arguments (SpaceRelease s x) = from_register 1 (s ∷ x ∷ [])
arguments (ThreadStop h) = from_register 1 (h ∷ [])
arguments (ThreadGo h) = from_register 1 (h ∷ [])
arguments (PageGive s page address) = from_register 1 (s ∷ page ∷ address ∷ [])
arguments (PageTake s page address) = from_register 1 (s ∷ page ∷ address ∷ [])
arguments (PageRead s page address) = from_register 1 (s ∷ page ∷ address ∷ [])
arguments (PageNext s from) = from_register 1 (s ∷ from ∷ [])
arguments (MutexLock m) = from_register 1 (m ∷ [])
arguments (MutexTrylock m) = from_register 1 (m ∷ [])
arguments (MutexUnlock m) = from_register 1 (m ∷ [])
arguments (CondWait c m) = from_register 1 (c ∷ m ∷ [])
arguments (CondAsleep c m) = from_register 1 (c ∷ m ∷ [])
arguments (CondSignal c) = from_register 1 (c ∷ [])
arguments (CondBroadcast c) = from_register 1 (c ∷ [])
arguments (Connect h) = from_register 1 (h ∷ [])
arguments (ClientReceive into room) = from_register 4 (into ∷ room ∷ [])
arguments (ClientSend address count) = from_register 2 (address ∷ count ∷ [])
arguments (ClientOverRef reference) = from_register 1 (reference ∷ [])
arguments (ClientReceiveRef into room reference) = from_register 4 (into ∷ room ∷ reference ∷ [])
arguments (Wait set) = from_register 1 (set ∷ [])
arguments (ServerReceive into room) = from_register 4 (into ∷ room ∷ [])
arguments (ServerSend address count) = from_register 2 (address ∷ count ∷ [])
arguments (ServerOverRef reference) = from_register 1 (reference ∷ [])
arguments (ServerReceiveRef into room reference) = from_register 4 (into ∷ room ∷ reference ∷ [])
arguments (LinkSet s x port server) = from_register 1 (s ∷ x ∷ port ∷ server ∷ [])
arguments (LinkPark s x port) = from_register 1 (s ∷ x ∷ port ∷ [])
arguments (FaultSet s x port taker) = from_register 1 (s ∷ x ∷ port ∷ taker ∷ [])
arguments (FaultPark s x port taken) = from_register 1 (s ∷ x ∷ port ∷ taken ∷ [])
arguments (HoldSet s x thread) = from_register 1 (s ∷ x ∷ thread ∷ [])
arguments (SpaceMakeHeld x) = from_register 1 (x ∷ [])
arguments other = []

-- these values written into registers
abbrev pub with_values : List (ℕ × ℕ) → List ℕ → List ℕ
with_values [] g = g
with_values (e ∷ es) g = with_values es (slice_set g e.0 e.1)

-- these registers made 0
abbrev pub without_values : List (ℕ × ℕ) → List ℕ → List ℕ
without_values [] g = g
without_values (e ∷ es) g = without_values es (slice_set g e.0 0)

-- the stages that code keeps, as a list
abbrev pub stages_of : Todo → List Stage
stages_of (One a) = a ∷ []
stages_of (Two a b) = a ∷ b ∷ []
stages_of (Three a b c) = a ∷ b ∷ c ∷ []
stages_of (Four a b c d) = a ∷ b ∷ c ∷ d ∷ []

-- what a list of stages says of the registers: its code, and the arguments of each stage
abbrev pub argument_registers : List Stage → List (ℕ × ℕ)
argument_registers todo = (0, code_of todo) ∷ flat_map arguments todo

-- the 16 registers of a calling thread
unfoldable pub words : List Stage → List ℕ → List ℕ
words todo rest = with_values (argument_registers todo) rest

-- a call: its code, and its stages as functions of the registers
pub record Call : Type 0 where
  pub code : ℕ
  pub todo : List ℕ → List Stage

abbrev pub call : ℕ → (List ℕ → List Stage) → Call
call code todo = record { code = code; todo = todo }

abbrev pub r1 : List ℕ → ℕ
r1 g = slice_index g 1

abbrev pub r2 : List ℕ → ℕ
r2 g = slice_index g 2

abbrev pub r3 : List ℕ → ℕ
r3 g = slice_index g 3

abbrev pub r4 : List ℕ → ℕ
r4 g = slice_index g 4

abbrev pub r5 : List ℕ → ℕ
r5 g = slice_index g 5

abbrev pub r6 : List ℕ → ℕ
r6 g = slice_index g 6

-- calls on objects and what they point to, and on spaces as a whole
abbrev pub object_calls : List Call
object_calls =
    call CREATE (λ g. Create (r1 g) (r2 g) (r3 g) ∷ []) ∷
    call DESTROY (λ g. Destroy (r1 g) (r2 g) ∷ []) ∷
    call RENAME (λ g. Rename (r1 g) (r2 g) (r3 g) ∷ []) ∷
    call SEARCH (λ g. Search (r1 g) (r2 g) ∷ []) ∷
    call POINT (λ g. Point (r1 g) (r2 g) (r3 g) (r4 g) ∷ []) ∷
    call CLEAR (λ g. Clear (r1 g) (r2 g) ∷ []) ∷
    call LOCATE (λ g. Locate (r1 g) (r2 g) ∷ []) ∷
    call COUNT_IN (λ g. CountIn (r1 g) (r2 g) (r3 g) ∷ []) ∷
    call GET_STATE (λ g. GetState (r1 g) (r2 g) (r3 g) ∷ []) ∷
    call SET_STATE (λ g. SetState (r1 g) (r2 g) (r3 g) ∷ []) ∷
    call GET_PTR (λ g. GetPtr (r1 g) (r2 g) (r3 g) (r4 g) ∷ []) ∷
    call SET_PTR (λ g. SetPtr (r1 g) (r2 g) (r3 g) (r4 g) ∷ []) ∷
    call SPACE_HOLD (λ g. SpaceHold (r1 g) (r2 g) ∷ []) ∷
    call SPACE_RELEASE (λ g. SpaceRelease (r1 g) (r2 g) ∷ []) ∷
    []

-- calls on threads, pages, mutexes and conditions
abbrev pub thread_calls : List Call
thread_calls =
    call THREAD_STOP (λ g. ThreadStop (r1 g) ∷ []) ∷
    call THREAD_GO (λ g. ThreadGo (r1 g) ∷ []) ∷
    call PAGE_GIVE (λ g. PageGive (r1 g) (r2 g) (r3 g) ∷ []) ∷
    call PAGE_TAKE (λ g. PageTake (r1 g) (r2 g) (r3 g) ∷ []) ∷
    call PAGE_READ (λ g. PageRead (r1 g) (r2 g) (r3 g) ∷ []) ∷
    call PAGE_NEXT (λ g. PageNext (r1 g) (r2 g) ∷ []) ∷
    call MUTEX_LOCK (λ g. MutexLock (r1 g) ∷ []) ∷
    call MUTEX_TRYLOCK (λ g. MutexTrylock (r1 g) ∷ []) ∷
    call MUTEX_UNLOCK (λ g. MutexUnlock (r1 g) ∷ []) ∷
    call COND_WAIT (λ g. CondWait (r1 g) (r2 g) ∷ []) ∷
    call COND_ASLEEP (λ g. CondAsleep (r1 g) (r2 g) ∷ []) ∷
    call COND_SIGNAL (λ g. CondSignal (r1 g) ∷ []) ∷
    call COND_BROADCAST (λ g. CondBroadcast (r1 g) ∷ []) ∷
    []

-- a client's calls
abbrev pub client_calls : List Call
client_calls =
    call CONNECT (λ g. Connect (r1 g) ∷ []) ∷
    call CONNECT_SEND_OVER_RECEIVE (λ g. Connect (r1 g) ∷ ClientSend (r2 g) (r3 g) ∷ ClientOver ∷ ClientReceive (r4 g) (r5 g) ∷ []) ∷
    call CLIENT_SEND_OVER_RECEIVE (λ g. ClientSend (r2 g) (r3 g) ∷ ClientOver ∷ ClientReceive (r4 g) (r5 g) ∷ []) ∷
    call CLIENT_OVER_RECEIVE (λ g. ClientOver ∷ ClientReceive (r4 g) (r5 g) ∷ []) ∷
    call CLIENT_RECEIVE (λ g. ClientReceive (r4 g) (r5 g) ∷ []) ∷
    call CLIENT_SEND (λ g. ClientSend (r2 g) (r3 g) ∷ []) ∷
    call CLIENT_OVER (λ g. ClientOver ∷ []) ∷
    call DISCONNECT (λ g. Disconnect ∷ []) ∷
    call CLIENT_OVER_REF (λ g. ClientOverRef (r1 g) ∷ []) ∷
    call CLIENT_RECEIVE_REF (λ g. ClientReceiveRef (r4 g) (r5 g) (r6 g) ∷ []) ∷
    []

-- a server's calls, and those of who takes faults
abbrev pub server_calls : List Call
server_calls =
    call WAIT (λ g. Wait (r1 g) ∷ []) ∷
    call WAIT_RECEIVE (λ g. Wait (r1 g) ∷ ServerReceive (r4 g) (r5 g) ∷ []) ∷
    call SERVER_RECEIVE (λ g. ServerReceive (r4 g) (r5 g) ∷ []) ∷
    call SERVER_SEND (λ g. ServerSend (r2 g) (r3 g) ∷ []) ∷
    call SERVER_OVER (λ g. ServerOver ∷ []) ∷
    call SERVER_SEND_OVER_RECEIVE (λ g. ServerSend (r2 g) (r3 g) ∷ ServerOver ∷ ServerReceive (r4 g) (r5 g) ∷ []) ∷
    call SERVER_OVER_RECEIVE (λ g. ServerOver ∷ ServerReceive (r4 g) (r5 g) ∷ []) ∷
    call SERVER_END (λ g. ServerEnd ∷ []) ∷
    call FAULT_DONE (λ g. FaultDone ∷ []) ∷
    call SERVER_OVER_REF (λ g. ServerOverRef (r1 g) ∷ []) ∷
    call SERVER_RECEIVE_REF (λ g. ServerReceiveRef (r4 g) (r5 g) (r6 g) ∷ []) ∷
    []

-- calls by which a porter builds a saved subtree again
abbrev pub rebuilding_calls : List Call
rebuilding_calls =
    call LINK_SET (λ g. LinkSet (r1 g) (r2 g) (r3 g) (r4 g) ∷ []) ∷
    call LINK_PARK (λ g. LinkPark (r1 g) (r2 g) (r3 g) ∷ []) ∷
    call FAULT_SET (λ g. FaultSet (r1 g) (r2 g) (r3 g) (r4 g) ∷ []) ∷
    call FAULT_PARK (λ g. FaultPark (r1 g) (r2 g) (r3 g) (r4 g) ∷ []) ∷
    call HOLD_SET (λ g. HoldSet (r1 g) (r2 g) (r3 g) ∷ []) ∷
    call SPACE_MAKE_HELD (λ g. SpaceMakeHeld (r1 g) ∷ []) ∷
    []

-- every call
abbrev pub calls : List Call
calls = object_calls ++ thread_calls ++ client_calls ++ server_calls ++ rebuilding_calls

-- the stages that a code names, read from the registers
abbrev pub named_by : List Call → ℕ → List ℕ → Option (List Stage)
named_by [] code g = None
named_by (c ∷ cs) code g = if code == c.code then Some (c.todo g) else named_by cs code g

-- the stages that the registers name; none where the first one holds no call's code
unfoldable pub todo_of : List ℕ → Option (List Stage)
todo_of g = named_by calls (slice_index g 0) g

-- what the registers hold besides these stages
unfoldable pub rest_of : List Stage → List ℕ → List ℕ
rest_of todo g = without_values (argument_registers todo) g

-- 16 words that hold 0 where the stages speak
pub record IsRest (todo : List Stage) (rest : List ℕ) : Type 0 where
  pub sixteen : length rest ≡ 16
  pub apart : without_values (argument_registers todo) rest ≡ rest

-- ---- what a stage leaves

-- after its first stage a call keeps that stage's arguments, as they were advanced, where the later stages are silent
abbrev pub left_by : Stage → List Stage → List ℕ → List ℕ
left_by stage todo rest = without_values (argument_registers todo) (with_values (arguments stage) rest)

-- answers stand from the second register on
abbrev pub with_answers : List ℕ → List ℕ → List ℕ
with_answers answers g = with_values (from_register 1 answers) g
