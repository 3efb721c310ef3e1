-- Bodies: the state of an object, stored with its pointers by name, with its pointers by path.
use Rattle.std.specs.Prelude.{ℕ, List, [], option_map, unwrap_or}
use Rattle.fk_model.specs.declared.names.Ptr.{Ptr as StoredPtr}
use Rattle.fk_model.specs.declared.names.Ptr.TheVariants as pointers
use Rattle.fk_model.specs.declared.thread.Mode.{Mode as StoredMode}
use Rattle.fk_model.specs.declared.thread.Mode.TheVariants as modes
use Rattle.fk_model.specs.declared.thread.Peer.{Peer as StoredPeer}
use Rattle.fk_model.specs.declared.thread.Peer.TheVariants as peers
use Rattle.fk_model.specs.declared.thread.Talk.{Talk as StoredTalk}
use Rattle.fk_model.specs.declared.thread.Fault.{Fault as StoredFault}
use Rattle.fk_model.specs.declared.thread.Thread.{Thread as StoredThread}
use Rattle.fk_model.specs.declared.body.Body.{Body as StoredBody}
use Rattle.fk_model.specs.declared.body.Body.TheVariants as bodies
use Rattle.fk_model.specs.Places.{Path, Ptr}
use Rattle.fk_model.specs.Places.Ptr.{Null, Dead, At}
use Rattle.fk_model.specs.Calls.{todo_of, rest_of}
use Rattle.fk_model.specs.Objects.{Mode, Peer, Talk, Fault, Thread, Body}
use Rattle.fk_model.specs.Objects.Mode.{Running, Calling, Halted, Native}
use Rattle.fk_model.specs.Objects.Peer.{Server, Service, Parked}
use Rattle.fk_model.specs.Objects.Body.{Mutex, Cond, Mapping, Region, Port, Portset, Space, Thread_of, Reference}
use Rattle.fk_store.specs.Store.Paths.{place}

-- the stages that a calling thread has before it, and what else stands in its registers
abbrev pub calling_mode : List ℕ → Mode
calling_mode g = let todo = unwrap_or (todo_of g) [] in Calling todo (rest_of todo g)

-- what a thread is at: the code has its registers apart
abbrev pub mode_by : StoredMode → List ℕ → Mode
mode_by modes.Running g = Running g
mode_by modes.Calling g = calling_mode g
mode_by (modes.Halted code) g = Halted g code
mode_by modes.Native g = Native g

-- what follows takes the paths of spaces
abbrev pub pointer_by : (ℕ → Path) → StoredPtr → Ptr
pointer_by path pointers.Null = Null
pointer_by path pointers.Dead = Dead
pointer_by path (pointers.At who) = At (place path who)

-- the other end of a talk
abbrev pub peer_by : (ℕ → Path) → StoredPeer → Peer
peer_by path (peers.Thread who) = Server (At (place path who))
peer_by path peers.Service = Service
peer_by path peers.Parked = Parked

-- a talk
abbrev pub talk_by : (ℕ → Path) → StoredTalk → Talk
talk_by path talk = record { port = At (place path talk.port); peer = peer_by path talk.peer; turn = talk.turn; moved = talk.moved }

-- a fault
abbrev pub fault_by : (ℕ → Path) → StoredFault → Fault
fault_by path fault = record { page = fault.page; write = fault.write; port = At (place path fault.port); taker = option_map (peer_by path) fault.taker }

-- a thread
abbrev pub thread_by : (ℕ → Path) → StoredThread → Thread
thread_by path t = record {
  mode = mode_by t.mode t.regs;
  counter = t.pc;
  stops = t.stops;
  talk = option_map (talk_by path) t.talk;
  fault = option_map (fault_by path) t.fault;
}

-- an object
abbrev pub body_by : (ℕ → Path) → StoredBody → Body
body_by path (bodies.Mutex locked) = Mutex locked
body_by path bodies.Cond = Cond
body_by path (bodies.Mapping first count offset write region) =
    Mapping (record { first = first; count = count; offset = offset; write = write; region = pointer_by path region })
body_by path (bodies.Region first count write keeper) = Region (record { first = first; count = count; write = write; keeper = pointer_by path keeper })
body_by path (bodies.Port set served) = Port set served
body_by path bodies.Portset = Portset
body_by path (bodies.Space birth holder) = Space birth (option_map (λ who. At (place path who)) holder)
body_by path (bodies.Thread thread) = Thread_of (thread_by path thread)
body_by path (bodies.Reference to) = Reference (pointer_by path to)
