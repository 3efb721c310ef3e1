-- The world, and the changes that a move makes in it.
--
-- A world gives for each path what stands there, for each space and page its 64 words, and the next birth number. It
-- is changed by a few kinds of change alone, one for each call of the store. Changes of a thread are relative: they say
-- what becomes of the thread that is there, and carry nothing that was read before.
use Rattle.std.specs.Prelude.{ℕ, ◌+◌, ◌-◌, min, Bool, false, ◌&&◌, ◌||◌, ◌==◌, List, [], ◌∷◌, Option, Some, None, option_map, if◌then◌else◌, slice_set}
use Rattle.fk_model.specs.declared.limits.TheConstants.{MOST_MOVED}
use Rattle.fk_model.specs.declared.stage.Stage.{Stage}
use Rattle.fk_model.specs.declared.stage.Stage.TheVariants.{ClientReceive, ClientSend, ClientReceiveRef, ServerReceive, ServerSend, ServerReceiveRef}
use Rattle.fk_model.specs.declared.statuses.status.TheConstants.{OK}
use Rattle.fk_model.specs.declared.thread.Turn.{Turn}
use Rattle.fk_model.specs.Places.{Path, same_path, parent, slot_of, Ptr, leads_to}
use Rattle.fk_model.specs.Places.Ptr.{Dead, At}
use Rattle.fk_model.specs.Calls.{words, left_by, with_answers}
use Rattle.fk_model.specs.Instructions as instructions
use Rattle.fk_model.specs.Objects.{Mode, Peer, Talk, Fault, Thread, Body, and_then}
use Rattle.fk_model.specs.Objects.Mode.{Running, Calling}
use Rattle.fk_model.specs.Objects.Peer.{Server, Service, Parked}
use Rattle.fk_model.specs.Objects.Body.{Mutex, Cond, Mapping, Region, Port, Portset, Space, Thread_of, Reference}

-- what stands at each path, and each page of each space
pub record World : Type 0 where
  pub body : Path → Option Body
  pub page : Path → ℕ → Option (List ℕ)
  -- the next birth number
  pub next : ℕ

-- ---- what becomes of one object

-- a change of one object
pub data Edit : Type 0 where
  -- of a mutex, a mapping's numbers, a region's numbers, and a port
  SetLocked : (locked : Bool) → Edit
  SetWindow : (first count offset : ℕ) (write : Bool) → Edit
  SetExtent : (first count : ℕ) (write : Bool) → Edit
  SetMember : (set : Option ℕ) → Edit
  -- the pointer of a mapping, a region or a reference
  SetPointer : (to : Ptr) → Edit
  -- the holder of a space
  SetHolder : (holder : Option Ptr) → Edit
  -- of a thread: it is at this, with this counter
  Proceed : (mode : Mode) (counter : ℕ) → Edit
  -- the first stage of its call has moved so many words
  Shift : (count : ℕ) → Edit
  -- the first stage of its call is done, and answers; the call ends where it was the last
  Finish : (answers : List ℕ) → Edit
  -- its whole call ends with a status, and answers
  End : (status : ℕ) (answers : List ℕ) → Edit
  -- another stage stands in place of the first
  Replace : (stage : Stage) → Edit
  SetStops : (stops : ℕ) → Edit
  -- its talk as a client begins or ends
  SetTalk : (talk : Option Talk) → Edit
  -- its talk has moved so many words more, passes to a side, has a peer
  CountMoved : (count : ℕ) → Edit
  PassTurn : (turn : Turn) → Edit
  SetPeer : (peer : Peer) → Edit
  -- its fault begins or ends, has a taker
  SetFault : (fault : Option Fault) → Edit
  SetTaker : (taker : Option Peer) → Edit

abbrev pub on_thread : (Thread → Thread) → Body → Body
on_thread f (Thread_of t) = Thread_of (f t)
on_thread f other = other

abbrev pub on_talk : (Talk → Talk) → Thread → Thread
on_talk f t = record t { talk = option_map f t.talk }

abbrev pub on_fault : (Fault → Fault) → Thread → Thread
on_fault f t = record t { fault = option_map f t.fault }

abbrev pub at_mode : Thread → Mode → ℕ → Thread
at_mode t mode counter = record t { mode = mode; counter = counter }

-- a stage that has moved some of its words
abbrev pub shifted : ℕ → Stage → Stage
shifted k (ClientSend address count) = ClientSend (address + k) (count - k)
shifted k (ClientReceive into room) = ClientReceive (into + k) (room - k)
shifted k (ServerSend address count) = ServerSend (address + k) (count - k)
shifted k (ServerReceive into room) = ServerReceive (into + k) (room - k)
shifted k (ClientReceiveRef into room reference) = ClientReceiveRef (into + k) (room - k) reference
shifted k (ServerReceiveRef into room reference) = ServerReceiveRef (into + k) (room - k) reference
shifted k other = other

abbrev pub shifted_in : ℕ → Mode → Mode
shifted_in k (Calling (stage ∷ todo) rest) = Calling (shifted k stage ∷ todo) rest
shifted_in k other = other

abbrev pub ended_in : ℕ → List ℕ → Thread → Mode → Thread
ended_in status answers t (Calling todo rest) = at_mode t (Running (with_answers answers (slice_set (words todo rest) 0 status))) (instructions.next t.counter)
ended_in status answers t other = t

abbrev pub finished_in : List ℕ → Thread → Mode → Thread
finished_in answers t (Calling (stage ∷ next_stage ∷ todo) rest) =
    at_mode t (Calling (next_stage ∷ todo) (with_answers answers (left_by stage (next_stage ∷ todo) rest))) t.counter
finished_in answers t mode = ended_in OK answers t mode

abbrev pub replaced_in : Stage → Mode → Mode
replaced_in stage (Calling (old ∷ todo) rest) = Calling (stage ∷ todo) (left_by old (stage ∷ todo) rest)
replaced_in stage other = other

abbrev pub with_pointer : Ptr → Body → Body
with_pointer to (Mapping m) = Mapping (record m { region = to })
with_pointer to (Region r) = Region (record r { keeper = to })
with_pointer to (Reference old) = Reference to
with_pointer to other = other

abbrev pub with_locked : Bool → Body → Body
with_locked locked (Mutex old) = Mutex locked
with_locked locked other = other

abbrev pub with_window : ℕ → ℕ → ℕ → Bool → Body → Body
with_window first count offset write (Mapping m) = Mapping (record { first = first; count = count; offset = offset; write = write; region = m.region })
with_window first count offset write other = other

abbrev pub with_extent : ℕ → ℕ → Bool → Body → Body
with_extent first count write (Region r) = Region (record { first = first; count = count; write = write; keeper = r.keeper })
with_extent first count write other = other

abbrev pub with_member : Option ℕ → Body → Body
with_member set (Port old served) = Port set served
with_member set other = other

abbrev pub with_holder : Option Ptr → Body → Body
with_holder holder (Space birth old) = Space birth holder
with_holder holder other = other

-- an object of another kind than the edit's stays as it is
unfoldable pub edited : Edit → Body → Body
edited (SetLocked locked) b = with_locked locked b
edited (SetWindow first count offset write) b = with_window first count offset write b
edited (SetExtent first count write) b = with_extent first count write b
edited (SetMember set) b = with_member set b
edited (SetPointer to) b = with_pointer to b
edited (SetHolder holder) b = with_holder holder b
edited (Proceed mode counter) b = on_thread (λ t. at_mode t mode counter) b
edited (Shift count) b = on_thread (λ t. at_mode t (shifted_in count t.mode) t.counter) b
edited (Finish answers) b = on_thread (λ t. finished_in answers t t.mode) b
edited (End status answers) b = on_thread (λ t. ended_in status answers t t.mode) b
edited (Replace stage) b = on_thread (λ t. at_mode t (replaced_in stage t.mode) t.counter) b
edited (SetStops stops) b = on_thread (λ t. record t { stops = stops }) b
edited (SetTalk talk) b = on_thread (λ t. record t { talk = talk }) b
edited (CountMoved count) b = on_thread (on_talk (λ talk. record talk { moved = min MOST_MOVED (talk.moved + count) })) b
edited (PassTurn turn) b = on_thread (on_talk (λ talk. record talk { turn = turn; moved = 0 })) b
edited (SetPeer peer) b = on_thread (on_talk (λ talk. record talk { peer = peer })) b
edited (SetFault fault) b = on_thread (λ t. record t { fault = fault }) b
edited (SetTaker taker) b = on_thread (on_fault (λ fault. record fault { taker = taker })) b

-- ---- what becomes of all pointers, where an object is destroyed or renamed

-- what to make of each pointer, holder, talk and fault, and of the set that a port at a path is in
pub record Sweep : Type 0 where
  pub pointer : Ptr → Ptr
  pub holder : Ptr → Option Ptr
  pub talk : Talk → Option Talk
  pub fault : Fault → Option Fault
  pub set : Path → ℕ → Option ℕ

abbrev pub through : Sweep → Path → Body → Body
through f at (Mutex locked) = Mutex locked
through f at Cond = Cond
through f at (Mapping m) = Mapping (record m { region = f.pointer m.region })
through f at (Region r) = Region (record r { keeper = f.pointer r.keeper })
through f at (Port set served) = Port (and_then (f.set at) set) served
through f at Portset = Portset
through f at (Space birth holder) = Space birth (and_then f.holder holder)
through f at (Thread_of t) = Thread_of (record t { talk = and_then f.talk t.talk; fault = and_then f.fault t.fault })
through f at (Reference to) = Reference (f.pointer to)

-- the set that a port at this path is in
abbrev pub set_at : Path → ℕ → Path
set_at port set = set ∷ parent port

abbrev pub serves : Path → Peer → Bool
serves x (Server thread) = leads_to x thread
serves x Service = false
serves x Parked = false

-- a talk ends with its port and with its server; a fault ends with its port, and is raised again without its taker
abbrev pub talk_without : Path → Talk → Option Talk
talk_without x talk = if leads_to x talk.port || serves x talk.peer then None else Some talk

abbrev pub taker_without : Path → Peer → Option Peer
taker_without x taker = if serves x taker then None else Some taker

abbrev pub fault_without : Path → Fault → Option Fault
fault_without x fault = if leads_to x fault.port then None else Some (record fault { taker = and_then (taker_without x) fault.taker })

abbrev pub death_sweep : Path → Sweep
death_sweep x = record {
  pointer = λ p. if leads_to x p then Dead else p;
  holder = λ p. if leads_to x p then None else Some p;
  talk = talk_without x;
  fault = fault_without x;
  set = λ port set. if same_path (set_at port set) x then None else Some set;
}

-- every pointer follows an object from x to y
abbrev pub follow : Path → Path → Ptr → Ptr
follow x y p = if leads_to x p then At y else p

abbrev pub follow_peer : Path → Path → Peer → Peer
follow_peer x y (Server thread) = Server (follow x y thread)
follow_peer x y Service = Service
follow_peer x y Parked = Parked

abbrev pub following : Path → Path → Sweep
following x y = record {
  pointer = follow x y;
  holder = λ p. Some (follow x y p);
  talk = λ talk. Some (record talk { port = follow x y talk.port; peer = follow_peer x y talk.peer });
  fault = λ fault. Some (record fault { port = follow x y fault.port; taker = option_map (follow_peer x y) fault.taker });
  set = λ port set. Some (if same_path (set_at port set) x then slot_of y else set);
}

-- ---- changes

pub data Change : Type 0 where
  Alter : (path : Path) (edit : Edit) → Change
  Make : (path : Path) (body : Body) → Change
  -- a space takes the next birth number
  MakeSpace : (path : Path) (holder : Option Ptr) → Change
  -- an object with nothing beneath it is destroyed, with its pages
  Kill : (path : Path) → Change
  -- an object with nothing beneath it gets another slot of its space
  Move : (path : Path) (slot : ℕ) → Change
  PutPage : (space : Path) (page : ℕ) (words : List ℕ) → Change
  DropPage : (space : Path) (page : ℕ) → Change

-- f at what stands at x
abbrev pub at_path : Path → (Option Body → Option Body) → World → World
at_path x f w = record { body = λ q. if same_path q x then f (w.body q) else w.body q; page = w.page; next = w.next }

-- in a subtree that is seen alone birth numbers are 0, and stay so
abbrev pub birth_after : ℕ → ℕ
birth_after next = if next == 0 then 0 else next + 1

abbrev pub killed_at : Path → World → World
killed_at x w = record {
  body = λ q. if same_path q x then None else option_map (through (death_sweep x) q) (w.body q);
  page = λ s g. if same_path s x then None else w.page s g;
  next = w.next;
}

abbrev pub moved_to : Path → Path → World → World
moved_to x y w = record {
  body = λ q. if same_path q y then option_map (through (following x y) y) (w.body x)
      else (if same_path q x then None else option_map (through (following x y) q) (w.body q));
  page = λ s g. if same_path s y then w.page x g else (if same_path s x then None else w.page s g);
  next = w.next;
}

abbrev pub with_page : Path → ℕ → Option (List ℕ) → World → World
with_page space page words w = record { body = w.body; page = λ s g. if same_path s space && g == page then words else w.page s g; next = w.next }

-- the world after a change
unfoldable pub apply : Change → World → World
apply (Alter x edit) w = at_path x (option_map (edited edit)) w
apply (Make x body) w = at_path x (λ there. Some body) w
apply (MakeSpace x holder) w = record (at_path x (λ there. Some (Space w.next holder)) w) { next = birth_after w.next }
apply (Kill x) w = killed_at x w
apply (Move x slot) w = moved_to x (slot ∷ parent x) w
apply (PutPage space page words) w = with_page space page (Some words) w
apply (DropPage space page) w = with_page space page None w

-- the world after several changes, one after the other
unfoldable pub apply_all : List Change → World → World
apply_all [] w = w
apply_all (c ∷ cs) w = apply_all cs (apply c w)
