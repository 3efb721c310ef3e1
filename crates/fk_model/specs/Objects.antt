-- Objects: what stands in a slot, with its pointers by path.
use Rattle.std.specs.Prelude.{if◌then◌else◌, ℕ, ◌+◌, Bool, false, ◌&&◌, ◌==◌, nat_le, nat_lt, List, Option, Some, None}
use Rattle.fk_model.specs.declared.names.Kind.{Kind}
use Rattle.fk_model.specs.declared.names.Kind.TheVariants as kinds
use Rattle.fk_model.specs.declared.stage.Stage.{Stage}
use Rattle.fk_model.specs.declared.thread.Turn.{Turn}
use Rattle.fk_model.specs.Places.{Ptr}
use Rattle.fk_model.specs.Calls.{words}

-- what a thread is at, with its registers. A calling thread has stages before it and the rest of its registers
pub data Mode : Type 0 where
  Running : (registers : List ℕ) → Mode
  Calling : (todo : List Stage) (rest : List ℕ) → Mode
  Halted : (registers : List ℕ) (code : ℕ) → Mode
  -- a porter, which makes the calls of its nester's jobs
  Native : (registers : List ℕ) → Mode

-- a thread's 16 registers: in a call they hold its code and the arguments of the stages to come
abbrev pub registers_of : Mode → List ℕ
registers_of (Running g) = g
registers_of (Calling todo rest) = words todo rest
registers_of (Halted g code) = g
registers_of (Native g) = g

-- who serves a talk or has taken a fault
pub data Peer : Type 0 where
  Server : (thread : Ptr) → Peer
  -- the native server of the port
  Service : Peer
  -- nobody yet: it waits at its port to be taken up
  Parked : Peer

-- a talk, which its client keeps
pub record Talk : Type 0 where
  pub port : Ptr
  pub peer : Peer
  pub turn : Turn
  -- the words moved in this turn
  pub moved : ℕ

-- a fault on a missing page. It is raised while it has no taker
pub record Fault : Type 0 where
  pub page : ℕ
  pub write : Bool
  pub port : Ptr
  pub taker : Option Peer

-- what it is at, its counter, how often it is stopped, its talk as a client, and its fault
pub record Thread : Type 0 where
  pub mode : Mode
  pub counter : ℕ
  pub stops : ℕ
  pub talk : Option Talk
  pub fault : Option Fault

-- pages from `first` on lead to a region, from its page `offset` on
pub record Window : Type 0 where
  pub first : ℕ
  pub count : ℕ
  pub offset : ℕ
  pub write : Bool
  pub region : Ptr

-- pages from `first` on are offered to mappings; the keeper takes the faults on those that are missing
pub record Extent : Type 0 where
  pub first : ℕ
  pub count : ℕ
  pub write : Bool
  pub keeper : Ptr

pub data Body : Type 0 where
  Mutex : (locked : Bool) → Body
  Cond : Body
  Mapping : (window : Window) → Body
  Region : (extent : Extent) → Body
  -- the slot of its port set in the same space, and whether a native server serves it
  Port : (set : Option ℕ) (served : Bool) → Body
  Portset : Body
  -- the birth number and the holder
  Space : (birth : ℕ) (holder : Option Ptr) → Body
  Thread_of : (thread : Thread) → Body
  Reference : (to : Ptr) → Body

-- ---- kinds

-- a kind by its number, as calls and records have it
abbrev pub number_of_kind : Kind → ℕ
number_of_kind kinds.Mutex = 1
number_of_kind kinds.Cond = 2
number_of_kind kinds.Mapping = 3
number_of_kind kinds.Region = 4
number_of_kind kinds.Port = 5
number_of_kind kinds.Portset = 6
number_of_kind kinds.Space = 7
number_of_kind kinds.Thread = 8
number_of_kind kinds.Reference = 9

-- kinds are the same
abbrev pub same_kind : Kind → Kind → Bool
same_kind a b = number_of_kind a == number_of_kind b

-- the kind of an object
abbrev pub kind_of : Body → Kind
kind_of (Mutex locked) = kinds.Mutex
kind_of Cond = kinds.Cond
kind_of (Mapping window) = kinds.Mapping
kind_of (Region extent) = kinds.Region
kind_of (Port set served) = kinds.Port
kind_of Portset = kinds.Portset
kind_of (Space birth holder) = kinds.Space
kind_of (Thread_of thread) = kinds.Thread
kind_of (Reference to) = kinds.Reference

-- a page is among the `count` pages from `first` on
abbrev pub covers : ℕ → ℕ → ℕ → Bool
covers first count page = nat_le first page && nat_lt page (first + count)

-- ---- the state of an object of one kind

-- a mutex, as whether it is locked
abbrev pub mutex_of : Body → Option Bool
mutex_of (Mutex locked) = Some locked
mutex_of other = None

abbrev pub mapping_of : Body → Option Window
mapping_of (Mapping window) = Some window
mapping_of other = None

abbrev pub region_of : Body → Option Extent
region_of (Region extent) = Some extent
region_of other = None

-- the set of a port, and whether it is served
abbrev pub port_of : Body → Option (Option ℕ × Bool)
port_of (Port set served) = Some (set, served)
port_of other = None

-- the holder of a space
abbrev pub space_of : Body → Option (Option Ptr)
space_of (Space birth holder) = Some holder
space_of other = None

-- a thread
abbrev pub thread_of : Body → Option Thread
thread_of (Thread_of thread) = Some thread
thread_of other = None

-- a reference, as where it leads
abbrev pub reference_of : Body → Option Ptr
reference_of (Reference to) = Some to
reference_of other = None

-- ---- Option's own words

-- what comes of a value, where there is one
abbrev pub and_then : {A B : Type 0} → (A → Option B) → Option A → Option B
and_then f None = None
and_then f (Some a) = f a

-- the first of two values that is there
abbrev pub or_else : {A : Type 0} → Option A → Option A → Option A
or_else None b = b
or_else (Some a) b = Some a

-- there is a value that meets a test
abbrev pub holds : {A : Type 0} → (A → Bool) → Option A → Bool
holds test None = false
holds test (Some a) = test a

-- ---- small words

-- a port with a native server
abbrev pub is_served : Body → Bool
is_served b = holds (λ (port : Option ℕ × Bool). port.1) (port_of b)

-- a flag as a word
abbrev pub flag_of : Bool → ℕ
flag_of b = if b then 1 else 0
