-- Searches: what lies in a space, beneath it, and in the whole world.
--
-- A walk goes from space to space. Each space is younger than the one in which it lies, and birth numbers are below
-- 2^32, so no walk is longer.
use Rattle.std.specs.Prelude.{ℕ, zero, suc, ◌^◌, Bool, true, false, ◌&&◌, ◌||◌, List, [], ◌∷◌, ◌++◌, filter, find, is_some, Option, Some, None, option_map}
use Rattle.std.specs.Prelude.{count_by}
use Rattle.std.specs.List.{flat_map}
use Rattle.fk_model.specs.declared.limits.TheConstants.{SLOTS}
use Rattle.fk_model.specs.Places.{Path, Ptr, leads_to}
use Rattle.fk_model.specs.Objects.{Peer, Talk, Fault, Thread, Body, thread_of, and_then, or_else, holds}
use Rattle.fk_model.specs.Objects.Body.{Mapping, Region, Space, Thread_of, Reference}
use Rattle.fk_model.specs.Objects.Peer.{Server, Service, Parked}
use Rattle.fk_model.specs.World.{World, serves}

-- what f answers at the lowest of the first n slots at which it answers
unfoldable pub lowest : {A : Type 0} → ℕ → (ℕ → Option A) → Option A
lowest zero f = None
lowest (suc n) f = or_else (lowest n f) (f n)

-- the first n slots, rising
unfoldable pub slots : ℕ → List ℕ
slots zero = []
slots (suc n) = slots n ++ n ∷ []

-- the taken slots of a space, rising
unfoldable pub residents : World → Path → List ℕ
residents w s = filter (λ k. is_some (w.body (k ∷ s))) (slots SLOTS)

-- some object lies in a space
abbrev pub has_residents : World → Path → Bool
has_residents w s = is_some (lowest SLOTS (λ k. w.body (k ∷ s)))

-- the longest walk
abbrev pub depth : ℕ
depth = 2 ^ 32

-- all that lies in or beneath a space, in preorder: an object before what lies in it, by rising slot
unfoldable pub beneath_by : ℕ → World → Path → List Path
beneath_by zero w s = []
beneath_by (suc n) w s = flat_map (λ k. (k ∷ s) ∷ beneath_by n w (k ∷ s)) (residents w s)

-- all objects that lie in a space and beneath it
unfoldable pub beneath : World → Path → List Path
beneath w s = beneath_by depth w s

-- every object but the root
abbrev pub objects : World → List Path
objects w = beneath w []

-- the lowest taken slot of a space
abbrev pub first_resident : World → Path → Option ℕ
first_resident w s = lowest SLOTS (λ k. option_map (λ b. k) (w.body (k ∷ s)))

abbrev pub leaf_from : (ℕ → Path) → Path → Option ℕ → Path
leaf_from go x None = x
leaf_from go x (Some k) = go k

-- the first object at or beneath x, depth first by slot, that has no residents
unfoldable pub leaf_by : ℕ → World → Path → Path
leaf_by zero w x = x
leaf_by (suc n) w x = leaf_from (λ k. leaf_by n w (k ∷ x)) x (first_resident w x)

-- the first object at or beneath a place with nothing in it: it goes first when that is destroyed
unfoldable pub leaf : World → Path → Path
leaf w x = leaf_by depth w x

-- ---- threads by their talks and faults

-- the thread at a path
abbrev pub thread_at : World → Path → Option Thread
thread_at w c = and_then thread_of (w.body c)

-- the talk of the thread at a path, as a client
abbrev pub talk_at : World → Path → Option Talk
talk_at w c = and_then (λ (t : Thread). t.talk) (thread_at w c)

-- the fault of a thread, if it has one
abbrev pub fault_at : World → Path → Option Fault
fault_at w c = and_then (λ (t : Thread). t.fault) (thread_at w c)

-- the client whose talk a thread serves
unfoldable pub client_of : World → Path → Option Path
client_of w server = find (λ c. holds (λ (talk : Talk). serves server talk.peer) (talk_at w c)) (objects w)

-- the thread whose fault a thread has taken
unfoldable pub faulter_of : World → Path → Option Path
faulter_of w taker = find (λ c. holds (λ (fault : Fault). holds (serves taker) fault.taker) (fault_at w c)) (objects w)

-- the thread serves a talk or has taken a fault
abbrev pub is_serving : World → Path → Bool
is_serving w x = is_some (client_of w x) || is_some (faulter_of w x)

-- the clients of all talks at a port
unfoldable pub clients_at : World → Path → List Path
clients_at w port = filter (λ c. holds (λ (talk : Talk). leads_to port talk.port) (talk_at w c)) (objects w)

abbrev pub is_service : Peer → Bool
is_service Service = true
is_service (Server thread) = false
is_service Parked = false

-- the client of a port's native server
unfoldable pub client_at : World → Path → Option Path
client_at w port = find (λ c. holds (λ (talk : Talk). leads_to port talk.port && is_service talk.peer) (talk_at w c)) (objects w)

-- ---- pointers

-- where a talk leads besides its port: to the thread that serves it
abbrev pub peer_pointer : Peer → List Ptr
peer_pointer (Server thread) = thread ∷ []
peer_pointer Service = []
peer_pointer Parked = []

-- the pointers of what is there
abbrev pub option_list : {A : Type 0} → (A → List Ptr) → Option A → List Ptr
option_list f None = []
option_list f (Some a) = f a

-- where a talk leads
abbrev pub talk_pointers : Talk → List Ptr
talk_pointers talk = talk.port ∷ peer_pointer talk.peer

-- where a fault leads
abbrev pub fault_pointers : Fault → List Ptr
fault_pointers fault = fault.port ∷ option_list peer_pointer fault.taker

-- every pointer of an object
abbrev pub pointers : Body → List Ptr
pointers (Mapping m) = m.region ∷ []
pointers (Region r) = r.keeper ∷ []
pointers (Space birth holder) = option_list (λ p. p ∷ []) holder
pointers (Thread_of t) = option_list talk_pointers t.talk ++ option_list fault_pointers t.fault
pointers (Reference to) = to ∷ []
pointers other = []

-- how many pointers of an object lead to x
abbrev pub pointers_to : Path → Option Body → ℕ
pointers_to x None = 0
pointers_to x (Some b) = count_by (leads_to x) (pointers b)
