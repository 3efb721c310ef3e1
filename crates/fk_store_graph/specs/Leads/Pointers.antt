-- Pointers: how many of a body lead to an object, by names.
use Rattle.std.specs.Prelude.{ℕ, ◌+◌, Option, Some, None, if◌then◌else◌}
use Rattle.fk_model.specs.declared.names.Who.{Who}
use Rattle.fk_model.specs.declared.names.Ptr.{Ptr}
use Rattle.fk_model.specs.declared.names.Ptr.TheVariants.{Null, Dead, At}
use Rattle.fk_model.specs.declared.thread.Peer.{Peer}
use Rattle.fk_model.specs.declared.thread.Peer.TheVariants as peers
use Rattle.fk_model.specs.declared.thread.Talk.{Talk}
use Rattle.fk_model.specs.declared.thread.Fault.{Fault}
use Rattle.fk_model.specs.declared.body.Body.{Body}
use Rattle.fk_model.specs.declared.body.Body.TheVariants.{Mutex, Cond, Mapping, Region, Port, Portset, Space, Thread, Reference}
use Rattle.fk_store_graph.specs.Leads.Names.{same_who}

-- 1 where this is the object
abbrev pub hit : Who → Who → ℕ
hit who other = if same_who other who then 1 else 0

-- how many, where something is there
abbrev pub hits_in : {A : Type 0} → (A → ℕ) → Option A → ℕ
hits_in f None = 0
hits_in f (Some a) = f a

abbrev pub pointer_hits : Who → Ptr → ℕ
pointer_hits who Null = 0
pointer_hits who Dead = 0
pointer_hits who (At other) = hit who other

abbrev pub peer_hits : Who → Peer → ℕ
peer_hits who (peers.Thread other) = hit who other
peer_hits who peers.Service = 0
peer_hits who peers.Parked = 0

abbrev pub talk_hits : Who → Talk → ℕ
talk_hits who talk = hit who talk.port + peer_hits who talk.peer

abbrev pub fault_hits : Who → Fault → ℕ
fault_hits who fault = hit who fault.port + hits_in (peer_hits who) fault.taker

-- how many pointers of an object lead to this one
abbrev pub body_hits : Who → Body → ℕ
body_hits who (Mutex locked) = 0
body_hits who Cond = 0
body_hits who (Mapping first count offset write region) = pointer_hits who region
body_hits who (Region first count write keeper) = pointer_hits who keeper
body_hits who (Port set served) = 0
body_hits who Portset = 0
body_hits who (Space birth holder) = hits_in (hit who) holder
body_hits who (Thread thread) = hits_in (talk_hits who) thread.talk + hits_in (fault_hits who) thread.fault
body_hits who (Reference to) = pointer_hits who to
