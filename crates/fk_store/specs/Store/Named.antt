-- Named: the objects that a body names.
use Rattle.std.specs.Prelude.{Option, Some, None}
use Rattle.fk_model.specs.declared.names.Who.{Who}
use Rattle.fk_model.specs.declared.names.Ptr.{Ptr}
use Rattle.fk_model.specs.declared.names.Ptr.TheVariants.{Null, Dead, At}
use Rattle.fk_model.specs.declared.thread.Peer.{Peer}
use Rattle.fk_model.specs.declared.thread.Peer.TheVariants as peers
use Rattle.fk_model.specs.declared.thread.Talk.{Talk}
use Rattle.fk_model.specs.declared.thread.Fault.{Fault}
use Rattle.fk_model.specs.declared.body.Body.{Body}
use Rattle.fk_model.specs.declared.body.Body.TheVariants.{Mutex, Cond, Mapping, Region, Port, Portset, Space, Thread, Reference}

-- the fact P for what there is in an option
abbrev pub Each : {A : Type 0} → (A → Type 0) → Option A → Type 0
Each P None = Unit {0}
Each P (Some a) = P a

-- what follows is the fact P for each object that is named
abbrev pub OnPointer : (Who → Type 0) → Ptr → Type 0
OnPointer P Null = Unit {0}
OnPointer P Dead = Unit {0}
OnPointer P (At who) = P who

-- of whom the other end of a talk names
abbrev pub OnPeer : (Who → Type 0) → Peer → Type 0
OnPeer P (peers.Thread who) = P who
OnPeer P peers.Service = Unit {0}
OnPeer P peers.Parked = Unit {0}

-- of whom a talk names
abbrev pub OnTalk : (Who → Type 0) → Talk → Type 0
OnTalk P talk = P talk.port × OnPeer P talk.peer

-- of whom a fault names
abbrev pub OnFault : (Who → Type 0) → Fault → Type 0
OnFault P fault = P fault.port × Each (OnPeer P) fault.taker

-- of whom an object names
abbrev pub OnNamed : (Who → Type 0) → Body → Type 0
OnNamed P (Mutex locked) = Unit {0}
OnNamed P Cond = Unit {0}
OnNamed P (Mapping first count offset write region) = OnPointer P region
OnNamed P (Region first count write keeper) = OnPointer P keeper
OnNamed P (Port set served) = Unit {0}
OnNamed P Portset = Unit {0}
OnNamed P (Space birth holder) = Each P holder
OnNamed P (Thread thread) = Each (OnTalk P) thread.talk × Each (OnFault P) thread.fault
OnNamed P (Reference to) = OnPointer P to
