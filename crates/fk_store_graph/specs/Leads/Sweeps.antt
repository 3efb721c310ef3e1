-- Sweeps: what becomes of a body, by names, where an object is destroyed or gets another name.
use Rattle.std.specs.Prelude.{ℕ, Option, Some, None, option_map, if◌then◌else◌}
use Rattle.fk_model.specs.declared.names.Who.{Who}
use Rattle.fk_model.specs.declared.names.Ptr.{Ptr}
use Rattle.fk_model.specs.declared.names.Ptr.TheVariants.{Null, Dead, At}
use Rattle.fk_model.specs.declared.thread.Peer.{Peer}
use Rattle.fk_model.specs.declared.thread.Peer.TheVariants as peers
use Rattle.fk_model.specs.declared.thread.Talk.{Talk}
use Rattle.fk_model.specs.declared.thread.Fault.{Fault}
use Rattle.fk_model.specs.declared.body.Body.{Body}
use Rattle.fk_model.specs.declared.body.Body.TheVariants.{Mutex, Cond, Mapping, Region, Port, Portset, Space, Thread, Reference}
use Rattle.fk_model.specs.Objects.{and_then}
use Rattle.fk_store_graph.specs.Leads.Names.{at, same_who}
use Rattle.fk_store_graph.specs.declared.leads.sweeps.Sweep.{Sweep}

-- where an object is after the sweep, if it is still there
abbrev pub after : Sweep → Who → Option Who
after sweep who = if same_who who sweep.from then sweep.to else Some who

abbrev pub or_dead : Option Who → Ptr
or_dead None = Dead
or_dead (Some who) = At who

-- what becomes of a pointer
abbrev pub pointer_after : Sweep → Ptr → Ptr
pointer_after sweep Null = Null
pointer_after sweep Dead = Dead
pointer_after sweep (At who) = or_dead (after sweep who)

abbrev pub peer_after : Sweep → Peer → Option Peer
peer_after sweep (peers.Thread who) = option_map peers.Thread (after sweep who)
peer_after sweep peers.Service = Some peers.Service
peer_after sweep peers.Parked = Some peers.Parked

-- a talk ends with its port and with its server
abbrev pub talk_after : Sweep → Talk → Option Talk
talk_after sweep talk = and_then (λ port. option_map (λ peer. record talk { port = port; peer = peer }) (peer_after sweep talk.peer)) (after sweep talk.port)

-- a fault ends with its port, and is raised again without its taker
abbrev pub fault_after : Sweep → Fault → Option Fault
fault_after sweep fault = option_map (λ port. record fault { port = port; taker = and_then (peer_after sweep) fault.taker }) (after sweep fault.port)

-- the set of a port in this space
abbrev pub set_after : Sweep → ℕ → ℕ → Option ℕ
set_after sweep space set = option_map (λ (who : Who). who.slot) (after sweep (at space set))

-- a body in this space
abbrev pub body_after : Sweep → ℕ → Body → Body
body_after sweep space (Mutex locked) = Mutex locked
body_after sweep space Cond = Cond
body_after sweep space (Mapping first count offset write region) = Mapping first count offset write (pointer_after sweep region)
body_after sweep space (Region first count write keeper) = Region first count write (pointer_after sweep keeper)
body_after sweep space (Port set served) = Port (and_then (set_after sweep space) set) served
body_after sweep space Portset = Portset
body_after sweep space (Space birth holder) = Space birth (and_then (after sweep) holder)
body_after sweep space (Thread thread) =
    Thread (record thread { talk = and_then (talk_after sweep) thread.talk; fault = and_then (fault_after sweep) thread.fault })
body_after sweep space (Reference to) = Reference (pointer_after sweep to)

-- a body of which the pointers alone are swept: a port keeps its set
abbrev pub led_after : Sweep → Body → Body
led_after sweep (Mutex locked) = Mutex locked
led_after sweep Cond = Cond
led_after sweep (Mapping first count offset write region) = Mapping first count offset write (pointer_after sweep region)
led_after sweep (Region first count write keeper) = Region first count write (pointer_after sweep keeper)
led_after sweep (Port set served) = Port set served
led_after sweep Portset = Portset
led_after sweep (Space birth holder) = Space birth (and_then (after sweep) holder)
led_after sweep (Thread thread) =
    Thread (record thread { talk = and_then (talk_after sweep) thread.talk; fault = and_then (fault_after sweep) thread.fault })
led_after sweep (Reference to) = Reference (pointer_after sweep to)
