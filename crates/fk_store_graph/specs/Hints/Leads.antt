-- Leads: where the fields of a body lead, and as what.
use Rattle.std.specs.Prelude.{ℕ, Bool, true, false, ◌&&◌, ◌==◌, nat_lt, Option, Some, None, option_map, if◌then◌else◌}
use Rattle.fk_model.specs.declared.names.Who.{Who}
use Rattle.fk_model.specs.declared.names.Ptr.{Ptr}
use Rattle.fk_model.specs.declared.names.Ptr.TheVariants.{Null, Dead, At}
use Rattle.fk_model.specs.declared.thread.Peer.{Peer}
use Rattle.fk_model.specs.declared.thread.Peer.TheVariants as peers
use Rattle.fk_model.specs.declared.thread.Talk.{Talk}
use Rattle.fk_model.specs.declared.thread.Fault.{Fault}
use Rattle.fk_model.specs.declared.body.Body.{Body}
use Rattle.fk_model.specs.declared.body.Body.TheVariants.{Mutex, Cond, Mapping, Region, Port, Portset, Space, Thread, Reference}
use Rattle.fk_model.specs.Objects.{and_then}
use Rattle.fk_store_graph.specs.declared.hints.lead.Sort.{Sort}
use Rattle.fk_store_graph.specs.declared.hints.lead.Sort.TheVariants.{Pointer, Served, Taken}
use Rattle.fk_store_graph.specs.declared.hints.lead.Lead.{Lead}

-- a lead of a sort to an object
abbrev pub lead_by : Sort → Who → Lead
lead_by sort who = record { to = who; sort = sort }

abbrev pub first : ℕ → Option Lead → Option Lead
first field lead = if field == 0 then lead else None

abbrev pub pointer : Ptr → Option Lead
pointer Null = None
pointer Dead = None
pointer (At who) = Some (lead_by Pointer who)

-- the thread that a peer is
abbrev pub peer : Sort → Peer → Option Lead
peer sort (peers.Thread who) = Some (lead_by sort who)
peer sort peers.Service = None
peer sort peers.Parked = None

-- who serves a talk at a port
abbrev pub server : Who → Peer → Option Lead
server port (peers.Thread who) = Some (lead_by Served who)
server port peers.Service = Some (lead_by Served port)
server port peers.Parked = None

-- a talk's port, its peer, and its server
unfoldable pub of_talk : ℕ → Talk → Option Lead
of_talk field talk =
    if field == 0 then Some (lead_by Pointer talk.port)
    else if field == 1 then peer Pointer talk.peer
    else if field == 2 then server talk.port talk.peer else None

-- a fault's port, and its taker as a pointer and as such
unfoldable pub of_fault : ℕ → Fault → Option Lead
of_fault field fault =
    if field == 3 then Some (lead_by Pointer fault.port)
    else if field == 4 then and_then (peer Pointer) fault.taker
    else if field == 5 then and_then (peer Taken) fault.taker else None

unfoldable pub of_thread : Option Talk → Option Fault → ℕ → Option Lead
of_thread talk fault field = if nat_lt field 3 then and_then (of_talk field) talk else and_then (of_fault field) fault

-- where a field of a body leads. The fields are 0 to 5
unfoldable pub led : Body → ℕ → Option Lead
led (Mutex locked) field = None
led Cond field = None
led (Mapping page count offset write region) field = first field (pointer region)
led (Region page count write keeper) field = first field (pointer keeper)
led (Port set served) field = None
led Portset field = None
led (Space birth holder) field = first field (option_map (lead_by Pointer) holder)
led (Thread thread) field = of_thread thread.talk thread.fault field
led (Reference to) field = first field (pointer to)
