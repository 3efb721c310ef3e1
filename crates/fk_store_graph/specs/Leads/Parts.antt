-- Parts: which threads serve whom, by names.
use Rattle.std.specs.Prelude.{Bool, false, true, ◌&&◌}
use Rattle.fk_model.specs.declared.names.Who.{Who}
use Rattle.fk_model.specs.declared.thread.Peer.{Peer}
use Rattle.fk_model.specs.declared.thread.Peer.TheVariants as peers
use Rattle.fk_model.specs.declared.thread.Talk as talks_of
use Rattle.fk_model.specs.declared.thread.Fault as faults_of
use Rattle.fk_model.specs.declared.thread.Thread as threads_of
use Rattle.fk_model.specs.declared.body.Body.{Body}
use Rattle.fk_model.specs.declared.body.Body.TheVariants.{Mutex, Cond, Mapping, Region, Port, Portset, Space, Thread, Reference}
use Rattle.fk_model.specs.Objects.{holds}
use Rattle.fk_store_graph.specs.declared.leads.parts.Part.{Part}
use Rattle.fk_store_graph.specs.declared.leads.parts.Part.TheVariants.{Client, Faulter, Guest}
use Rattle.fk_store_graph.specs.Leads.Names.{same_who}
use Rattle.fk_store_graph.specs.declared.hints.lead.Sort.{Sort}
use Rattle.fk_store_graph.specs.declared.hints.lead.Sort.TheVariants.{Served, Taken}

abbrev pub is_thread : Who → Peer → Bool
is_thread who (peers.Thread other) = same_who other who
is_thread who peers.Service = false
is_thread who peers.Parked = false

abbrev pub is_service : Peer → Bool
is_service (peers.Thread other) = false
is_service peers.Service = true
is_service peers.Parked = false

-- a thread plays a part
abbrev pub thread_plays : Part → threads_of.Thread → Bool
thread_plays (Client server) t = holds (λ (talk : talks_of.Talk). is_thread server talk.peer) t.talk
thread_plays (Faulter taker) t = holds (λ (fault : faults_of.Fault). holds (is_thread taker) fault.taker) t.fault
thread_plays (Guest port) t = holds (λ (talk : talks_of.Talk). same_who talk.port port && is_service talk.peer) t.talk

-- an object has this part in a talk or a fault
abbrev pub plays : Part → Body → Bool
plays part (Mutex locked) = false
plays part Cond = false
plays part (Mapping first count offset write region) = false
plays part (Region first count write keeper) = false
plays part (Port set served) = false
plays part Portset = false
plays part (Space birth holder) = false
plays part (Thread thread) = thread_plays part thread
plays part (Reference to) = false

-- for whom or where a part is played, and as what those who play it lead there
abbrev pub whose : Part → Who
whose (Client server) = server
whose (Faulter taker) = taker
whose (Guest port) = port

-- under which of an object's hints such a part is found
abbrev pub sort_of : Part → Sort
sort_of (Client server) = Served
sort_of (Faulter taker) = Taken
sort_of (Guest port) = Served
