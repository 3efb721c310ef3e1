-- Parts: a thread plays a part by name where it does by path.
use Rattle.std.proofs.Common.{◌≡◌, ℕ, Bool, false, ◌&&◌, Option, Some, None, option_map, refl, sym}
use Rattle.fk_model.specs.declared.names.Who.{Who}
use Rattle.fk_model.specs.declared.thread.Peer.{Peer}
use Rattle.fk_model.specs.declared.thread.Peer.TheVariants as peers
use Rattle.fk_model.specs.declared.thread.Talk as talks_of
use Rattle.fk_model.specs.declared.thread.Fault as faults_of
use Rattle.fk_model.specs.declared.thread.Thread as threads_of
use Rattle.fk_model.specs.declared.body.Body as bodies_of
use Rattle.fk_model.specs.declared.body.Body.TheVariants as bodies
use Rattle.fk_model.specs.Places.{Path, leads_to}
use Rattle.fk_model.specs.Places.Ptr.{At}
use Rattle.fk_model.specs.Objects.{Talk, Fault, thread_of, holds}
use Rattle.fk_model.specs.Searches as searches
use Rattle.fk_model.specs.World.{serves}
use Rattle.fk_store_graph.specs.declared.leads.parts.Part.{Part}
use Rattle.fk_store_graph.specs.declared.leads.parts.Part.TheVariants.{Client, Faulter, Guest}
use Rattle.fk_store.specs.Store.Names.{same_who}
use Rattle.fk_store.specs.Store.Paths.{place, HasOwnPath}
use Rattle.fk_store.specs.Store.Bodies.{peer_by, talk_by, fault_by, thread_by, body_by}
use Rattle.fk_store.specs.Store.Named.{Each, OnPeer, OnTalk, OnFault, OnNamed}
use Rattle.fk_store.specs.Freezing.Parts.{is_thread, is_service, thread_plays, plays}
use Rattle.fk_store.specs.Store.Parts.{played}

pub nobody : (p : ℕ → Path) (part : Part) → played p part None ≡ false
nobody p (Client server) = refl
nobody p (Faulter taker) = refl
nobody p (Guest port) = refl

module _ (p : ℕ → Path) where
  led : (who other : Who) → HasOwnPath p other → same_who other who ≡ leads_to (place p who) (At (place p other))
  led who other apart = sym (apart who).1

  thread-by : (who : Who) (peer : Peer) → OnPeer (HasOwnPath p) peer → is_thread who peer ≡ serves (place p who) (peer_by p peer)
  thread-by who (peers.Thread other) h = led who other h
  thread-by who peers.Service h = refl
  thread-by who peers.Parked h = refl

  taker-by : (who : Who) (o : Option Peer) → Each (OnPeer (HasOwnPath p)) o → holds (is_thread who) o ≡ holds (serves (place p who)) (option_map (peer_by p) o)
  taker-by who None h = refl
  taker-by who (Some peer) h = thread-by who peer h

  service-by : (peer : Peer) → is_service peer ≡ searches.is_service (peer_by p peer)
  service-by (peers.Thread other) = refl
  service-by peers.Service = refl
  service-by peers.Parked = refl

  talk-by : (f : talks_of.Talk → Bool) (g : Talk → Bool) → ((talk : talks_of.Talk) → OnTalk (HasOwnPath p) talk → f talk ≡ g (talk_by p talk)) →
      (o : Option talks_of.Talk) → Each (OnTalk (HasOwnPath p)) o → holds f o ≡ holds g (option_map (talk_by p) o)
  talk-by f g same None h = refl
  talk-by f g same (Some talk) h = same talk h

  fault-by : (f : faults_of.Fault → Bool) (g : Fault → Bool) → ((fault : faults_of.Fault) → OnFault (HasOwnPath p) fault → f fault ≡ g (fault_by p fault)) →
      (o : Option faults_of.Fault) → Each (OnFault (HasOwnPath p)) o → holds f o ≡ holds g (option_map (fault_by p) o)
  fault-by f g same None h = refl
  fault-by f g same (Some fault) h = same fault h

  both-by : (a b c d : Bool) → a ≡ c → b ≡ d → (a && b) ≡ (c && d)
  both-by a b c d e f = λ i. e i && f i

  thread_plays-by : (part : Part) (t : threads_of.Thread) →
      OnNamed (HasOwnPath p) (bodies.Thread t) → thread_plays part t ≡ played p part (Some (thread_by p t))
  thread_plays-by (Client server) t h = talk-by _ (λ talk. serves (place p server) talk.peer) (λ talk on. thread-by server talk.peer on.1) t.talk h.0
  thread_plays-by (Faulter taker) t h =
      fault-by _ (λ fault. holds (serves (place p taker)) fault.taker) (λ fault on. taker-by taker fault.taker on.1) t.fault h.1
  thread_plays-by (Guest port) t h = talk-by _ (λ talk. leads_to (place p port) talk.port && searches.is_service talk.peer)
      (λ talk on. both-by _ _ _ _ (led port talk.port on.0) (service-by talk.peer)) t.talk h.0

  pub plays-by : (part : Part) (b : bodies_of.Body) → OnNamed (HasOwnPath p) b → plays part b ≡ played p part (thread_of (body_by p b))
  plays-by part (bodies.Mutex locked) h = sym (nobody p part)
  plays-by part bodies.Cond h = sym (nobody p part)
  plays-by part (bodies.Mapping first count offset write region) h = sym (nobody p part)
  plays-by part (bodies.Region first count write keeper) h = sym (nobody p part)
  plays-by part (bodies.Port set served) h = sym (nobody p part)
  plays-by part bodies.Portset h = sym (nobody p part)
  plays-by part (bodies.Space birth holder) h = sym (nobody p part)
  plays-by part (bodies.Thread thread) h = thread_plays-by part thread h
  plays-by part (bodies.Reference to) h = sym (nobody p part)
