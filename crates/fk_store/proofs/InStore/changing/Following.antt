-- Following: a body in which names follow an object to another name is the one in which pointers follow it by path.
use Rattle.std.proofs.Common.{◌≡◌, ℕ, Bool, true, false, ◌∷◌, Option, Some, None, option_map, if◌then◌else◌, refl, ap, ◌∙◌}
use Rattle.fk_model.specs.declared.names.Who.{Who}
use Rattle.fk_model.specs.declared.names.Ptr.{Ptr}
use Rattle.fk_model.specs.declared.names.Ptr.TheVariants.{Null, Dead, At}
use Rattle.fk_model.specs.declared.thread.Peer.{Peer}
use Rattle.fk_model.specs.declared.thread.Peer.TheVariants as peers
use Rattle.fk_model.specs.declared.thread.Talk.{Talk}
use Rattle.fk_model.specs.declared.thread.Fault.{Fault}
use Rattle.fk_model.specs.declared.body.Body.{Body}
use Rattle.fk_model.specs.declared.body.Body.TheVariants.{Mutex, Cond, Mapping, Region, Port, Portset, Space, Thread, Reference}
use Rattle.fk_model.specs.Places as places
use Rattle.fk_model.specs.Places.{Path}
use Rattle.fk_model.specs.Objects as objects
use Rattle.fk_model.specs.Objects.{and_then}
use Rattle.fk_model.specs.World.{through, following, follow, follow_peer}
use Rattle.fk_store_graph.specs.declared.leads.sweeps.Sweep.{Sweep}
use Rattle.fk_store.specs.Store.Names.{at, same_who}
use Rattle.fk_store.specs.Store.Paths.{place, HasOwnPath}
use Rattle.fk_store.proofs.InStore.changing.SweepLaws.{and_then-mapped}
use Rattle.fk_store.specs.Store.Bodies.{pointer_by, peer_by, talk_by, fault_by, thread_by, body_by}
use Rattle.fk_store.specs.Freezing.Sweeps.{after, or_dead, pointer_after, peer_after, talk_after, fault_after, set_after, body_after}

module _ (p : ℕ → Path) (from to : Who) (apart : HasOwnPath p from) where
  abbrev moving : Sweep
  moving = record { from = from; to = Some to }

  abbrev x : Path
  x = place p from

  abbrev y : Path
  y = place p to

  pointer-following : (ptr : Ptr) → pointer_by p (pointer_after moving ptr) ≡ follow x y (pointer_by p ptr)
  pointer-following Null = refl
  pointer-following Dead = refl
  pointer-following (At who) = rw ((apart who).0) (by (same_who who from))
    where
      by : (t : Bool) → pointer_by p (or_dead (if t then Some to else Some who)) ≡ (if t then places.Ptr.At y else places.Ptr.At (place p who))
      by true = refl
      by false = refl

  holder-following : (o : Option Who) → option_map (λ who. places.Ptr.At (place p who))
      (and_then (after moving) o) ≡ and_then (following x y).holder (option_map (λ who. places.Ptr.At (place p who)) o)
  holder-following None = refl
  holder-following (Some who) = rw ((apart who).0) (by (same_who who from))
    where
      by : (t : Bool) →
          option_map (λ who. places.Ptr.At (place p who)) (if t then Some to else Some who) ≡ Some (if t then places.Ptr.At y else places.Ptr.At (place p who))
      by true = refl
      by false = refl

  peer-following : (peer : Peer) → option_map (peer_by p) (peer_after moving peer) ≡ Some (follow_peer x y (peer_by p peer))
  peer-following (peers.Thread who) = rw ((apart who).0) (by (same_who who from))
    where
      by : (t : Bool) → option_map (peer_by p)
          (option_map peers.Thread (if t then Some to else Some who)) ≡ Some (objects.Peer.Server (if t then places.Ptr.At y else places.Ptr.At (place p who)))
      by true = refl
      by false = refl
  peer-following peers.Service = refl
  peer-following peers.Parked = refl

  -- a talk of these parts
  talk-parts : (talk : Talk) (port : Option Who) (peer : Option Peer) (to_port : places.Ptr) (by_peer : objects.Peer) →
      option_map (λ who. places.Ptr.At (place p who)) port ≡ Some to_port → option_map (peer_by p) peer ≡ Some by_peer →
      option_map (talk_by p) (and_then (λ port. option_map (λ peer. record talk { port = port; peer = peer }) peer) port) ≡ Some
      (record (talk_by p talk) { port = to_port; peer = by_peer })
  talk-parts talk None peer to_port by_peer a b = absurd (cc)
  talk-parts talk (Some port) None to_port by_peer a b = absurd (cc)
  talk-parts talk (Some port) (Some peer) to_port by_peer a b =
      let at_port : places.Ptr.At (place p port) ≡ to_port = cc in
      let at_peer : peer_by p peer ≡ by_peer = cc in
      λ i. Some (record (talk_by p talk) { port = at_port i; peer = at_peer i })

  who-following : (who : Who) → option_map (λ who. places.Ptr.At (place p who)) (after moving who) ≡ Some (follow x y (places.Ptr.At (place p who)))
  who-following who = holder-following (Some who)

  talk-following : (talk : Talk) → option_map (talk_by p) (talk_after moving talk) ≡ (following x y).talk (talk_by p talk)
  talk-following talk = talk-parts talk (after moving talk.port) (peer_after moving talk.peer) _ _ (who-following talk.port) (peer-following talk.peer)

  taker-following : (o : Option Peer) → option_map (peer_by p) (and_then (peer_after moving) o) ≡ option_map (follow_peer x y) (option_map (peer_by p) o)
  taker-following None = refl
  taker-following (Some peer) = peer-following peer

  fault-parts : (fault : Fault) (port : Option Who) (taker : Option Peer) (to_port : places.Ptr) →
      option_map (λ who. places.Ptr.At (place p who)) port ≡ Some to_port →
      option_map (fault_by p) (option_map (λ port. record fault { port = port; taker = taker }) port) ≡ Some
      (record (fault_by p fault) { port = to_port; taker = option_map (peer_by p) taker })
  fault-parts fault None taker to_port a = absurd (cc)
  fault-parts fault (Some port) taker to_port a =
      let at_port : places.Ptr.At (place p port) ≡ to_port = cc in
      λ i. Some (record (fault_by p fault) { port = at_port i; taker = option_map (peer_by p) taker })

  fault-following : (fault : Fault) → option_map (fault_by p) (fault_after moving fault) ≡ (following x y).fault (fault_by p fault)
  fault-following fault = fault-parts fault (after moving fault.port) (and_then (peer_after moving) fault.taker) _ (who-following fault.port)
      ∙ ap (λ taker. Some (record (fault_by p fault) { port = follow x y (places.Ptr.At (place p fault.port)); taker = taker })) (taker-following fault.taker)

  set-following : (space slot : ℕ) (o : Option ℕ) → and_then (set_after moving space) o ≡ and_then ((following x y).set (slot ∷ p space)) o
  set-following space slot None = refl
  set-following space slot (Some set) = rw ((apart (at space set)).0) (by (same_who (at space set) from))
    where
      by : (t : Bool) → option_map (λ (who : Who). who.slot) (if t then Some to else Some (at space set)) ≡ Some (if t then to.slot else set)
      by true = refl
      by false = refl

  -- it doesn't matter in which slot of its space the body is
  pub body-following : (space slot : ℕ) (b : Body) → body_by p (body_after moving space b) ≡ through (following x y) (slot ∷ p space) (body_by p b)
  body-following space slot (Mutex locked) = refl
  body-following space slot Cond = refl
  body-following space slot (Mapping first count offset write region) =
      ap (λ to. objects.Body.Mapping (record { first = first; count = count; offset = offset; write = write; region = to })) (pointer-following region)
  body-following space slot (Region first count write keeper) =
      ap (λ to. objects.Body.Region (record { first = first; count = count; write = write; keeper = to })) (pointer-following keeper)
  body-following space slot (Port set served) = ap (λ set. objects.Body.Port set served) (set-following space slot set)
  body-following space slot Portset = refl
  body-following space slot (Space birth holder) = ap (objects.Body.Space birth) (holder-following holder)
  body-following space slot (Thread thread) = λ i. objects.Body.Thread_of (record (thread_by p thread) {
    talk = and_then-mapped (talk_by p) (talk_after moving) (following x y).talk talk-following thread.talk i;
    fault = and_then-mapped (fault_by p) (fault_after moving) (following x y).fault fault-following thread.fault i;
  })
  body-following space slot (Reference to) = ap objects.Body.Reference (pointer-following to)
