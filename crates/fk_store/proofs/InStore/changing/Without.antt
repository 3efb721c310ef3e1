-- Without: a body from which a destroyed object is swept by name is the one from which it is swept by path.
use Rattle.std.proofs.Common.{◌≡◌, ℕ, Bool, true, false, ◌||◌, ◌∷◌, Option, Some, None, option_map, if◌then◌else◌, refl, ap}
use Rattle.fk_model.specs.declared.names.Who.{Who}
use Rattle.fk_model.specs.declared.names.Ptr.{Ptr}
use Rattle.fk_model.specs.declared.names.Ptr.TheVariants.{Null, Dead, At}
use Rattle.fk_model.specs.declared.thread.Peer.{Peer}
use Rattle.fk_model.specs.declared.thread.Peer.TheVariants as peers
use Rattle.fk_model.specs.declared.thread.Talk.{Talk}
use Rattle.fk_model.specs.declared.thread.Fault.{Fault}
use Rattle.fk_model.specs.declared.body.Body.{Body}
use Rattle.fk_model.specs.declared.body.Body.TheVariants.{Mutex, Cond, Mapping, Region, Port, Portset, Space, Thread, Reference}
use Rattle.fk_model.specs.Places as places
use Rattle.fk_model.specs.Places.{Path}
use Rattle.fk_model.specs.Objects as objects
use Rattle.fk_model.specs.Objects.{and_then}
use Rattle.fk_model.specs.World.{through, death_sweep, serves, talk_without, taker_without, fault_without}
use Rattle.fk_store_graph.specs.declared.leads.sweeps.Sweep.{Sweep}
use Rattle.fk_store.specs.Store.Names.{at, same_who}
use Rattle.fk_store.specs.Store.Paths.{place, HasOwnPath}
use Rattle.fk_store.proofs.InStore.changing.SweepLaws.{and_then-mapped}
use Rattle.fk_store.specs.Store.Bodies.{pointer_by, peer_by, talk_by, fault_by, thread_by, body_by}
use Rattle.fk_store.specs.Freezing.Sweeps.{after, or_dead, pointer_after, peer_after, talk_after, fault_after, set_after, body_after}

module _ (p : ℕ → Path) (from : Who) (apart : HasOwnPath p from) where
  abbrev gone : Sweep
  gone = record { from = from; to = None }

  pointer-without : (to : Ptr) → pointer_by p (pointer_after gone to) ≡ (death_sweep (place p from)).pointer (pointer_by p to)
  pointer-without Null = refl
  pointer-without Dead = refl
  pointer-without (At who) = rw ((apart who).0) (by (same_who who from))
    where
      by : (t : Bool) → pointer_by p (or_dead (if t then None else Some who)) ≡ (if t then places.Ptr.Dead else places.Ptr.At (place p who))
      by true = refl
      by false = refl

  holder-without : (o : Option Who) → option_map (λ who. places.Ptr.At (place p who))
      (and_then (after gone) o) ≡ and_then (death_sweep (place p from)).holder (option_map (λ who. places.Ptr.At (place p who)) o)
  holder-without None = refl
  holder-without (Some who) = rw ((apart who).0) (by (same_who who from))
    where
      by : (t : Bool) →
          option_map (λ who. places.Ptr.At (place p who)) (if t then None else Some who) ≡ (if t then None else Some (places.Ptr.At (place p who)))
      by true = refl
      by false = refl

  talk-without : (talk : Talk) → option_map (talk_by p) (talk_after gone talk) ≡ talk_without (place p from) (talk_by p talk)
  talk-without talk = rw ((apart talk.port).0) (by (same_who talk.port from) talk.peer)
    where
      served : (who : Who) → option_map (talk_by p) (option_map (λ peer. record talk { peer = peer }) (peer_after gone (peers.Thread who)))
          ≡ (if serves (place p from) (peer_by p (peers.Thread who)) then None else Some (record (talk_by p talk) { peer = peer_by p (peers.Thread who) }))
      served who = rw ((apart who).0) (server (same_who who from))
        where
          server : (t : Bool) →
              option_map (talk_by p) (option_map (λ peer. record talk { peer = peer }) (option_map peers.Thread (if t then None else Some who)))
              ≡ (if t then None else Some (record (talk_by p talk) { peer = peer_by p (peers.Thread who) }))
          server true = refl
          server false = refl

      by : (t : Bool) (peer : Peer) → option_map (talk_by p)
          (and_then (λ port. option_map (λ peer. record talk { port = port; peer = peer }) (peer_after gone peer)) (if t then None else Some talk.port))
          ≡ (if t || serves (place p from) (peer_by p peer) then None else Some (record (talk_by p talk) { peer = peer_by p peer }))
      by true peer = refl
      by false (peers.Thread who) = served who
      by false peers.Service = refl
      by false peers.Parked = refl

  taker-without : (o : Option Peer) → option_map (peer_by p) (and_then (peer_after gone) o) ≡ and_then (taker_without (place p from)) (option_map (peer_by p) o)
  taker-without None = refl
  taker-without (Some (peers.Thread who)) = rw ((apart who).0) (by (same_who who from))
    where
      by : (t : Bool) →
          option_map (peer_by p) (option_map peers.Thread (if t then None else Some who)) ≡ (if t then None else Some (peer_by p (peers.Thread who)))
      by true = refl
      by false = refl
  taker-without (Some peers.Service) = refl
  taker-without (Some peers.Parked) = refl

  fault-without : (fault : Fault) → option_map (fault_by p) (fault_after gone fault) ≡ fault_without (place p from) (fault_by p fault)
  fault-without fault = rw ((apart fault.port).0) (by (same_who fault.port from))
    where
      by : (t : Bool) → option_map (fault_by p)
          (option_map (λ port. record fault { port = port; taker = and_then (peer_after gone) fault.taker }) (if t then None else Some fault.port))
          ≡ (if t then None else Some (record (fault_by p fault) { taker = and_then (taker_without (place p from)) (option_map (peer_by p) fault.taker) }))
      by true = refl
      by false = ap (λ taker. Some (record (fault_by p fault) { taker = taker })) (taker-without fault.taker)

  set-without : (space : ℕ) (slot : ℕ) (o : Option ℕ) → and_then (set_after gone space) o ≡ and_then ((death_sweep (place p from)).set (slot ∷ p space)) o
  set-without space slot None = refl
  set-without space slot (Some set) = rw ((apart (at space set)).0) (by (same_who (at space set) from))
    where
      by : (t : Bool) → option_map (λ (who : Who). who.slot) (if t then None else Some (at space set)) ≡ (if t then None else Some set)
      by true = refl
      by false = refl

  pub body-without : (who : Who) (b : Body) → body_by p (body_after gone who.space b) ≡ through (death_sweep (place p from)) (place p who) (body_by p b)
  body-without who (Mutex locked) = refl
  body-without who Cond = refl
  body-without who (Mapping first count offset write region) =
      ap (λ to. objects.Body.Mapping (record { first = first; count = count; offset = offset; write = write; region = to })) (pointer-without region)
  body-without who (Region first count write keeper) =
      ap (λ to. objects.Body.Region (record { first = first; count = count; write = write; keeper = to })) (pointer-without keeper)
  body-without who (Port set served) = ap (λ set. objects.Body.Port set served) (set-without who.space who.slot set)
  body-without who Portset = refl
  body-without who (Space birth holder) = ap (objects.Body.Space birth) (holder-without holder)
  body-without who (Thread thread) = λ i. objects.Body.Thread_of (record (thread_by p thread) {
    talk = and_then-mapped (talk_by p) (talk_after gone) (talk_without (place p from)) talk-without thread.talk i;
    fault = and_then-mapped (fault_by p) (fault_after gone) (fault_without (place p from)) fault-without thread.fault i;
  })
  body-without who (Reference to) = ap objects.Body.Reference (pointer-without to)
