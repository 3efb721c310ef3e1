-- Sweeps: what stays of a body where an object that it names is destroyed or gets another name.
use Rattle.std.proofs.Common.{◌≡◌, ℕ, Bool, true, false, Option, Some, None, option_map, if◌then◌else◌, refl}
use Rattle.fk_model.specs.declared.names.Who.{Who}
use Rattle.fk_model.specs.declared.names.Ptr.{Ptr}
use Rattle.fk_model.specs.declared.names.Ptr.TheVariants.{Null, Dead, At}
use Rattle.fk_model.specs.declared.thread.Peer.{Peer}
use Rattle.fk_model.specs.declared.thread.Peer.TheVariants as peers
use Rattle.fk_model.specs.declared.thread.Talk.{Talk}
use Rattle.fk_model.specs.declared.thread.Fault.{Fault}
use Rattle.fk_model.specs.declared.body.Body.{Body}
use Rattle.fk_model.specs.declared.body.Body.TheVariants.{Mutex, Cond, Mapping, Region, Port, Portset, Space, Thread, Reference}
use Rattle.fk_model.specs.Objects.{and_then}
use Rattle.fk_store_graph.specs.declared.leads.sweeps.Sweep.{Sweep}
use Rattle.fk_store.specs.Store.Names.{same_who}
use Rattle.fk_store.specs.Store.Contents.{stored_birth}
use Rattle.fk_store.specs.Store.Named.{Each, OnPointer, OnPeer, OnTalk, OnFault, OnNamed}
use Rattle.fk_store.specs.Store.WellFormed.{IsSized}
use Rattle.fk_store.specs.Freezing.Sweeps.{after, or_dead, pointer_after, peer_after, talk_after, fault_after, body_after}

pub and_then-mapped : {A B : Type 0} (f : A → B) (g : A → Option A) (h : B → Option B) →
    ((a : A) → option_map f (g a) ≡ h (f a)) → (o : Option A) → option_map f (and_then g o) ≡ and_then h (option_map f o)
and_then-mapped f g h same None = refl
and_then-mapped f g h same (Some a) = same a

module _ (sweep : Sweep) (space : ℕ) where
  pub birth-after : (b : Body) → stored_birth (body_after sweep space b) ≡ stored_birth b
  birth-after (Mutex locked) = refl
  birth-after Cond = refl
  birth-after (Mapping first count offset write region) = refl
  birth-after (Region first count write keeper) = refl
  birth-after (Port set served) = refl
  birth-after Portset = refl
  birth-after (Space birth holder) = refl
  birth-after (Thread thread) = refl
  birth-after (Reference to) = refl

  pub sized-after : (b : Body) → IsSized b → IsSized (body_after sweep space b)
  sized-after (Mutex locked) h = h
  sized-after Cond h = h
  sized-after (Mapping first count offset write region) h = h
  sized-after (Region first count write keeper) h = h
  sized-after (Port set served) h = h
  sized-after Portset h = h
  sized-after (Space birth holder) h = h
  sized-after (Thread thread) h = h
  sized-after (Reference to) h = h

-- what is so of all that a body names, but for the object that goes, is so of all that it names afterwards
module _ (sweep : Sweep) (P Q : Who → Type 0) (others : (who : Who) → P who → same_who who sweep.from ≡ false → Q who) (target : Each Q sweep.to) where
  who-named : (who : Who) → P who → Each Q (after sweep who)
  who-named who h = by (same_who who sweep.from) refl
    where
      by : (t : Bool) → same_who who sweep.from ≡ t → Each Q (if t then sweep.to else Some who)
      by true e = target
      by false e = others who h e

  dead-named : (o : Option Who) → Each Q o → OnPointer Q (or_dead o)
  dead-named None h = tt
  dead-named (Some who) h = h

  pointer-named : (p : Ptr) → OnPointer P p → OnPointer Q (pointer_after sweep p)
  pointer-named Null h = tt
  pointer-named Dead h = tt
  pointer-named (At who) h = dead-named (after sweep who) (who-named who h)

  server-named : (o : Option Who) → Each Q o → Each (OnPeer Q) (option_map peers.Thread o)
  server-named None h = tt
  server-named (Some who) h = h

  peer-named : (peer : Peer) → OnPeer P peer → Each (OnPeer Q) (peer_after sweep peer)
  peer-named (peers.Thread who) h = server-named (after sweep who) (who-named who h)
  peer-named peers.Service h = tt
  peer-named peers.Parked h = tt

  -- what is so of each a in an option is so of what f makes of it
  each-then : {A B : Type 0} (f : A → Option B) (S : A → Type 0) (T : B → Type 0) →
      ((a : A) → S a → Each T (f a)) → (o : Option A) → Each S o → Each T (and_then f o)
  each-then f S T g None h = tt
  each-then f S T g (Some a) h = g a h

  talk-parts : (talk : Talk) (port : Option Who) (peer : Option Peer) →
      Each Q port → Each (OnPeer Q) peer → Each (OnTalk Q) (and_then (λ port. option_map (λ peer. record talk { port = port; peer = peer }) peer) port)
  talk-parts talk None peer h k = tt
  talk-parts talk (Some port) None h k = tt
  talk-parts talk (Some port) (Some peer) h k = (h, k)

  talk-named : (talk : Talk) → OnTalk P talk → Each (OnTalk Q) (talk_after sweep talk)
  talk-named talk h = talk-parts talk (after sweep talk.port) (peer_after sweep talk.peer) (who-named talk.port h.0) (peer-named talk.peer h.1)

  fault-parts : (fault : Fault) (port : Option Who) (taker : Option Peer) →
      Each Q port → Each (OnPeer Q) taker → Each (OnFault Q) (option_map (λ port. record fault { port = port; taker = taker }) port)
  fault-parts fault None taker h k = tt
  fault-parts fault (Some port) taker h k = (h, k)

  fault-named : (fault : Fault) → OnFault P fault → Each (OnFault Q) (fault_after sweep fault)
  fault-named fault h = fault-parts fault (after sweep fault.port)
      (and_then (peer_after sweep) fault.taker) (who-named fault.port h.0) (each-then (peer_after sweep) (OnPeer P) (OnPeer Q) peer-named fault.taker h.1)

  pub named-after : (space : ℕ) (b : Body) → OnNamed P b → OnNamed Q (body_after sweep space b)
  named-after space (Mutex locked) h = tt
  named-after space Cond h = tt
  named-after space (Mapping first count offset write region) h = pointer-named region h
  named-after space (Region first count write keeper) h = pointer-named keeper h
  named-after space (Port set served) h = tt
  named-after space Portset h = tt
  named-after space (Space birth holder) h = each-then (after sweep) P Q who-named holder h
  named-after space (Thread thread) h = (
    each-then (talk_after sweep) (OnTalk P) (OnTalk Q) talk-named thread.talk h.0,
    each-then (fault_after sweep) (OnFault P) (OnFault Q) fault-named thread.fault h.1,
  )
  named-after space (Reference to) h = pointer-named to h
