-- What is so of each object that a body names.
use Rattle.std.proofs.Common.{◌≡◌, ℕ, Option, Some, None, option_map, refl, ap}
use Rattle.fk_model.specs.declared.names.Who.{Who}
use Rattle.fk_model.specs.declared.names.Ptr.{Ptr}
use Rattle.fk_model.specs.declared.names.Ptr.TheVariants.{Null, Dead, At}
use Rattle.fk_model.specs.declared.thread.Peer.{Peer}
use Rattle.fk_model.specs.declared.thread.Peer.TheVariants as peers
use Rattle.fk_model.specs.declared.thread.Talk.{Talk}
use Rattle.fk_model.specs.declared.thread.Fault.{Fault}
use Rattle.fk_model.specs.declared.body.Body.{Body}
use Rattle.fk_model.specs.declared.body.Body.TheVariants.{Mutex, Cond, Mapping, Region, Port, Portset, Space, Thread, Reference}
use Rattle.fk_model.specs.Places as places
use Rattle.fk_model.specs.Places.{Path}
use Rattle.fk_model.specs.Objects as objects
use Rattle.fk_store.specs.Store.Paths.{place}
use Rattle.fk_store.specs.Store.Bodies.{pointer_by, peer_by, talk_by, fault_by, thread_by, body_by}
use Rattle.fk_store.specs.Store.Named.{Each, OnPointer, OnPeer, OnTalk, OnFault, OnNamed}

module _ (P Q : Who → Type 0) (f : (who : Who) → P who → Q who) where
  each_map : {A : Type 0} (S T : A → Type 0) → ((a : A) → S a → T a) → (o : Option A) → Each S o → Each T o
  each_map S T g None h = tt
  each_map S T g (Some a) h = g a h

  pointer_map : (p : Ptr) → OnPointer P p → OnPointer Q p
  pointer_map Null h = tt
  pointer_map Dead h = tt
  pointer_map (At who) h = f who h

  peer_map : (p : Peer) → OnPeer P p → OnPeer Q p
  peer_map (peers.Thread who) h = f who h
  peer_map peers.Service h = tt
  peer_map peers.Parked h = tt

  talk_map : (talk : Talk) → OnTalk P talk → OnTalk Q talk
  talk_map talk h = (f talk.port h.0, peer_map talk.peer h.1)

  fault_map : (fault : Fault) → OnFault P fault → OnFault Q fault
  fault_map fault h = (f fault.port h.0, each_map (OnPeer P) (OnPeer Q) peer_map fault.taker h.1)

  pub OnNamed-map : (b : Body) → OnNamed P b → OnNamed Q b
  OnNamed-map (Mutex locked) h = tt
  OnNamed-map Cond h = tt
  OnNamed-map (Mapping first count offset write region) h = pointer_map region h
  OnNamed-map (Region first count write keeper) h = pointer_map keeper h
  OnNamed-map (Port set served) h = tt
  OnNamed-map Portset h = tt
  OnNamed-map (Space birth holder) h = each_map P Q f holder h
  OnNamed-map (Thread thread) h = (each_map (OnTalk P) (OnTalk Q) talk_map thread.talk h.0, each_map (OnFault P) (OnFault Q) fault_map thread.fault h.1)
  OnNamed-map (Reference to) h = pointer_map to h

-- a body by paths depends on the paths of what it names alone
module _ (p q : ℕ → Path) where
  abbrev Same : Who → Type 0
  Same who = place p who ≡ place q who

  each_same : {A B : Type 0} (f g : A → B) (S : A → Type 0) → ((a : A) → S a → f a ≡ g a) → (o : Option A) → Each S o → option_map f o ≡ option_map g o
  each_same f g S h None is = refl
  each_same f g S h (Some a) is = ap Some (h a is)

  pointer_same : (to : Ptr) → OnPointer Same to → pointer_by p to ≡ pointer_by q to
  pointer_same Null h = refl
  pointer_same Dead h = refl
  pointer_same (At who) h = ap places.Ptr.At h

  peer_same : (peer : Peer) → OnPeer Same peer → peer_by p peer ≡ peer_by q peer
  peer_same (peers.Thread who) h = ap (λ x. objects.Peer.Server (places.Ptr.At x)) h
  peer_same peers.Service h = refl
  peer_same peers.Parked h = refl

  talk_same : (talk : Talk) → OnTalk Same talk → talk_by p talk ≡ talk_by q talk
  talk_same talk h = λ i. record { port = places.Ptr.At (h.0 i); peer = peer_same talk.peer h.1 i; turn = talk.turn; moved = talk.moved }

  fault_same : (fault : Fault) → OnFault Same fault → fault_by p fault ≡ fault_by q fault
  fault_same fault h = λ i. record {
    page = fault.page;
    write = fault.write;
    port = places.Ptr.At (h.0 i);
    taker = each_same (peer_by p) (peer_by q) (OnPeer Same) peer_same fault.taker h.1 i;
  }

  pub body_by-named : (b : Body) → OnNamed (λ who. place p who ≡ place q who) b → body_by p b ≡ body_by q b
  body_by-named (Mutex locked) h = refl
  body_by-named Cond h = refl
  body_by-named (Mapping first count offset write region) h =
      ap (λ to. objects.Body.Mapping (record { first = first; count = count; offset = offset; write = write; region = to })) (pointer_same region h)
  body_by-named (Region first count write keeper) h =
      ap (λ to. objects.Body.Region (record { first = first; count = count; write = write; keeper = to })) (pointer_same keeper h)
  body_by-named (Port set served) h = refl
  body_by-named Portset h = refl
  body_by-named (Space birth holder) h = ap (objects.Body.Space birth)
      (each_same (λ who. places.Ptr.At (place p who)) (λ who. places.Ptr.At (place q who)) Same (λ who e. ap places.Ptr.At e) holder h)
  body_by-named (Thread thread) h = λ i. objects.Body.Thread_of (record (thread_by p thread) {
    talk = each_same (talk_by p)
        (talk_by q) (OnTalk Same) talk_same thread.talk h.0 i;
    fault = each_same (fault_by p) (fault_by q) (OnFault Same) fault_same thread.fault h.1 i;
  })
  body_by-named (Reference to) h = ap objects.Body.Reference (pointer_same to h)
