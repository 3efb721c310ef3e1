-- What holds of each pointer that counts, carried from one way to see, or from one world, to another.
use Rattle.std.proofs.Common.{◌≡◌, Bool, true, false, Option, Some, None, IfSome}
use Rattle.fk_model.specs.declared.names.Kind.TheVariants as kinds
use Rattle.fk_model.specs.Places.{Path, is_within, Ptr}
use Rattle.fk_model.specs.Places.Ptr.{At}
use Rattle.fk_model.specs.Objects.{Peer, Talk, Fault, Body}
use Rattle.fk_model.specs.Objects.Peer.{Server, Service, Parked}
use Rattle.fk_model.specs.Objects.Body.{Mapping, Region, Port, Space, Thread_of, Reference}
use Rattle.fk_model.specs.World.{World}
use Rattle.fk_model.specs.Readers.{kind_at}
use Rattle.fk_model.specs.Cut.{is_out}
use Rattle.laws_subtrees.specs.Cut.Likeness.{PtrLikeness, IfServer, AllInTalk, AllInFault, IsPlainBody}
use Rattle.laws_subtrees.specs.Cut.Likeness.PtrLikeness.{Nulls, Deads, Inside, PortAt, PortOut}

-- two ways to see that agree on what leads out
module _ (see anew : Ptr → Ptr) (out : (p : Ptr) → is_out (anew p) ≡ is_out (see p)) (P Q : Ptr → Type 0) (more : (p : Ptr) → P p → Q p) where
  all_in_peer : (out : Bool) (peer : Peer) → IfServer out peer P → IfServer out peer Q
  all_in_peer true peer h = tt
  all_in_peer false (Server thread) h = more thread h
  all_in_peer false Service h = tt
  all_in_peer false Parked h = tt

  all_in_talk : (o : Option Talk) → IfSome o (AllInTalk see P) → IfSome o (AllInTalk anew Q)
  all_in_talk None h = tt
  all_in_talk (Some talk) h = rw (out talk.port) (more talk.port h.0, all_in_peer (is_out (see talk.port)) talk.peer h.1)

  all_in_taker : (out : Bool) (o : Option Peer) → IfSome o (λ taker. IfServer out taker P) → IfSome o (λ taker. IfServer out taker Q)
  all_in_taker out None h = tt
  all_in_taker out (Some taker) h = all_in_peer out taker h

  all_in_fault : (o : Option Fault) → IfSome o (AllInFault see P) → IfSome o (AllInFault anew Q)
  all_in_fault None h = tt
  all_in_fault (Some fault) h = rw (out fault.port) (more fault.port h.0, all_in_taker (is_out (see fault.port)) fault.taker h.1)

  pub all_in_body : (v : Option Body) → IfSome v (IsPlainBody see P) → IfSome v (IsPlainBody anew Q)
  all_in_body (Some (Mapping m)) h = more m.region h
  all_in_body (Some (Region r)) h = more r.keeper h
  all_in_body (Some (Space birth (Some holder))) h = more holder h
  all_in_body (Some (Space birth None)) h = tt
  all_in_body (Some (Port set served)) h = h
  all_in_body (Some (Thread_of t)) h = (all_in_talk t.talk h.0, all_in_fault t.fault h.1, h.2)
  all_in_body (Some (Reference to)) h = more to h
  all_in_body (Some b) h = tt
  all_in_body None h = tt

-- what leads to a port outside still does where ports outside stay ports
pub ptr_moved : (root : Path) (big after : World) →
    ((x : Path) → is_within root x ≡ false → kind_at big (At x) ≡ Some kinds.Port → kind_at after (At x) ≡ Some kinds.Port) →
    (p seen : Ptr) → PtrLikeness root big p seen → PtrLikeness root after p seen
ptr_moved root big after stay _ _ Nulls = Nulls
ptr_moved root big after stay _ _ Deads = Deads
ptr_moved root big after stay _ _ (Inside x) = Inside x
ptr_moved root big after stay _ _ (PortAt x slot apart port) = PortAt x slot apart (stay x apart port)
ptr_moved root big after stay _ _ (PortOut old slot) = PortOut old slot
