-- Leads: what a body leads to is what it names.
use Rattle.std.proofs.Common.{◌≡◌, ℕ, Bool, true, false, cond, ◌==◌, nat_lt, Option, Some, None, IsSome, is_some, option_map, refl, subst}
use Rattle.fk_model.specs.Objects.{and_then}
use Rattle.fk_model.specs.declared.names.Who.{Who}
use Rattle.fk_model.specs.declared.names.Ptr.{Ptr}
use Rattle.fk_model.specs.declared.names.Ptr.TheVariants.{Null, Dead, At}
use Rattle.fk_model.specs.declared.thread.Peer.{Peer}
use Rattle.fk_model.specs.declared.thread.Peer.TheVariants as peers
use Rattle.fk_model.specs.declared.thread.Talk.{Talk}
use Rattle.fk_model.specs.declared.thread.Fault.{Fault}
use Rattle.fk_model.specs.declared.body.Body.{Body}
use Rattle.fk_model.specs.declared.body.Body.TheVariants.{Mutex, Cond, Mapping, Region, Port, Portset, Space, Thread, Reference}
use Rattle.fk_store_graph.specs.declared.hints.lead.Sort.{Sort}
use Rattle.fk_store_graph.specs.declared.hints.lead.Sort.TheVariants.{Pointer, Served, Taken}
use Rattle.fk_store_graph.specs.declared.hints.lead.Lead.{Lead}
use Rattle.fk_store.specs.Freezing.Leads.{led, pointer, peer, server, of_talk, of_fault, of_thread, lead_by}
use Rattle.fk_store.specs.Freezing.Leading.{LeadsAmong}
use Rattle.fk_store.specs.Store.Contents.{Contents}
use Rattle.fk_store.specs.Store.Named.{Each, OnPointer, OnPeer, OnTalk, OnFault, OnNamed}
use Rattle.fk_store.specs.Store.WellFormed.{IsWellFormed}
use Rattle.fk_store.specs.Store.World.{IsLive}
use Rattle.fk_store.proofs.InStore.finding.LookUps.{IsLive-there}

module _ (P : Who → Type 0) where
  -- what is so of the one to whom a lead leads
  abbrev OnLead : Option Lead → Type 0
  OnLead o = (l : Lead) → o ≡ Some l → P l.to

  no_lead : OnLead None
  no_lead l h = absurd (cc)

  one_lead : (sort : Sort) (who : Who) → P who → OnLead (Some (lead_by sort who))
  one_lead sort who h l is = let same : lead_by sort who ≡ l = cc in subst (λ (l : Lead). P l.to) same h

  cond_lead : (b : Bool) (o p : Option Lead) → OnLead o → OnLead p → OnLead (cond b o p)
  cond_lead true o p h k = h
  cond_lead false o p h k = k

  pointer_lead : (p : Ptr) → OnPointer P p → OnLead (pointer p)
  pointer_lead Null h = no_lead
  pointer_lead Dead h = no_lead
  pointer_lead (At who) h = one_lead Pointer who h

  peer_lead : (sort : Sort) (p : Peer) → OnPeer P p → OnLead (peer sort p)
  peer_lead sort (peers.Thread who) h = one_lead sort who h
  peer_lead sort peers.Service h = no_lead
  peer_lead sort peers.Parked h = no_lead

  server_lead : (port : Who) (p : Peer) → P port → OnPeer P p → OnLead (server port p)
  server_lead port (peers.Thread who) h k = one_lead Served who k
  server_lead port peers.Service h k = one_lead Served port h
  server_lead port peers.Parked h k = no_lead

  holder_lead : (o : Option Who) → Each P o → OnLead (option_map (lead_by Pointer) o)
  holder_lead None h = no_lead
  holder_lead (Some who) h = one_lead Pointer who h

  taker_lead : (sort : Sort) (o : Option Peer) → Each (OnPeer P) o → OnLead (and_then (peer sort) o)
  taker_lead sort None h = no_lead
  taker_lead sort (Some p) h = peer_lead sort p h

  talk_lead : (i : ℕ) (o : Option Talk) → Each (OnTalk P) o → OnLead (and_then (of_talk i) o)
  unfolding of_talk
  talk_lead i None h = no_lead
  talk_lead i (Some talk) h = cond_lead (i == 0) _ _ (one_lead Pointer talk.port h.0) (cond_lead (i == 1) _ _ (peer_lead Pointer talk.peer h.1)
      (cond_lead (i == 2) _ _ (server_lead talk.port talk.peer h.0 h.1) no_lead))

  fault_lead : (i : ℕ) (o : Option Fault) → Each (OnFault P) o → OnLead (and_then (of_fault i) o)
  unfolding of_fault
  fault_lead i None h = no_lead
  fault_lead i (Some fault) h = cond_lead (i == 3) _ _ (one_lead Pointer fault.port h.0) (cond_lead (i == 4) _ _ (taker_lead Pointer fault.taker h.1)
      (cond_lead (i == 5) _ _ (taker_lead Taken fault.taker h.1) no_lead))

  pub led-named : (b : Body) → OnNamed P b → (i : ℕ) → OnLead (led b i)
  unfolding led of_thread
  led-named (Mutex locked) h i = no_lead
  led-named Cond h i = no_lead
  led-named (Mapping page count offset write region) h i = cond_lead (i == 0) _ _ (pointer_lead region h) no_lead
  led-named (Region page count write keeper) h i = cond_lead (i == 0) _ _ (pointer_lead keeper h) no_lead
  led-named (Port set served) h i = no_lead
  led-named Portset h i = no_lead
  led-named (Space birth holder) h i = cond_lead (i == 0) _ _ (holder_lead holder h) no_lead
  led-named (Thread thread) h i = cond_lead (nat_lt i 3) _ _ (talk_lead i thread.talk h.0) (fault_lead i thread.fault h.1)
  led-named (Reference to) h i = cond_lead (i == 0) _ _ (pointer_lead to h) no_lead

some_there : {A : Type 0} (o : Option A) → is_some o ≡ true → IsSome o
some_there None h = absurd (cc)
some_there (Some a) h = refl

pub leads-named : (m : Contents) → IsWellFormed m → (b : Body) → OnNamed (IsLive m) b → LeadsAmong m.bodies b
leads-named m kept b named i l is = some_there _ (IsLive-there m kept l.to (led-named (IsLive m) b named i l is))
