-- TargetLaws: where pointers lead once an object has another name.
use Rattle.std.proofs.Common.{◌≡◌, ℕ, Bool, true, false, cond, ◌==◌, ltb, Option, Some, None, option_map, refl, sym, ap, ◌∙◌}
use Rattle.fk_model.specs.declared.names.Who.{Who}
use Rattle.fk_model.specs.declared.names.Ptr.{Ptr}
use Rattle.fk_model.specs.declared.names.Ptr.TheVariants.{Null, Dead, At}
use Rattle.fk_model.specs.declared.thread.Peer.{Peer}
use Rattle.fk_model.specs.declared.thread.Peer.TheVariants as peers
use Rattle.fk_model.specs.declared.thread.Talk.{Talk}
use Rattle.fk_model.specs.declared.thread.Fault.{Fault}
use Rattle.fk_model.specs.declared.body.Body.{Body}
use Rattle.fk_model.specs.declared.body.Body.TheVariants.{Mutex, Cond, Mapping, Region, Port, Portset, Space, Thread, Reference}
use Rattle.fk_model.specs.Objects.{and_then}
use Rattle.fk_store_graph.specs.declared.hints.lead.Sort.TheVariants.{Pointer, Served, Taken}
use Rattle.fk_store_graph.specs.declared.hints.lead.Lead.{Lead}
use Rattle.fk_store_graph.specs.Hints.Leads.{lead_by, first, pointer, peer, server, of_talk, of_fault, of_thread, led}
use Rattle.fk_store_graph.specs.Leads.Leading.{pointed, target}
use Rattle.fk_store_graph.specs.Leads.Names.{same_who}
use Rattle.fk_store_graph.specs.Leads.Sweeps.{after, or_dead, pointer_after, peer_after, talk_after, fault_after, body_after}
use Rattle.fk_store_graph.specs.declared.leads.sweeps.Sweep.{Sweep}

module _ (sweep : Sweep) (t : Who) (to : sweep.to ≡ Some t) where
  -- the name that it has now
  abbrev pub renamed : Who → Who
  renamed w = cond (same_who w sweep.from) t w

  after_is : (w : Who) → after sweep w ≡ Some (renamed w)
  after_is w = by (same_who w sweep.from)
    where
      by : (b : Bool) → cond b sweep.to (Some w) ≡ Some (cond b t w)
      by true = to
      by false = refl

  abbrev peer_now : Peer → Peer
  peer_now (peers.Thread w) = peers.Thread (renamed w)
  peer_now peers.Service = peers.Service
  peer_now peers.Parked = peers.Parked

  peer_is : (p : Peer) → peer_after sweep p ≡ Some (peer_now p)
  peer_is (peers.Thread w) = ap (option_map peers.Thread) (after_is w)
  peer_is peers.Service = refl
  peer_is peers.Parked = refl

  taker_is : (o : Option Peer) → and_then (peer_after sweep) o ≡ option_map peer_now o
  taker_is None = refl
  taker_is (Some p) = peer_is p

  talk_is : (talk : Talk) → talk_after sweep talk ≡ Some (record talk { port = renamed talk.port; peer = peer_now talk.peer })
  talk_is talk =
      ap (and_then (λ port. option_map (λ peer. record talk { port = port; peer = peer }) (peer_after sweep talk.peer))) (after_is talk.port)
      ∙ ap (option_map (λ peer. record talk { port = renamed talk.port; peer = peer })) (peer_is talk.peer)

  fault_is : (fault : Fault) → fault_after sweep fault ≡ Some (record fault { port = renamed fault.port; taker = option_map peer_now fault.taker })
  fault_is fault =
      ap (option_map (λ port. record fault { port = port; taker = and_then (peer_after sweep) fault.taker })) (after_is fault.port)
      ∙ ap (λ o. Some (record fault { port = renamed fault.port; taker = o })) (taker_is fault.taker)

  -- ---- by pointers

  abbrev Follows : Option Lead → Option Lead → Type 0
  Follows new old = and_then pointed new ≡ option_map renamed (and_then pointed old)

  pointer_now : (p : Ptr) → Follows (pointer (pointer_after sweep p)) (pointer p)
  pointer_now Null = refl
  pointer_now Dead = refl
  pointer_now (At w) = ap (λ o. and_then pointed (pointer (or_dead o))) (after_is w)

  holder_now : (o : Option Who) → Follows (option_map (lead_by Pointer) (and_then (after sweep) o)) (option_map (lead_by Pointer) o)
  holder_now None = refl
  holder_now (Some w) = ap (λ o. and_then pointed (option_map (lead_by Pointer) o)) (after_is w)

  peer_follows : (p : Peer) → Follows (peer Pointer (peer_now p)) (peer Pointer p)
  peer_follows (peers.Thread w) = refl
  peer_follows peers.Service = refl
  peer_follows peers.Parked = refl

  taker_follows : (o : Option Peer) → Follows (and_then (peer Pointer) (option_map peer_now o)) (and_then (peer Pointer) o)
  taker_follows None = refl
  taker_follows (Some p) = peer_follows p

  taken_follows : (o : Option Peer) → Follows (and_then (peer Taken) (option_map peer_now o)) (and_then (peer Taken) o)
  taken_follows None = refl
  taken_follows (Some (peers.Thread w)) = refl
  taken_follows (Some peers.Service) = refl
  taken_follows (Some peers.Parked) = refl

  server_follows : (port : Who) (p : Peer) → Follows (server (renamed port) (peer_now p)) (server port p)
  server_follows port (peers.Thread w) = refl
  server_follows port peers.Service = refl
  server_follows port peers.Parked = refl

  cond_follows : (b : Bool) (new old new2 old2 : Option Lead) → Follows new old → Follows new2 old2 → Follows (cond b new new2) (cond b old old2)
  cond_follows true new old new2 old2 h k = h
  cond_follows false new old new2 old2 h k = k

  talk_follows : (i : ℕ) (o : Option Talk) → Follows (and_then (of_talk i) (and_then (talk_after sweep) o)) (and_then (of_talk i) o)
  unfolding of_talk
  talk_follows i None = refl
  talk_follows i (Some talk) = ap (λ o. and_then pointed (and_then (of_talk i) o)) (talk_is talk)
      ∙ cond_follows (i == 0) _ _ _ _ refl (cond_follows (i == 1) _ _ _ _ (peer_follows talk.peer)
      (cond_follows (i == 2) _ _ None None (server_follows talk.port talk.peer) refl))

  fault_follows : (i : ℕ) (o : Option Fault) → Follows (and_then (of_fault i) (and_then (fault_after sweep) o)) (and_then (of_fault i) o)
  unfolding of_fault
  fault_follows i None = refl
  fault_follows i (Some fault) = ap (λ o. and_then pointed (and_then (of_fault i) o)) (fault_is fault)
      ∙ cond_follows (i == 3) _ _ _ _ refl (cond_follows (i == 4) _ _ _ _ (taker_follows fault.taker)
      (cond_follows (i == 5) _ _ None None (taken_follows fault.taker) refl))

  -- a pointer leads to what has another name by that name
  pub target-renamed : (space : ℕ) (b : Body) (i : ℕ) → target i (body_after sweep space b) ≡ option_map renamed (target i b)
  unfolding target led of_thread
  target-renamed space (Mutex locked) i = refl
  target-renamed space Cond i = refl
  target-renamed space (Mapping page count offset write region) i = cond_follows (i == 0) _ _ None None (pointer_now region) refl
  target-renamed space (Region page count write keeper) i = cond_follows (i == 0) _ _ None None (pointer_now keeper) refl
  target-renamed space (Port set served) i = refl
  target-renamed space Portset i = refl
  target-renamed space (Space birth holder) i = cond_follows (i == 0) _ _ None None (holder_now holder) refl
  target-renamed space (Thread thread) i = cond_follows (ltb i 3) _ _ _ _ (talk_follows i thread.talk) (fault_follows i thread.fault)
  target-renamed space (Reference ptr) i = cond_follows (i == 0) _ _ None None (pointer_now ptr) refl
