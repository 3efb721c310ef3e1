-- Two worlds that are the same inside a root have the same cut there.
use Rattle.std.proofs.Common.{◌≡◌, ℕ, zero, Bool, true, false, cond, ◌&&◌, List, [], ◌∷◌, ◌++◌, Option, Some, None, option_map, refl, ap, ◌∙◌, inl, inr}
use Rattle.std.specs.List.{list_any}
use Rattle.fk_model.specs.declared.names.Kind.TheVariants as kinds
use Rattle.fk_model.specs.Places.{Path, same_path, strip, Ptr, leads_to}
use Rattle.fk_model.specs.Places.Ptr.{Null, Dead, At, Out, Outside, Far}
use Rattle.fk_model.specs.Objects.{Peer, Talk, Fault, Body, kind_of, same_kind, and_then, holds}
use Rattle.fk_model.specs.Objects.Peer.{Server, Service, Parked}
use Rattle.fk_model.specs.Objects.Body.{Mutex, Cond, Mapping, Region, Port, Portset, Space, Thread_of, Reference}
use Rattle.fk_model.specs.World.{World}
use Rattle.fk_model.specs.Searches.{pointers, option_list, talk_pointers, fault_pointers, peer_pointer}
use Rattle.fk_model.specs.Freezing.{body_pointers}
use Rattle.fk_model.specs.Valid.{kind_there}
use Rattle.fk_model.specs.Cut.{is_port, ports_of, cut_out, cut_to, cut_ptr, is_out, cut_peer, cut_talk, cut_fault, cutting, seen_by, unheld, cut}
use Rattle.fk_model.proofs.walks.Members.{IsIn, in_left, in_right, any_in}
use Rattle.fk_model.proofs.walks.PlaceLaws.{same_path_eq, same_path_refl}
use Rattle.laws_moves.specs.Frozen.Frozen.{IsSameInside}

-- whether a port stands somewhere is read off the kind there
pub port_by_kind : (o : Option Body) → is_port o ≡ holds (same_kind kinds.Port) (option_map kind_of o)
port_by_kind (Some (Port set served)) = refl
port_by_kind (Some (Mutex locked)) = refl
port_by_kind (Some b) = refl
port_by_kind None = refl

-- ---- a body is seen alike where each of its pointers is

module _ (nester : Path) (slot : ℕ) (old new : ℕ → Bool) where
  abbrev pub Alike : Ptr → Type 0
  Alike p = cut_ptr new nester slot p ≡ cut_ptr old nester slot p

  abbrev pub AllAlike : List Ptr → Type 0
  AllAlike ps = (p : Ptr) → IsIn p ps → Alike p

  peer_alike : (out : Bool) (peer : Peer) → AllAlike (peer_pointer peer) → cut_peer new nester slot out peer ≡ cut_peer old nester slot out peer
  peer_alike true peer h = refl
  peer_alike false (Server thread) h = ap Server (h thread (inl refl))
  peer_alike false Service h = refl
  peer_alike false Parked h = refl

  talk_alike : (talk : Talk) → AllAlike (talk_pointers talk) → cut_talk new nester slot talk ≡ cut_talk old nester slot talk
  talk_alike talk h = rw (h talk.port (inl refl), peer_alike (is_out (cut_ptr old nester slot talk.port)) talk.peer (λ p is. h p (inr is))) refl

  taker_alike : (out : Bool) (o : Option Peer) → AllAlike (option_list peer_pointer o) →
      option_map (cut_peer new nester slot out) o ≡ option_map (cut_peer old nester slot out) o
  taker_alike out None h = refl
  taker_alike out (Some peer) h = ap Some (peer_alike out peer h)

  fault_alike : (fault : Fault) → AllAlike (fault_pointers fault) → cut_fault new nester slot fault ≡ cut_fault old nester slot fault
  fault_alike fault h = rw (h fault.port (inl refl), taker_alike (is_out (cut_ptr old nester slot fault.port)) fault.taker (λ p is. h p (inr is))) refl

  its_talk_alike : (o : Option Talk) → AllAlike (option_list talk_pointers o) →
      and_then (cutting new nester slot).talk o ≡ and_then (cutting old nester slot).talk o
  its_talk_alike None h = refl
  its_talk_alike (Some talk) h = ap Some (talk_alike talk h)

  its_fault_alike : (o : Option Fault) → AllAlike (option_list fault_pointers o) →
      and_then (cutting new nester slot).fault o ≡ and_then (cutting old nester slot).fault o
  its_fault_alike None h = refl
  its_fault_alike (Some fault) h = ap Some (fault_alike fault h)

  its_holder_alike : (o : Option Ptr) → AllAlike (option_list (λ p. p ∷ []) o) →
      and_then (cutting new nester slot).holder o ≡ and_then (cutting old nester slot).holder o
  its_holder_alike None h = refl
  its_holder_alike (Some p) h = ap Some (h p (inl refl))

  pub body_alike : (b : Body) → AllAlike (pointers b) → seen_by (cutting new nester slot) b ≡ seen_by (cutting old nester slot) b
  unfolding seen_by
  body_alike (Mapping m) h = ap (λ (p : Ptr). Mapping (record m { region = p })) (h m.region (inl refl))
  body_alike (Region r) h = ap (λ (p : Ptr). Region (record r { keeper = p })) (h r.keeper (inl refl))
  body_alike (Space birth holder) h = ap (λ (o : Option Ptr). Space 0 o) (its_holder_alike holder h)
  body_alike (Thread_of t) h =
      rw (
        its_talk_alike t.talk (λ p is. h p (in_left p (option_list talk_pointers t.talk) (option_list fault_pointers t.fault) is)),
        its_fault_alike t.fault (λ p is. h p (in_right p (option_list talk_pointers t.talk) (option_list fault_pointers t.fault) is)),
      ) refl
  body_alike (Reference to) h = ap Reference (h to (inl refl))
  body_alike (Mutex locked) h = refl
  body_alike Cond h = refl
  body_alike (Port set served) h = refl
  body_alike Portset h = refl

-- ---- the cut

module _ (w v : World) (nester : Path) (slot : ℕ) (same : IsSameInside (slot ∷ nester) w v) where
  abbrev root : Path
  root = slot ∷ nester

  ports_alike : (i : ℕ) → kind_there v (i ∷ nester) ≡ kind_there w (i ∷ nester) → ports_of v nester slot i ≡ ports_of w nester slot i
  unfolding kind_there
  ports_alike i h = rw (port_by_kind (v.body (i ∷ nester)), port_by_kind (w.body (i ∷ nester)), h) refl

  out_alike : (x : Path) → kind_there v x ≡ kind_there w x → cut_out (ports_of v nester slot) nester x ≡ cut_out (ports_of w nester slot) nester x
  out_alike [] h = refl
  out_alike (i ∷ x) h = by (same_path x nester) refl
    where
      by : (t : Bool) → same_path x nester ≡ t → cond (t && ports_of v nester slot i) (Out i) Far ≡ cond (t && ports_of w nester slot i) (Out i) Far
      by true e = let is = same_path_eq x nester e in let there : kind_there v (i ∷ nester) ≡ kind_there w (i ∷ nester) = rw is at h in
          rw (ports_alike i there) refl
      by false e = refl

  to_alike : (x : Path) (o : Option Path) → kind_there v x ≡ kind_there w x →
      cut_to (ports_of v nester slot) nester x o ≡ cut_to (ports_of w nester slot) nester x o
  to_alike x (Some q) h = refl
  to_alike x None h = out_alike x h

  pub ptr_alike : (q : Path) (b : Body) → w.body (q ++ root) ≡ Some b → (p : Ptr) → IsIn p (pointers b) →
      Alike nester slot (ports_of w nester slot) (ports_of v nester slot) p
  ptr_alike q b there (At x) is =
      let led : list_any (leads_to x) (body_pointers (w.body (q ++ root))) ≡ true = rw there (any_in (leads_to x) (At x) (pointers b) is (same_path_refl x)) in
      to_alike x (strip root x) (same.kinds x q led)
  ptr_alike q b there Null is = refl
  ptr_alike q b there Dead is = refl
  ptr_alike q b there (Out i) is = refl
  ptr_alike q b there Outside is = refl
  ptr_alike q b there Far is = refl

  there_alike : (q : Path) (o : Option Body) → w.body (q ++ root) ≡ o →
      option_map (λ b. unheld q (seen_by (cutting (ports_of v nester slot) nester slot) b)) o ≡ option_map
      (λ b. unheld q (seen_by (cutting (ports_of w nester slot) nester slot) b)) o
  there_alike q None there = refl
  there_alike q (Some b) there = ap (λ b. Some (unheld q b)) (body_alike nester slot (ports_of w nester slot) (ports_of v nester slot) b (ptr_alike q b there))

  body_same : (q : Path) → (cut v nester slot).body q ≡ (cut w nester slot).body q
  unfolding cut
  body_same q = ap (option_map (λ b. unheld q (seen_by (cutting (ports_of v nester slot) nester slot) b))) (same.bodies q)
      ∙ there_alike q (w.body (q ++ root)) refl

  pub same-cut : cut v nester slot ≡ cut w nester slot
  unfolding cut
  same-cut = λ i. record { body = λ q. body_same q i; page = λ q page. same.pages q page i; next = zero }
