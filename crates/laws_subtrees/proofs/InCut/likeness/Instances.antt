-- The cut of a plain subtree is a likeness of its world, and a rebinding of a likeness is one.
use Rattle.std.proofs.Common.{◌≡◌, ℕ, Bool, true, false, cond, not, ◌&&◌, eqb, [], ◌∷◌, ◌++◌, Option, Some, None, IfSome, is_some, option_map, refl, sym, ap}
use Rattle.std.proofs.Common.{subst, ◌∙◌, append-nil}
use Rattle.std.specs.List.{list_any}
use Rattle.std.proofs.lemmas.List.Folds.{list_any-append}
use Rattle.std.proofs.lemmas.Bool.{and_parts}
use Rattle.fk_model.specs.declared.names.Kind.TheVariants as kinds
use Rattle.fk_model.specs.Places.{Path, same_path, strip, Ptr}
use Rattle.fk_model.specs.Places.Ptr.{Null, Dead, At, Out, Outside, Far}
use Rattle.fk_model.specs.Objects.{Peer, Talk, Fault, Body, kind_of, and_then, holds, is_served}
use Rattle.fk_model.specs.Objects.Peer.{Server, Service, Parked}
use Rattle.fk_model.specs.Objects.Body.{Mutex, Cond, Mapping, Region, Port, Portset, Space, Thread_of, Reference}
use Rattle.fk_model.specs.World.{World, through}
use Rattle.fk_model.specs.Searches.{option_list, peer_pointer, talk_pointers, fault_pointers}
use Rattle.fk_model.specs.StateRows.{is_native}
use Rattle.fk_model.specs.Valid.{kind_there}
use Rattle.fk_model.specs.Cut.{is_port, ports_of, cut_out, cut_to, cut_ptr, is_out, seen_by, unheld, cut, is_far, has_far, IsPlain}
use Rattle.laws_subtrees.specs.Cut.Likeness.{seeing, seen_peer, PtrLikeness, HasLikeness, IfServer, AllInTalk, AllInFault, IsPlainBody, IsLikeness, IsCutWorld}
use Rattle.laws_subtrees.specs.Cut.Likeness.PtrLikeness.{Nulls, Deads, Inside, PortAt, PortOut}
use Rattle.fk_model.specs.Rebind.{rebound_ptr, rebound_peer, rebinding, rebound}
use Rattle.laws_moves.proofs.InMachine.Frame.{or_off}
use Rattle.fk_model.proofs.walks.PlaceLaws.{same_path_eq, strip-append, strip_some}
use Rattle.laws_subtrees.proofs.InCut.likeness.Pointers.{all_in_body}

-- ---- the cut

port_kind : (v : Option Body) → is_port v ≡ true → and_then (λ b. Some (kind_of b)) v ≡ Some kinds.Port
port_kind (Some (Port set served)) h = refl
port_kind (Some (Mutex locked)) h = cc
port_kind (Some Cond) h = cc
port_kind (Some (Mapping m)) h = cc
port_kind (Some (Region r)) h = cc
port_kind (Some Portset) h = cc
port_kind (Some (Space birth holder)) h = cc
port_kind (Some (Thread_of t)) h = cc
port_kind (Some (Reference to)) h = cc
port_kind None h = cc

ports_port : (w : World) (nester : Path) (slot i : ℕ) →
    ports_of w nester slot i ≡ true → and_then (λ b. Some (kind_of b)) (w.body (i ∷ nester)) ≡ Some kinds.Port
ports_port w nester slot i h = port_kind (w.body (i ∷ nester)) (and_parts (not (eqb i slot)) _ h).1

pub cut_ptr-like : (w : World) (nester : Path) (slot : ℕ) (p : Ptr) →
    is_far (cut_ptr (ports_of w nester slot) nester slot p) ≡ false → PtrLikeness (slot ∷ nester) w p (cut_ptr (ports_of w nester slot) nester slot p)
cut_ptr-like w nester slot Null near = Nulls
cut_ptr-like w nester slot Dead near = Deads
cut_ptr-like w nester slot (Out i) near = cc
cut_ptr-like w nester slot Outside near = cc
cut_ptr-like w nester slot Far near = cc
cut_ptr-like w nester slot (At x) near = by (strip (slot ∷ nester) x) refl near
  where
    ports : ℕ → Bool
    ports = ports_of w nester slot

    out : (y : Path) → strip (slot ∷ nester) y ≡ None → is_far (cut_out ports nester y) ≡ false → PtrLikeness (slot ∷ nester) w (At y) (cut_out ports nester y)
    out [] apart far = cc
    out (i ∷ y) apart far = at (same_path y nester && ports i) refl far
      where
        at : (b : Bool) →
            (same_path y nester && ports i) ≡ b → is_far (cond b (Out i) Far) ≡ false → PtrLikeness (slot ∷ nester) w (At (i ∷ y)) (cond b (Out i) Far)
        at false e far = cc
        at true e far =
            let both = and_parts (same_path y nester) (ports i) e in
            let same = same_path_eq y nester both.0 in
            PortAt (i ∷ y) i (ap is_some apart) (rw same (ports_port w nester slot i both.1))

    by : (o : Option Path) →
        strip (slot ∷ nester) x ≡ o → is_far (cut_to ports nester x o) ≡ false → PtrLikeness (slot ∷ nester) w (At x) (cut_to ports nester x o)
    by (Some q) e far = rw (strip_some (slot ∷ nester) x q e) (Inside q)
    by None e far = out x e far

module _ (w : World) (nester : Path) (slot : ℕ) where
  abbrev see : Ptr → Ptr
  see = cut_ptr (ports_of w nester slot) nester slot

  abbrev Seen : Ptr → Type 0
  Seen = HasLikeness (slot ∷ nester) see w

  near_ptr : (p : Ptr) → list_any is_far (see p ∷ []) ≡ false → Seen p
  near_ptr p near = cut_ptr-like w nester slot p (or_off (is_far (see p)) false near).0

  near_peer : (out : Bool) (peer : Peer) → list_any is_far (peer_pointer (seen_peer see out peer)) ≡ false → IfServer out peer Seen
  near_peer true peer near = tt
  near_peer false (Server thread) near = near_ptr thread near
  near_peer false Service near = tt
  near_peer false Parked near = tt

  near_talk : (o : Option Talk) → list_any is_far (option_list talk_pointers (and_then (seeing see).talk o)) ≡ false → IfSome o (AllInTalk see Seen)
  near_talk None near = tt
  near_talk (Some talk) near =
      let both = or_off (is_far (see talk.port)) _ near in
      (cut_ptr-like w nester slot talk.port both.0, near_peer (is_out (see talk.port)) talk.peer both.1)

  near_taker : (out : Bool) (o : Option Peer) →
      list_any is_far (option_list peer_pointer (option_map (seen_peer see out) o)) ≡ false → IfSome o (λ taker. IfServer out taker Seen)
  near_taker out None near = tt
  near_taker out (Some taker) near = near_peer out taker near

  near_fault : (o : Option Fault) → list_any is_far (option_list fault_pointers (and_then (seeing see).fault o)) ≡ false → IfSome o (AllInFault see Seen)
  near_fault None near = tt
  near_fault (Some fault) near =
      let both = or_off (is_far (see fault.port)) _ near in
      (cut_ptr-like w nester slot fault.port both.0, near_taker (is_out (see fault.port)) fault.taker both.1)

  near_body : (v : Option Body) →
      has_far (option_map (λ b. seen_by (seeing see) b) v) ≡ false → holds is_native v ≡ false → holds is_served v ≡ false → IfSome v (IsPlainBody see Seen)
  unfolding seen_by
  near_body None near users unserved = tt
  near_body (Some (Mapping m)) near users unserved = near_ptr m.region near
  near_body (Some (Region r)) near users unserved = near_ptr r.keeper near
  near_body (Some (Port set served)) near users unserved = unserved
  near_body (Some (Space birth None)) near users unserved = tt
  near_body (Some (Space birth (Some holder))) near users unserved = near_ptr holder near
  near_body (Some (Thread_of t)) near users unserved =
      let both = or_off _ _ (sym (list_any-append is_far
      (option_list talk_pointers (and_then (seeing see).talk t.talk)) (option_list fault_pointers (and_then (seeing see).fault t.fault))) ∙ near) in
      (near_talk t.talk both.0, near_fault t.fault both.1, users)
  near_body (Some (Reference to)) near users unserved = near_ptr to near
  near_body (Some b) near users unserved = tt

  pub cut-like : IsPlain w nester slot → IsLikeness (slot ∷ nester) see (cut w nester slot) w
  unfolding cut kind_there
  cut-like plain = record {
    bodies = λ q. refl;
    pages = λ q page. refl;
    unborn = refl;
    top = rw plain.root refl;
    plain = λ k q. near_body (w.body (k ∷ (q ++ slot ∷ nester))) (plain.near (k ∷ q)) (plain.no_porter (k ∷ q)) (plain.unserved (k ∷ q));
    within = λ x. rw (strip-append (slot ∷ nester) x) refl;
    null = refl;
    dead = refl;
  }

-- ---- a rebinding

rebound-is_out : (bind : ℕ → ℕ) (p : Ptr) → is_out (rebound_ptr bind p) ≡ is_out p
rebound-is_out bind (Out slot) = refl
rebound-is_out bind p = refl

module _ (bind : ℕ → ℕ) (see : Ptr → Ptr) where
  abbrev anew : Ptr → Ptr
  anew p = rebound_ptr bind (see p)

  peer_anew : (out : Bool) (peer : Peer) → rebound_peer bind (seen_peer see out peer) ≡ seen_peer anew out peer
  peer_anew true peer = refl
  peer_anew false (Server thread) = refl
  peer_anew false Service = refl
  peer_anew false Parked = refl

  taker_anew : (out : Bool) (o : Option Peer) → option_map (rebound_peer bind) (option_map (seen_peer see out) o) ≡ option_map (seen_peer anew out) o
  taker_anew out None = refl
  taker_anew out (Some taker) = ap Some (peer_anew out taker)

  talk_anew : (o : Option Talk) → and_then (rebinding bind).talk (and_then (seeing see).talk o) ≡ and_then (seeing anew).talk o
  talk_anew None = refl
  talk_anew (Some talk) = rw (rebound-is_out bind (see talk.port))
      (ap (λ (peer : Peer). Some (record talk { port = anew talk.port; peer = peer })) (peer_anew (is_out (see talk.port)) talk.peer))

  fault_anew : (o : Option Fault) → and_then (rebinding bind).fault (and_then (seeing see).fault o) ≡ and_then (seeing anew).fault o
  fault_anew None = refl
  fault_anew (Some fault) = rw (rebound-is_out bind (see fault.port))
      (ap (λ (taker : Option Peer). Some (record fault { port = anew fault.port; taker = taker })) (taker_anew (is_out (see fault.port)) fault.taker))

  body_anew : (q : Path) (b : Body) → through (rebinding bind) q (unheld q (seen_by (seeing see) b)) ≡ unheld q (seen_by (seeing anew) b)
  unfolding seen_by
  body_anew [] (Port None served) = refl
  body_anew [] (Port (Some set) served) = refl
  body_anew [] (Thread_of t) = let talk = talk_anew t.talk in let fault = fault_anew t.fault in λ i. Thread_of (record t { talk = talk i; fault = fault i })
  body_anew [] b = refl
  body_anew (k ∷ q) (Port None served) = refl
  body_anew (k ∷ q) (Port (Some set) served) = refl
  body_anew (k ∷ q) (Space birth None) = refl
  body_anew (k ∷ q) (Space birth (Some holder)) = refl
  body_anew (k ∷ q) (Thread_of t) = let talk = talk_anew t.talk in
      let fault = fault_anew t.fault in λ i. Thread_of (record t { talk = talk i; fault = fault i })
  body_anew (k ∷ q) b = refl

  there_anew : (q : Path) (v : Option Body) →
      option_map (through (rebinding bind) q) (option_map (λ b. unheld q (seen_by (seeing see) b)) v) ≡ option_map (λ b. unheld q (seen_by (seeing anew) b)) v
  there_anew q None = refl
  there_anew q (Some b) = ap Some (body_anew q b)

  ptr_anew : (root : Path) (big : World) (p seen : Ptr) → PtrLikeness root big p seen → PtrLikeness root big p (rebound_ptr bind seen)
  ptr_anew root big _ _ Nulls = Nulls
  ptr_anew root big _ _ Deads = Deads
  ptr_anew root big _ _ (Inside x) = Inside x
  ptr_anew root big _ _ (PortAt x slot apart port) = PortAt x (bind slot) apart port
  ptr_anew root big _ _ (PortOut old slot) = PortOut old (bind slot)

  pub rebound-like : (root : Path) (small big : World) → IsLikeness root see small big → IsLikeness root anew (rebound bind small) big
  unfolding rebound
  rebound-like root small big like = record {
    bodies = λ q. rw (like.bodies q) (there_anew q (big.body (q ++ root)));
    pages = like.pages;
    unborn = like.unborn;
    top = like.top;
    plain = λ k q. all_in_body see anew (λ p. rebound-is_out bind (see p))
        (HasLikeness root see big) (HasLikeness root anew big) (λ p h. ptr_anew root big p (see p) h) (big.body (k ∷ (q ++ root))) (like.plain k q);
    within = λ x. rw (like.within x) refl;
    null = rw like.null refl;
    dead = rw like.dead refl;
  }

pub rebind-like : (bind : ℕ → ℕ) (c : World) → IsCutWorld c → IsLikeness [] (rebound_ptr bind) (rebound bind c) c
rebind-like bind c alone = rebound-like bind (λ p. p) [] c c alone

-- ---- a likeness is such as a cut is

abbrev same : Ptr → Ptr
same p = p

module _ (see : Ptr → Ptr) where
  peer_again : (out : Bool) (peer : Peer) → seen_peer same out (seen_peer see out peer) ≡ seen_peer see out peer
  peer_again true peer = refl
  peer_again false (Server thread) = refl
  peer_again false Service = refl
  peer_again false Parked = refl

  taker_again : (out : Bool) (o : Option Peer) → option_map (seen_peer same out) (option_map (seen_peer see out) o) ≡ option_map (seen_peer see out) o
  taker_again out None = refl
  taker_again out (Some taker) = ap Some (peer_again out taker)

  talk_again : (o : Option Talk) → and_then (seeing same).talk (and_then (seeing see).talk o) ≡ and_then (seeing see).talk o
  talk_again None = refl
  talk_again (Some talk) = ap (λ (peer : Peer). Some (record talk { port = see talk.port; peer = peer })) (peer_again (is_out (see talk.port)) talk.peer)

  fault_again : (o : Option Fault) → and_then (seeing same).fault (and_then (seeing see).fault o) ≡ and_then (seeing see).fault o
  fault_again None = refl
  fault_again (Some fault) =
      ap (λ (taker : Option Peer). Some (record fault { port = see fault.port; taker = taker })) (taker_again (is_out (see fault.port)) fault.taker)

  body_again : (q : Path) (b : Body) → unheld q (seen_by (seeing same) (unheld q (seen_by (seeing see) b))) ≡ unheld q (seen_by (seeing see) b)
  unfolding seen_by
  body_again [] (Port None served) = refl
  body_again [] (Port (Some set) served) = refl
  body_again [] (Thread_of t) = let talk = talk_again t.talk in let fault = fault_again t.fault in λ i. Thread_of (record t { talk = talk i; fault = fault i })
  body_again [] b = refl
  body_again (k ∷ q) (Port None served) = refl
  body_again (k ∷ q) (Port (Some set) served) = refl
  body_again (k ∷ q) (Space birth None) = refl
  body_again (k ∷ q) (Space birth (Some holder)) = refl
  body_again (k ∷ q) (Thread_of t) = let talk = talk_again t.talk in
      let fault = fault_again t.fault in λ i. Thread_of (record t { talk = talk i; fault = fault i })
  body_again (k ∷ q) b = refl

  there_again : (q : Path) (v : Option Body) → option_map (λ b. unheld q (seen_by (seeing see) b))
      v ≡ option_map (λ b. unheld q (seen_by (seeing same) b)) (option_map (λ b. unheld q (seen_by (seeing see) b)) v)
  there_again q None = refl
  there_again q (Some b) = ap Some (sym (body_again q b))

  module _ (P Q : Ptr → Type 0) (more : (p : Ptr) → P p → Q (see p)) where
    all_seen_peer : (out : Bool) (peer : Peer) → IfServer out peer P → IfServer out (seen_peer see out peer) Q
    all_seen_peer true peer h = tt
    all_seen_peer false (Server thread) h = more thread h
    all_seen_peer false Service h = tt
    all_seen_peer false Parked h = tt

    all_seen_talk : (o : Option Talk) → IfSome o (AllInTalk see P) → IfSome (and_then (seeing see).talk o) (AllInTalk same Q)
    all_seen_talk None h = tt
    all_seen_talk (Some talk) h = (more talk.port h.0, all_seen_peer (is_out (see talk.port)) talk.peer h.1)

    all_seen_taker : (out : Bool) (o : Option Peer) →
        IfSome o (λ taker. IfServer out taker P) → IfSome (option_map (seen_peer see out) o) (λ taker. IfServer out taker Q)
    all_seen_taker out None h = tt
    all_seen_taker out (Some taker) h = all_seen_peer out taker h

    all_seen_fault : (o : Option Fault) → IfSome o (AllInFault see P) → IfSome (and_then (seeing see).fault o) (AllInFault same Q)
    all_seen_fault None h = tt
    all_seen_fault (Some fault) h = (more fault.port h.0, all_seen_taker (is_out (see fault.port)) fault.taker h.1)

    all_seen_body : (k : ℕ) (q : Path) (v : Option Body) →
        IfSome v (IsPlainBody see P) → IfSome (option_map (λ b. unheld (k ∷ q) (seen_by (seeing see) b)) v) (IsPlainBody same Q)
    unfolding seen_by
    all_seen_body k q (Some (Mapping m)) h = more m.region h
    all_seen_body k q (Some (Region r)) h = more r.keeper h
    all_seen_body k q (Some (Space birth (Some holder))) h = more holder h
    all_seen_body k q (Some (Space birth None)) h = tt
    all_seen_body k q (Some (Port set served)) h = refl
    all_seen_body k q (Some (Thread_of t)) h = (all_seen_talk t.talk h.0, all_seen_fault t.fault h.1, h.2)
    all_seen_body k q (Some (Reference to)) h = more to h
    all_seen_body k q (Some b) h = tt
    all_seen_body k q None h = tt

ptr_again : (root : Path) (small big : World) (p seen : Ptr) → PtrLikeness root big p seen → PtrLikeness [] small seen seen
ptr_again root small big _ _ Nulls = Nulls
ptr_again root small big _ _ Deads = Deads
ptr_again root small big _ _ (Inside x) = subst (λ (y : Path). PtrLikeness [] small (At y) (At x)) (append-nil x) (Inside x)
ptr_again root small big _ _ (PortAt x slot apart port) = PortOut slot slot
ptr_again root small big _ _ (PortOut old slot) = PortOut slot slot

kind-seen : (see : Ptr → Ptr) (v : Option Body) → option_map kind_of (option_map (λ b. unheld [] (seen_by (seeing see) b)) v) ≡ option_map kind_of v
unfolding seen_by
kind-seen see None = refl
kind-seen see (Some (Mutex locked)) = refl
kind-seen see (Some b) = refl

pub like-cut_world : {root : Path} {see : Ptr → Ptr} {small big : World} → IsLikeness root see small big → IsCutWorld small
unfolding kind_there
like-cut_world {root} {see} {small} {big} like = record {
  bodies = λ q. rw (append-nil q) (rw (like.bodies q) (there_again see q (big.body (q ++ root))));
  pages = λ q page. rw (append-nil q) refl;
  unborn = like.unborn;
  top = rw (like.bodies []) (kind-seen see (big.body root) ∙ like.top);
  plain = λ k q. rw (append-nil q) (rw (like.bodies (k ∷ q)) (all_seen_body see
      (HasLikeness root see big) (HasLikeness [] same small) (λ p h. ptr_again root small big p (see p) h) k q (big.body (k ∷ (q ++ root))) (like.plain k q)));
  within = λ x. ap (λ (y : Path). At y) (append-nil x);
  null = refl;
  dead = refl;
}
