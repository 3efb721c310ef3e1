-- What the freezing rule allows with other outward ports it allowed before: a test of pointers that tells no port outside from
-- another is the same for all that a change makes, changes and sweeps.
use Rattle.std.proofs.Common.{◌≡◌, ℕ, Bool, true, false, cond, not, ◌&&◌, ◌||◌, List, [], ◌∷◌, ◌++◌, Option, Some, None, option_map, refl, sym, ap, subst, ◌∙◌}
use Rattle.std.proofs.Common.{append-nil}
use Rattle.std.specs.List.{list_any}
use Rattle.std.proofs.lemmas.List.Folds.{list_any-append}
use Rattle.fk_model.specs.Places.{Path, is_within, Ptr, leads_to}
use Rattle.fk_model.specs.Places.Ptr.{Null, Dead, At, Out, Outside, Far}
use Rattle.fk_model.specs.Objects.{Peer, Talk, Fault, Thread, Body, thread_of, and_then}
use Rattle.fk_model.specs.Objects.Peer.{Server, Service, Parked}
use Rattle.fk_model.specs.Objects.Body.{Mutex, Cond, Mapping, Region, Port, Portset, Space, Thread_of, Reference}
use Rattle.fk_model.specs.World.{World, Change, Edit, serves, apply}
use Rattle.fk_model.specs.World.Change.{Alter, Make, MakeSpace, Kill, Move, PutPage, DropPage}
use Rattle.fk_model.specs.World.Edit.{SetPointer, SetHolder, SetTalk, SetPeer, SetFault, SetTaker}
use Rattle.fk_model.specs.Searches.{pointers, option_list, peer_pointer, talk_pointers, fault_pointers}
use Rattle.fk_model.specs.Holds.{decider, is_frozen, is_frozen_for, leads_to_frozen}
use Rattle.fk_model.specs.Freezing.{body_pointers, changed_pointers, made_pointers, are_unfrozen, is_in_set, is_swept, talk_lost, fault_lost, lost_with}
use Rattle.fk_model.specs.Freezing.{may_be_swept, may_follow, IsAllowed, AreAllowed}
use Rattle.fk_model.specs.Cut.{is_out, seen_by, is_far, is_outer}
use Rattle.fk_model.specs.Rebind.{rebound_ptr, rebound}
use Rattle.fk_model.proofs.walks.PlaceLaws.{strip-append}
use Rattle.laws_subtrees.specs.Cut.Likeness.{seeing, seen_peer, seen_talk, seen_fault, IsLikeness, IsCutWorld}
use Rattle.laws_subtrees.specs.Cut.LikeChanges.{seen_edit, IsSeenEdit, LikeChange, LikeChanges, IsOutside}
use Rattle.laws_subtrees.specs.Cut.LikeChanges.LikeChange.{Alters, AltersOut, Makes, MakesSpace, Kills, Moves, PutsPage, DropsPage}
use Rattle.laws_subtrees.specs.Cut.LikeChanges.LikeChanges.{Empty, Both, Beyond}
use Rattle.laws_subtrees.proofs.InCut.likeness.Instances.{rebound-like}
use Rattle.laws_subtrees.proofs.InCut.likeness.Memory.{root_seen}
use Rattle.laws_subtrees.proofs.InCut.likeness.Holds.{is_frozen_for-like}

abbrev pub itself : Ptr → Ptr
itself p = p

pub out_kept : (bind : ℕ → ℕ) (p : Ptr) → is_out (rebound_ptr bind p) ≡ is_out p
out_kept bind (Out slot) = refl
out_kept bind p = refl

pub far_kept : (bind : ℕ → ℕ) (p : Ptr) → is_far (rebound_ptr bind p) ≡ is_far p
far_kept bind (Out slot) = refl
far_kept bind p = refl

pub outer_kept : (bind : ℕ → ℕ) (p : Ptr) → is_outer (rebound_ptr bind p) ≡ is_outer p
outer_kept bind (Out slot) = refl
outer_kept bind p = refl

pub top_free : (c : World) → IsCutWorld c → is_frozen c [] ≡ false
unfolding decider
top_free c world = rw (root_seen world) refl

-- nothing lies outside the empty path
pub nothing_outside : (x : Path) → is_within [] x ≡ false → ⊥
nothing_outside x h = let inside : is_within [] x ≡ true = rw (sym (append-nil x)) (rw (strip-append [] x) refl) in cc

pub no_outside : (d : Change) → IsOutside [] d → ⊥
no_outside (Alter x edit) h = nothing_outside x h
no_outside (PutPage space page words) h = nothing_outside space h
no_outside (DropPage space page) h = nothing_outside space h
no_outside (Make x body) h = h
no_outside (MakeSpace x holder) h = h
no_outside (Kill x) h = h
no_outside (Move x slot) h = h

-- ---- a test f of what is seen, and a test g of what was, that agree on every pointer

module _ (see : Ptr → Ptr) (outs : (p : Ptr) → is_out (see p) ≡ is_out p)
    (f g : Ptr → Bool) (f_off : f Outside ≡ false) (g_off : g Outside ≡ false) (same : (p : Ptr) → f (see p) ≡ g p) where
  abbrev Same : List Ptr → List Ptr → Type 0
  Same seen ps = list_any f seen ≡ list_any g ps

  pub one_same : (p : Ptr) → Same (see p ∷ []) (p ∷ [])
  one_same p = rw (same p) refl

  -- who is at a port outside is Outside, as it is seen
  pub peer_same : (out : Bool) (peer : Peer) → peer ≡ seen_peer itself out peer → Same (peer_pointer (seen_peer see out peer)) (peer_pointer peer)
  peer_same true peer shown = rw f_off (sym (subst (λ (p : Peer). list_any g (peer_pointer p) ≡ false) (sym shown) (rw g_off refl)))
  peer_same false (Server thread) shown = one_same thread
  peer_same false Service shown = refl
  peer_same false Parked shown = refl

  taker_same : (out : Bool) (o : Option Peer) →
      o ≡ option_map (seen_peer itself out) o → Same (option_list peer_pointer (option_map (seen_peer see out) o)) (option_list peer_pointer o)
  taker_same out None shown = refl
  taker_same out (Some taker) shown = peer_same out taker (the_one taker (seen_peer itself out taker) shown)
    where
      the_one : (a b : Peer) → Some a ≡ Some b → a ≡ b
      the_one a b h = cc

  joins : (a b : Bool) (xs ys : List Ptr) → a ≡ b → list_any f xs ≡ list_any g ys → (a || list_any f xs) ≡ (b || list_any g ys)
  joins a b xs ys e h = rw (e, h) refl

  pub talk_same : (talk : Talk) → talk ≡ seen_talk itself talk → Same (talk_pointers (seen_talk see talk)) (talk_pointers talk)
  talk_same talk shown = joins (f (see talk.port))
      (g talk.port) _ _ (same talk.port) (rw (outs talk.port) (peer_same (is_out talk.port) talk.peer (ap (λ (t : Talk). t.peer) shown)))

  pub fault_same : (fault : Fault) → fault ≡ seen_fault itself fault → Same (fault_pointers (seen_fault see fault)) (fault_pointers fault)
  fault_same fault shown = joins (f (see fault.port))
      (g fault.port) _ _ (same fault.port) ((λ i. list_any f (option_list peer_pointer (option_map (seen_peer see (outs fault.port i)) fault.taker)))
      ∙ taker_same (is_out fault.port) fault.taker (ap (λ (t : Fault). t.taker) shown))

  talks_same : (o : Option Talk) →
      o ≡ and_then (seeing itself).talk o → Same (option_list talk_pointers (and_then (seeing see).talk o)) (option_list talk_pointers o)
  talks_same None shown = refl
  talks_same (Some talk) shown = talk_same talk (the_one talk (seen_talk itself talk) shown)
    where
      the_one : (a b : Talk) → Some a ≡ Some b → a ≡ b
      the_one a b h = cc

  faults_same : (o : Option Fault) →
      o ≡ and_then (seeing itself).fault o → Same (option_list fault_pointers (and_then (seeing see).fault o)) (option_list fault_pointers o)
  faults_same None shown = refl
  faults_same (Some fault) shown = fault_same fault (the_one fault (seen_fault itself fault) shown)
    where
      the_one : (a b : Fault) → Some a ≡ Some b → a ≡ b
      the_one a b h = cc

  pub holder_same : (o : Option Ptr) → Same (option_list (λ p. p ∷ []) (and_then (seeing see).holder o)) (option_list (λ p. p ∷ []) o)
  holder_same None = refl
  holder_same (Some p) = one_same p

  pub joined_same : (a b c d : List Ptr) → Same a c → Same b d → Same (a ++ b) (c ++ d)
  joined_same a b c d h k = list_any-append f a b ∙ rw (h, k) (sym (list_any-append g c d))

  pub talk_shown : (t : Thread) → Thread_of t ≡ seen_by (seeing itself) (Thread_of t) → t.talk ≡ and_then (seeing itself).talk t.talk
  unfolding seen_by
  talk_shown t shown = ap (λ (b : Body). and_then (λ (u : Thread). u.talk) (thread_of b)) shown

  pub fault_shown : (t : Thread) → Thread_of t ≡ seen_by (seeing itself) (Thread_of t) → t.fault ≡ and_then (seeing itself).fault t.fault
  unfolding seen_by
  fault_shown t shown = ap (λ (b : Body). and_then (λ (u : Thread). u.fault) (thread_of b)) shown

  pub body_same : (b : Body) → b ≡ seen_by (seeing itself) b → Same (pointers (seen_by (seeing see) b)) (pointers b)
  unfolding seen_by
  body_same (Mapping m) shown = one_same m.region
  body_same (Region r) shown = one_same r.keeper
  body_same (Space birth holder) shown = holder_same holder
  body_same (Thread_of t) shown = joined_same (option_list talk_pointers (and_then (seeing see).talk t.talk))
      (option_list fault_pointers (and_then (seeing see).fault t.fault)) (option_list talk_pointers t.talk)
      (option_list fault_pointers t.fault) (talks_same t.talk (talk_shown t shown)) (faults_same t.fault (fault_shown t shown))
  body_same (Reference to) shown = one_same to
  body_same (Mutex locked) shown = refl
  body_same Cond shown = refl
  body_same (Port set served) shown = refl
  body_same Portset shown = refl

  -- ---- what an edit changes, and what it makes

  peers_same : (o : Option Talk) → o ≡ and_then (seeing itself).talk o →
      Same (option_list (λ talk. peer_pointer talk.peer) (and_then (seeing see).talk o)) (option_list (λ talk. peer_pointer talk.peer) o)
  peers_same None shown = refl
  peers_same (Some talk) shown =
      rw (outs talk.port) (peer_same (is_out talk.port) talk.peer (ap (λ (t : Talk). t.peer) (the_one talk (seen_talk itself talk) shown)))
    where
      the_one : (a b : Talk) → Some a ≡ Some b → a ≡ b
      the_one a b h = cc

  takers_same : (o : Option Fault) →
      o ≡ and_then (seeing itself).fault o → Same (option_list (λ fault. option_list peer_pointer fault.taker) (and_then (seeing see).fault o))
      (option_list (λ fault. option_list peer_pointer fault.taker) o)
  takers_same None shown = refl
  takers_same (Some fault) shown =
      rw (outs fault.port) (taker_same (is_out fault.port) fault.taker (ap (λ (t : Fault). t.taker) (the_one fault (seen_fault itself fault) shown)))
    where
      the_one : (a b : Fault) → Some a ≡ Some b → a ≡ b
      the_one a b h = cc

  pub changed_same : (out : Bool) (edit : Edit) (b : Body) →
      b ≡ seen_by (seeing itself) b → Same (changed_pointers (seen_edit see out edit) (seen_by (seeing see) b)) (changed_pointers edit b)
  unfolding seen_by
  changed_same out (SetPointer to) b shown = body_same b shown
  changed_same out (SetHolder holder) b shown = body_same b shown
  changed_same out (SetTalk talk) (Thread_of t) shown = talks_same t.talk (talk_shown t shown)
  changed_same out (SetPeer peer) (Thread_of t) shown = peers_same t.talk (talk_shown t shown)
  changed_same out (SetFault fault) (Thread_of t) shown = faults_same t.fault (fault_shown t shown)
  changed_same out (SetTaker taker) (Thread_of t) shown = takers_same t.fault (fault_shown t shown)
  changed_same out (SetTalk talk) b shown = refl
  changed_same out (SetPeer peer) b shown = refl
  changed_same out (SetFault fault) b shown = refl
  changed_same out (SetTaker taker) b shown = refl
  changed_same out edit b shown = refl

  pub made_same : (out : Bool) (edit : Edit) → edit ≡ seen_edit itself out edit → Same (made_pointers (seen_edit see out edit)) (made_pointers edit)
  made_same out (SetPointer to) shown = one_same to
  made_same out (SetHolder holder) shown = holder_same holder
  made_same out (SetTalk talk) shown = talks_same talk (the_one talk (and_then (seeing itself).talk talk) shown)
    where
      the_one : (a b : Option Talk) → SetTalk a ≡ SetTalk b → a ≡ b
      the_one a b h = cc
  made_same out (SetPeer peer) shown = peer_same out peer (the_one peer (seen_peer itself out peer) shown)
    where
      the_one : (a b : Peer) → SetPeer a ≡ SetPeer b → a ≡ b
      the_one a b h = cc
  made_same out (SetFault fault) shown = faults_same fault (the_one fault (and_then (seeing itself).fault fault) shown)
    where
      the_one : (a b : Option Fault) → SetFault a ≡ SetFault b → a ≡ b
      the_one a b h = cc
  made_same out (SetTaker taker) shown = taker_same out taker (the_one taker (option_map (seen_peer itself out) taker) shown)
    where
      the_one : (a b : Option Peer) → SetTaker a ≡ SetTaker b → a ≡ b
      the_one a b h = cc
  made_same out edit shown = refl

-- ---- the rule

module _ (bind : ℕ → ℕ) (c : World) (world : IsCutWorld c) (me : Path) where
  abbrev see : Ptr → Ptr
  see = rebound_ptr bind

  abbrev small : World
  small = rebound bind c

  abbrev likeness : IsLikeness [] see small c
  likeness = rebound-like bind itself [] c c world

  frozen_same : (x : Path) → is_frozen_for small me x ≡ is_frozen_for c me x
  frozen_same x = is_frozen_for-like likeness (top_free c world) me x ∙ (λ i. is_frozen_for c (append-nil me i) (append-nil x i))

  abbrev near : Ptr → Bool
  near = leads_to_frozen small me

  abbrev far : Ptr → Bool
  far = leads_to_frozen c me

  thaw_same : (p : Ptr) → near (see p) ≡ far p
  thaw_same (At x) = frozen_same x
  thaw_same Null = refl
  thaw_same Dead = refl
  thaw_same (Out slot) = refl
  thaw_same Outside = refl
  thaw_same Far = refl

  leads_same : (x : Path) (p : Ptr) → leads_to x (see p) ≡ leads_to x p
  leads_same x (At y) = refl
  leads_same x Null = refl
  leads_same x Dead = refl
  leads_same x (Out slot) = refl
  leads_same x Outside = refl
  leads_same x Far = refl

  body_near : (k : ℕ) (q : Path) → small.body (k ∷ q) ≡ option_map (λ b. seen_by (seeing see) b) (c.body (k ∷ q))
  body_near k q = likeness.bodies (k ∷ q) ∙ ap (λ (y : Path). option_map (λ b. seen_by (seeing see) b) (c.body (k ∷ y))) (append-nil q)

  body_far : (k : ℕ) (q : Path) → c.body (k ∷ q) ≡ option_map (λ b. seen_by (seeing itself) b) (c.body (k ∷ q))
  body_far k q = world.bodies (k ∷ q) ∙ ap (λ (y : Path). option_map (λ b. seen_by (seeing itself) b) (c.body (k ∷ y))) (append-nil q)

  -- what is the same for an object as it is seen is the same where it stands
  there : {A : Type 0} (f g : Option Body → A) →
      f None ≡ g None → ((b : Body) → b ≡ seen_by (seeing itself) b → f (Some (seen_by (seeing see) b)) ≡ g (Some b)) →
      (k : ℕ) (q : Path) → f (small.body (k ∷ q)) ≡ g (c.body (k ∷ q))
  there {A} f g none some k q = ap f (body_near k q) ∙ by (c.body (k ∷ q)) (body_far k q)
    where
      the_one : (a b : Body) → Some a ≡ Some b → a ≡ b
      the_one a b h = cc

      by : (o : Option Body) → o ≡ option_map (λ b. seen_by (seeing itself) b) o → f (option_map (λ b. seen_by (seeing see) b) o) ≡ g o
      by None shown = none
      by (Some b) shown = some b (the_one b (seen_by (seeing itself) b) shown)

  unfrozen : (seen ps : List Ptr) → list_any near seen ≡ list_any far ps → are_unfrozen small me seen ≡ true → are_unfrozen c me ps ≡ true
  unfrozen seen ps e h = sym (ap not e) ∙ h

  alter_back : (out : Bool) (k : ℕ) (q : Path) (edit : Edit) →
      edit ≡ seen_edit itself out edit → IsAllowed small me (Alter (k ∷ q) (seen_edit see out edit)) → IsAllowed c me (Alter (k ∷ q) edit)
  alter_back out k q edit shown may = record {
    object = sym (frozen_same (k ∷ q)) ∙ may.object;
    changed = unfrozen (option_list (changed_pointers (seen_edit see out edit)) (small.body (k ∷ q))) (option_list (changed_pointers edit) (c.body (k ∷ q)))
        (there (λ o. list_any near (option_list (changed_pointers (seen_edit see out edit)) o)) (λ o. list_any far (option_list (changed_pointers edit) o))
        refl (λ b is. changed_same see (out_kept bind) near far refl refl thaw_same out edit b is) k q) may.changed;
    made = unfrozen (made_pointers (seen_edit see out edit))
        (made_pointers edit) (made_same see (out_kept bind) near far refl refl thaw_same out edit shown) may.made;
  }

  -- ---- a death and a new name

  set_same : (x : Path) (j : ℕ) (z : Path) (b : Body) → is_in_set x (j ∷ z) (seen_by (seeing see) b) ≡ is_in_set x (j ∷ z) b
  unfolding seen_by
  set_same x j z (Port None served) = refl
  set_same x j z (Port (Some k) served) = refl
  set_same x j z b = refl

  swept_same : (x : Path) (j : ℕ) (z : Path) → is_swept x (j ∷ z) (small.body (j ∷ z)) ≡ is_swept x (j ∷ z) (c.body (j ∷ z))
  swept_same x j z =
      there (is_swept x (j ∷ z)) (is_swept x (j ∷ z)) refl
      (λ b shown. rw (body_same see (out_kept bind) (leads_to x) (leads_to x) refl refl (leads_same x) b shown, set_same x j z b) refl) j z

  serves_same : (x : Path) (out : Bool) (peer : Peer) → peer ≡ seen_peer itself out peer → serves x (seen_peer see out peer) ≡ serves x peer
  serves_same x true peer shown = sym (subst (λ (p : Peer). serves x p ≡ false) (sym shown) refl)
  serves_same x false (Server thread) shown = leads_same x thread
  serves_same x false Service shown = refl
  serves_same x false Parked shown = refl

  if_same : (a b : Bool) (seen ps : List Ptr) → a ≡ b → list_any near seen ≡ list_any far ps → list_any near (cond a seen []) ≡ list_any far (cond b ps [])
  if_same a true seen ps e h = rw e h
  if_same a false seen ps e h = rw e refl

  talk_lost_same : (x : Path) (o : Option Talk) → o ≡ and_then (seeing itself).talk o →
      list_any near (option_list (talk_lost x) (and_then (seeing see).talk o)) ≡ list_any far (option_list (talk_lost x) o)
  talk_lost_same x None shown = refl
  talk_lost_same x (Some talk) shown =
      let is = the_one talk (seen_talk itself talk) shown in
      if_same (leads_to x (see talk.port) || serves x (seen_peer see (is_out (see talk.port)) talk.peer)) (leads_to x talk.port || serves x talk.peer) _ _
      (rw (leads_same x talk.port, out_kept bind talk.port, serves_same x (is_out talk.port) talk.peer (ap (λ (t : Talk). t.peer) is)) refl)
      (talk_same see (out_kept bind) near far refl refl thaw_same talk is)
    where
      the_one : (a b : Talk) → Some a ≡ Some b → a ≡ b
      the_one a b h = cc

  fault_lost_same : (x : Path) (o : Option Fault) → o ≡ and_then (seeing itself).fault o →
      list_any near (option_list (fault_lost x) (and_then (seeing see).fault o)) ≡ list_any far (option_list (fault_lost x) o)
  fault_lost_same x None shown = refl
  fault_lost_same x (Some fault) shown = if_same (leads_to x (see fault.port)) (leads_to x fault.port)
      _ _ (leads_same x fault.port) (fault_same see (out_kept bind) near far refl refl thaw_same fault (the_one fault (seen_fault itself fault) shown))
    where
      the_one : (a b : Fault) → Some a ≡ Some b → a ≡ b
      the_one a b h = cc

  lost_same : (x : Path) (j : ℕ) (z : Path) → list_any near (lost_with x (small.body (j ∷ z))) ≡ list_any far (lost_with x (c.body (j ∷ z)))
  unfolding seen_by
  lost_same x j z = there (λ o. list_any near (lost_with x o)) (λ o. list_any far (lost_with x o)) refl of_body j z
    where
      of_body : (b : Body) → b ≡ seen_by (seeing itself) b → list_any near (lost_with x (Some (seen_by (seeing see) b))) ≡ list_any far (lost_with x (Some b))
      of_body (Thread_of t) shown =
          joined_same see (out_kept bind) near far refl refl thaw_same (option_list (talk_lost x) (and_then (seeing see).talk t.talk))
          (option_list (fault_lost x) (and_then (seeing see).fault t.fault)) (option_list (talk_lost x) t.talk) (option_list (fault_lost x) t.fault)
          (talk_lost_same x t.talk (talk_shown see (out_kept bind) near far refl refl thaw_same t shown))
          (fault_lost_same x t.fault (fault_shown see (out_kept bind) near far refl refl thaw_same t shown))
      of_body b shown = refl

  may_be_swept_back : (x q : Path) → may_be_swept small me x q ≡ true → may_be_swept c me x q ≡ true
  may_be_swept_back x [] may = rw (root_seen world) refl
  may_be_swept_back x (j ∷ z) may =
      sym (λ i. not (swept_same x j z i) || (not (frozen_same (j ∷ z) i) && not (lost_same x j z i))) ∙ may

  may_follow_back : (x q : Path) → may_follow small me x q ≡ true → may_follow c me x q ≡ true
  may_follow_back x [] may = rw (root_seen world) refl
  may_follow_back x (j ∷ z) may = sym (λ i. not (swept_same x j z i) || not (frozen_same (j ∷ z) i)) ∙ may

  kill_back : (k : ℕ) (q : Path) → IsAllowed small me (Kill (k ∷ q)) → IsAllowed c me (Kill (k ∷ q))
  kill_back k q may = record {
    object = sym (frozen_same (k ∷ q)) ∙ may.object;
    changed = unfrozen (body_pointers (small.body (k ∷ q))) (body_pointers (c.body (k ∷ q)))
        (there (λ o. list_any near (body_pointers o))
        (λ o. list_any far (body_pointers o)) refl (λ b is. body_same see (out_kept bind) near far refl refl thaw_same b is) k q) may.changed;
    others = λ z. may_be_swept_back (k ∷ q) z (may.others z);
  }

  -- ---- each change, which is seen as itself

  shown_edit : (v : World) (x y : Path) (s e : Edit) →
      LikeChange [] itself v (Alter x s) (Alter y e) → (out : Bool) × (s ≡ seen_edit itself out e) × IsSeenEdit [] itself v out y e
  shown_edit v _ _ _ _ (Alters k q seen edit e h) = (false, e, h)
  shown_edit v _ _ _ _ (AltersOut k q seen edit e h) = (true, e, h)

  shown_body : (v : World) (x y : Path) (s b : Body) → LikeChange [] itself v (Make x s) (Make y b) → s ≡ seen_by (seeing itself) b
  shown_body v _ _ _ _ (Makes k q seen body e h) = e

  -- whose peer is set has one talk, at one port
  shown_at : (v : World) (a b : Bool) (y : Path) (edit : Edit) →
      IsSeenEdit [] see v a y edit → IsSeenEdit [] itself v b y edit → edit ≡ seen_edit itself b edit → edit ≡ seen_edit itself a edit
  shown_at v a b y (SetPeer peer) h g shown =
      let same : h.0.0 ≡ g.0.0 = the_one h.0.0 g.0.0 (sym h.0.1 ∙ g.0.1) in
      let one : a ≡ b = sym h.0.2 ∙ out_kept bind h.0.0.port ∙ ap (λ (talk : Talk). is_out talk.port) same ∙ g.0.2 in
      rw one shown
    where
      the_one : (a b : Talk) → Some a ≡ Some b → a ≡ b
      the_one a b h = cc
  shown_at v a b y (SetTaker taker) h g shown =
      let same : h.0.0 ≡ g.0.0 = the_one h.0.0 g.0.0 (sym h.0.1 ∙ g.0.1) in
      let one : a ≡ b = sym h.0.2 ∙ out_kept bind h.0.0.port ∙ ap (λ (fault : Fault). is_out fault.port) same ∙ g.0.2 in
      rw one shown
    where
      the_one : (a b : Fault) → Some a ≡ Some b → a ≡ b
      the_one a b h = cc
  shown_at v a b y edit h g shown = shown

  change_back : (v : World) (a b : Change) → LikeChange [] see v a b → LikeChange [] itself v b b → IsAllowed small me a → IsAllowed c me b
  change_back v _ _ (Alters k q seen edit e h) again may =
      let own = shown_edit v _ _ edit edit again in
      subst (λ (y : Path). IsAllowed c me (Alter (k ∷ y) edit))
      (sym (append-nil q)) (alter_back false k q edit (shown_at v false own.0 (k ∷ (q ++ [])) edit h own.2 own.1) (rw e at may))
  change_back v _ _ (AltersOut k q seen edit e h) again may =
      let own = shown_edit v _ _ edit edit again in
      subst (λ (y : Path). IsAllowed c me (Alter (k ∷ y) edit))
      (sym (append-nil q)) (alter_back true k q edit (shown_at v true own.0 (k ∷ (q ++ [])) edit h own.2 own.1) (rw e at may))
  change_back v _ _ (Makes k q seen body e h) again may =
      let own = shown_body v _ _ body body again in
      let made = rw e at may.made in
      subst (λ (y : Path). IsAllowed c me (Make (k ∷ y) body)) (sym (append-nil q)) (record {
        object = sym (frozen_same (k ∷ q)) ∙ may.object;
        made =
            unfrozen (pointers (seen_by (seeing see) body)) (pointers body) (body_same see (out_kept bind) near far refl refl thaw_same body own) made;
      })
  change_back v _ _ (MakesSpace k q seen holder e h) again may =
      let made = rw e at may.made in
      subst (λ (y : Path). IsAllowed c me (MakeSpace (k ∷ y) holder)) (sym (append-nil q))
      (record {
        object = sym (frozen_same (k ∷ q)) ∙ may.object;
        made = unfrozen (option_list (λ p. p ∷ []) (and_then (seeing see).holder holder))
            (option_list (λ p. p ∷ []) holder) (holder_same see (out_kept bind) near far refl refl thaw_same holder) made;
      })
  change_back v _ _ (Kills k q apart) again may = subst (λ (y : Path). IsAllowed c me (Kill (k ∷ y))) (sym (append-nil q)) (kill_back k q may)
  change_back v _ _ (Moves k q slot) again may =
      subst (λ (y : Path). IsAllowed c me (Move (k ∷ y) slot))
      (sym (append-nil q)) (record { object = sym (frozen_same (k ∷ q)) ∙ may.object; others = λ z. may_follow_back (k ∷ q) z (may.others z) })
  change_back v _ _ (PutsPage q page words) again may =
      subst (λ (y : Path). IsAllowed c me (PutPage y page words)) (sym (append-nil q)) (sym (frozen_same q) ∙ may)
  change_back v _ _ (DropsPage q page) again may = subst (λ (y : Path). IsAllowed c me (DropPage y page)) (sym (append-nil q)) (sym (frozen_same q) ∙ may)

  shown_list : (v : World) (b : Change) (cs ds : List Change) →
      LikeChanges [] itself v (b ∷ cs) (b ∷ ds) → LikeChange [] itself v b b × LikeChanges [] itself (apply b v) cs ds
  shown_list v b cs ds (Both h hs) = (h, hs)
  shown_list v b cs ds (Beyond out hs) = absurd (no_outside b out)

  pub changes_back : (v : World) (cs ds : List Change) →
      LikeChanges [] see v cs ds → LikeChanges [] itself v ds ds → AreAllowed small me cs → AreAllowed c me ds
  changes_back v _ _ Empty again may = tt
  changes_back v _ _ (Both {c = a} {d = b} {cs = cs} {ds = ds} h hs) again may =
      let both = shown_list v b ds ds again in
      (change_back v a b h both.0 may.0, changes_back (apply b v) cs ds hs both.1 may.1)
  changes_back v _ _ (Beyond {d = d} out hs) again may = absurd (no_outside d out)
