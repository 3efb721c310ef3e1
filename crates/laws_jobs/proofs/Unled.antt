-- No move of another makes a pointer to an object of a subtree that a porter holds.
use Rattle.std.proofs.Common.{◌≡◌, ℕ, ◌+◌, min, Bool, true, false, cond, not, ◌&&◌, ◌||◌, nat_le, is_some, List, [], ◌∷◌, ◌++◌, Option, Some, None, option_map}
use Rattle.std.proofs.Common.{refl, sym, subst, arith, ◌∙◌}
use Rattle.std.specs.List.{list_any}
use Rattle.std.proofs.lemmas.Bool.{and_parts, leb-true}
use Rattle.std.proofs.lemmas.List.Folds.{list_any-append}
use Rattle.fk_model.specs.declared.limits.TheConstants.{MOST_MOVED, LAST_USER_SLOT, FIRST_SCRATCH_SLOT, LAST_SCRATCH_SLOT, LAST_PORTER_SLOT}
use Rattle.fk_model.specs.declared.thread.Turn.{Turn}
use Rattle.fk_model.specs.Places.{Path, same_path, strip, is_within, parent, slot_of, Ptr, leads_to}
use Rattle.fk_model.specs.Places.Ptr.{Dead, At}
use Rattle.fk_model.specs.Objects.{Mode, Peer, Talk, Fault, Thread, Body, and_then}
use Rattle.fk_model.specs.Objects.Mode.{Calling}
use Rattle.fk_model.specs.Objects.Peer.{Server, Service, Parked}
use Rattle.fk_model.specs.Objects.Body.{Mutex, Cond, Mapping, Region, Port, Portset, Space, Thread_of, Reference}
use Rattle.fk_model.specs.World.{World, Change, Edit, Sweep, edited, through, death_sweep, taker_without, serves, following, follow, follow_peer, apply}
use Rattle.fk_model.specs.World.{apply_all, ended_in, finished_in}
use Rattle.fk_model.specs.World.Change.{Alter, Make, MakeSpace, Kill, Move, PutPage, DropPage}
use Rattle.fk_model.specs.World.Edit.{SetLocked, SetWindow, SetExtent, SetMember, SetPointer, SetHolder, Finish, End, SetTalk, CountMoved, PassTurn, SetPeer}
use Rattle.fk_model.specs.World.Edit.{SetFault, SetTaker}
use Rattle.fk_model.specs.Searches.{pointers, option_list, talk_pointers, fault_pointers, peer_pointer}
use Rattle.fk_model.specs.Holds.{decider, is_frozen_for, leads_to_frozen}
use Rattle.fk_model.specs.Freezing.{body_pointers, made_pointers, are_unfrozen, IsAllowed, AreAllowed}
use Rattle.fk_model.specs.Outcomes.{Outcome, listed}
use Rattle.fk_model.specs.Outcomes.Outcome.{Refused, Waits, Goes}
use Rattle.fk_model.specs.ObjectRows.{is_scratch}
use Rattle.fk_model.specs.Moves.{GoesAllowed, stepped}
use Rattle.fk_model.proofs.walks.PlaceLaws.{same_path_sym, strip_some, leads_to_at}
use Rattle.laws_moves.proofs.InMachine.safety.Safe.{IsSafe, AreSafe}
use Rattle.laws_moves.proofs.InMachine.safety.Outcomes.{SafeOutcome}
use Rattle.fk_model.specs.Valid.{IsConsistent}
use Rattle.laws_moves.specs.Frozen.Frozen.{IsSameInside}
use Rattle.laws_moves.specs.Frozen.Users.{IsUsers, AreUsers}
use Rattle.laws_moves.specs.Frozen.Holding.{IsHolding}
use Rattle.laws_moves.proofs.InFrozen.Frozen.{frozen_inside, place_apart, change-same}
use Rattle.laws_jobs.specs.Leads.{IsUnledAt}

module _ (z : Path) where
  abbrev Off : List Ptr → Type 0
  Off ps = list_any (leads_to z) ps ≡ false

  pub off_one : (p : Ptr) → leads_to z p ≡ false → Off (p ∷ [])
  off_one p h = rw h refl

  pub one_off : (p : Ptr) → Off (p ∷ []) → leads_to z p ≡ false
  one_off p h = by (leads_to z p) h
    where
      by : (t : Bool) → (t || false) ≡ false → t ≡ false
      by true h = cc
      by false h = refl

  pub off_both : (ps qs : List Ptr) → Off ps → Off qs → Off (ps ++ qs)
  off_both ps qs h g = list_any-append (leads_to z) ps qs ∙ (rw (h, g) refl)

  pub both_off : (ps qs : List Ptr) → Off (ps ++ qs) → Off ps × Off qs
  both_off ps qs h = by (list_any (leads_to z) ps) (list_any (leads_to z) qs) refl refl (sym (list_any-append (leads_to z) ps qs) ∙ h)
    where
      by : (a b : Bool) → list_any (leads_to z) ps ≡ a → list_any (leads_to z) qs ≡ b → (list_any (leads_to z) ps || list_any (leads_to z) qs) ≡ false
          → Off ps × Off qs
      by false false e f h = (e, f)
      by true b e f h = let on : (true || list_any (leads_to z) qs) ≡ false = subst (λ (a : Bool). (a || list_any (leads_to z) qs) ≡ false) e h in cc
      by false true e f h = let on : (false || true)
          ≡ false = subst (λ (a : Bool). (false || a) ≡ false) f (subst (λ (a : Bool). (a || list_any (leads_to z) qs) ≡ false) e h) in cc

  -- ---- edits

  talk_off : (o : Option Talk) (p : Option Fault) → Off (option_list talk_pointers o ++ option_list fault_pointers p) → Off (option_list talk_pointers o)
  talk_off o p h = (both_off (option_list talk_pointers o) (option_list fault_pointers p) h).0

  fault_off : (o : Option Talk) (p : Option Fault) → Off (option_list talk_pointers o ++ option_list fault_pointers p) → Off (option_list fault_pointers p)
  fault_off o p h = (both_off (option_list talk_pointers o) (option_list fault_pointers p) h).1

  mapped_talk : (f : Talk → Talk) → ((talk : Talk) → talk_pointers (f talk) ≡ talk_pointers talk) → (o : Option Talk) → Off (option_list talk_pointers o)
      → Off (option_list talk_pointers (option_map f o))
  mapped_talk f same None h = h
  mapped_talk f same (Some talk) h = subst (λ (ps : List Ptr). Off ps) (sym (same talk)) h

  peer_set : (peer : Peer) (o : Option Talk) → Off (option_list talk_pointers o) → Off (peer_pointer peer)
      → Off (option_list talk_pointers (option_map (λ (talk : Talk). record talk { peer = peer }) o))
  peer_set peer None h g = refl
  peer_set peer (Some talk) h g = off_both (talk.port ∷ []) (peer_pointer peer) (both_off (talk.port ∷ []) (peer_pointer talk.peer) h).0 g

  taker_set : (taker : Option Peer) (o : Option Fault) → Off (option_list fault_pointers o) → Off (option_list peer_pointer taker)
      → Off (option_list fault_pointers (option_map (λ (fault : Fault). record fault { taker = taker }) o))
  taker_set taker None h g = refl
  taker_set taker (Some fault) h g = off_both (fault.port ∷ []) (option_list peer_pointer taker)
      (both_off (fault.port ∷ []) (option_list peer_pointer fault.taker) h).0 g

  abbrev thread_pointers : Thread → List Ptr
  thread_pointers t = option_list talk_pointers t.talk ++ option_list fault_pointers t.fault

  ended_same : (status : ℕ) (answers : List ℕ) (t : Thread) (mode : Mode) → thread_pointers (ended_in status answers t mode) ≡ thread_pointers t
  ended_same status answers t (Calling todo rest) = refl
  ended_same status answers t mode = refl

  finished_same : (answers : List ℕ) (t : Thread) (mode : Mode) → thread_pointers (finished_in answers t mode) ≡ thread_pointers t
  finished_same answers t (Calling [] rest) = refl
  finished_same answers t (Calling (stage ∷ []) rest) = refl
  finished_same answers t (Calling (stage ∷ next_stage ∷ todo) rest) = refl
  finished_same answers t mode = refl

  abbrev counted : ℕ → Talk → Talk
  counted count talk = record talk { moved = min MOST_MOVED (talk.moved + count) }

  abbrev passed : Turn → Talk → Talk
  passed turn talk = record talk { turn = turn; moved = 0 }

  edited_thread : (edit : Edit) (t : Thread) → Off (thread_pointers t) → Off (made_pointers edit) → Off (pointers (edited edit (Thread_of t)))
  unfolding edited
  edited_thread (SetTalk talk) t h g = off_both (option_list talk_pointers talk) (option_list fault_pointers t.fault) g (fault_off t.talk t.fault h)
  edited_thread (SetFault fault) t h g = off_both (option_list talk_pointers t.talk) (option_list fault_pointers fault) (talk_off t.talk t.fault h) g
  edited_thread (SetPeer peer) t h g = off_both (option_list talk_pointers (option_map (λ (talk : Talk). record talk { peer = peer }) t.talk))
      (option_list fault_pointers t.fault) (peer_set peer t.talk (talk_off t.talk t.fault h) g) (fault_off t.talk t.fault h)
  edited_thread (SetTaker taker) t h g = off_both (option_list talk_pointers t.talk)
      (option_list fault_pointers (option_map (λ (fault : Fault). record fault { taker = taker }) t.fault)) (talk_off t.talk t.fault h)
      (taker_set taker t.fault (fault_off t.talk t.fault h) g)
  edited_thread (CountMoved count) t h g = off_both (option_list talk_pointers (option_map (counted count) t.talk)) (option_list fault_pointers t.fault)
      (mapped_talk (counted count) (λ talk. refl) t.talk (talk_off t.talk t.fault h)) (fault_off t.talk t.fault h)
  edited_thread (PassTurn turn) t h g = off_both (option_list talk_pointers (option_map (passed turn) t.talk)) (option_list fault_pointers t.fault)
      (mapped_talk (passed turn) (λ talk. refl) t.talk (talk_off t.talk t.fault h)) (fault_off t.talk t.fault h)
  edited_thread (End status answers) t h g = rw (ended_same status answers t t.mode) h
  edited_thread (Finish answers) t h g = rw (finished_same answers t t.mode) h
  edited_thread (SetLocked locked) t h g = h
  edited_thread edit t h g = h

  edited_off : (edit : Edit) (b : Body) → Off (pointers b) → Off (made_pointers edit) → Off (pointers (edited edit b))
  unfolding edited
  edited_off edit (Thread_of t) h g = edited_thread edit t h g
  edited_off (SetPointer to) (Mapping m) h g = g
  edited_off (SetPointer to) (Region r) h g = g
  edited_off (SetPointer to) (Reference old) h g = g
  edited_off (SetHolder holder) (Space birth old) h g = g
  edited_off (SetLocked locked) (Mutex old) h g = h
  edited_off (SetWindow first count offset write) (Mapping m) h g = h
  edited_off (SetExtent first count write) (Region r) h g = h
  edited_off (SetMember set) (Port old served) h g = h
  edited_off (SetLocked locked) b h g = h
  edited_off edit b h g = h

  -- ---- sweeps

  pub record Clean (f : Sweep) : Type 0 where
    pub pointer : (p : Ptr) → leads_to z p ≡ false → leads_to z (f.pointer p) ≡ false
    pub holder : (p : Ptr) → leads_to z p ≡ false → Off (option_list (λ p. p ∷ []) (f.holder p))
    pub talk : (talk : Talk) → Off (talk_pointers talk) → Off (option_list talk_pointers (f.talk talk))
    pub fault : (fault : Fault) → Off (fault_pointers fault) → Off (option_list fault_pointers (f.fault fault))

  module _ (f : Sweep) (clean : Clean f) where
    swept_talk : (o : Option Talk) → Off (option_list talk_pointers o) → Off (option_list talk_pointers (and_then f.talk o))
    swept_talk None h = refl
    swept_talk (Some talk) h = clean.talk talk h

    swept_fault : (o : Option Fault) → Off (option_list fault_pointers o) → Off (option_list fault_pointers (and_then f.fault o))
    swept_fault None h = refl
    swept_fault (Some fault) h = clean.fault fault h

    swept_body : (at : Path) (b : Body) → Off (pointers b) → Off (pointers (through f at b))
    swept_body at (Mapping m) h = off_one _ (clean.pointer m.region (one_off m.region h))
    swept_body at (Region r) h = off_one _ (clean.pointer r.keeper (one_off r.keeper h))
    swept_body at (Reference to) h = off_one _ (clean.pointer to (one_off to h))
    swept_body at (Space birth None) h = refl
    swept_body at (Space birth (Some p)) h = clean.holder p (one_off p h)
    swept_body at (Thread_of t) h = off_both (option_list talk_pointers (and_then f.talk t.talk)) (option_list fault_pointers (and_then f.fault t.fault))
        (swept_talk t.talk (talk_off t.talk t.fault h)) (swept_fault t.fault (fault_off t.talk t.fault h))
    swept_body at (Mutex locked) h = refl
    swept_body at Cond h = refl
    swept_body at (Port set served) h = refl
    swept_body at Portset h = refl

    pub swept_there : (at : Path) (o : Option Body) → Off (body_pointers o) → Off (body_pointers (option_map (through f at) o))
    swept_there at None h = refl
    swept_there at (Some b) h = swept_body at b h

  if_off : (t : Bool) (p q : Ptr) → leads_to z p ≡ false → leads_to z q ≡ false → leads_to z (cond t p q) ≡ false
  if_off true p q h g = h
  if_off false p q h g = g

  if_list : (A : Type 0) (f : A → List Ptr) (t : Bool) (o : Option A) → Off (option_list f o) → Off (option_list f (cond t None o))
  if_list A f true o h = refl
  if_list A f false o h = h

  taker_less : (x : Path) (o : Option Peer) → Off (option_list peer_pointer o) → Off (option_list peer_pointer (and_then (taker_without x) o))
  taker_less x None h = refl
  taker_less x (Some taker) h = if_list Peer peer_pointer (serves x taker) (Some taker) h

  pub death_clean : (x : Path) → Clean (death_sweep x)
  death_clean x = record {
    pointer = λ p h. if_off (leads_to x p) Dead p refl h;
    holder = λ p h. if_list Ptr (λ p. p ∷ []) (leads_to x p) (Some p) (off_one p h);
    talk = λ talk h. if_list Talk talk_pointers (leads_to x talk.port || serves x talk.peer) (Some talk) h;
    fault = λ fault h. if_list Fault fault_pointers (leads_to x fault.port) (Some (record fault { taker = and_then (taker_without x) fault.taker }))
        (off_both (fault.port ∷ []) (option_list peer_pointer (and_then (taker_without x) fault.taker))
        (both_off (fault.port ∷ []) (option_list peer_pointer fault.taker) h).0
        (taker_less x fault.taker (both_off (fault.port ∷ []) (option_list peer_pointer fault.taker) h).1));
  }

  module _ (x y : Path) (apart : same_path y z ≡ false) where
    follow_off : (p : Ptr) → leads_to z p ≡ false → leads_to z (follow x y p) ≡ false
    follow_off p h = if_off (leads_to x p) (At y) p apart h

    peer_follows : (peer : Peer) → Off (peer_pointer peer) → Off (peer_pointer (follow_peer x y peer))
    peer_follows (Server thread) h = off_one _ (follow_off thread (one_off thread h))
    peer_follows Service h = refl
    peer_follows Parked h = refl

    taker_follows : (o : Option Peer) → Off (option_list peer_pointer o) → Off (option_list peer_pointer (option_map (follow_peer x y) o))
    taker_follows None h = refl
    taker_follows (Some taker) h = peer_follows taker h

    follow_clean : Clean (following x y)
    follow_clean = record {
      pointer = follow_off;
      holder = λ p h. off_one _ (follow_off p h);
      talk = λ talk h. off_both (follow x y talk.port ∷ []) (peer_pointer (follow_peer x y talk.peer))
          (off_one _ (follow_off talk.port (one_off talk.port (both_off (talk.port ∷ []) (peer_pointer talk.peer) h).0)))
          (peer_follows talk.peer (both_off (talk.port ∷ []) (peer_pointer talk.peer) h).1);
      fault = λ fault h. off_both (follow x y fault.port ∷ []) (option_list peer_pointer (option_map (follow_peer x y) fault.taker))
          (off_one _ (follow_off fault.port (one_off fault.port (both_off (fault.port ∷ []) (option_list peer_pointer fault.taker) h).0)))
          (taker_follows fault.taker (both_off (fault.port ∷ []) (option_list peer_pointer fault.taker) h).1);
    }

  -- ---- what is allowed leads to nothing frozen

  pub unfrozen_off : (w : World) (me : Path) → is_frozen_for w me z ≡ true → (ps : List Ptr) → are_unfrozen w me ps ≡ true → Off ps
  unfrozen_off w me frozen [] h = refl
  unfrozen_off w me frozen (p ∷ ps) h = by (leads_to z p) (leads_to_frozen w me p) (list_any (leads_to_frozen w me) ps) refl refl refl
      (unfrozen_off w me frozen ps)
    where
      by : (t f r : Bool) → leads_to z p ≡ t → leads_to_frozen w me p ≡ f → list_any (leads_to_frozen w me) ps ≡ r → (are_unfrozen w me ps ≡ true → Off ps)
          → Off (p ∷ ps)
      by t true r e g k rest = let on : not (true || list_any (leads_to_frozen w me) ps)
          ≡ true = subst (λ (a : Bool). not (a || list_any (leads_to_frozen w me) ps) ≡ true) g h in cc
      by t false true e g k rest = let on : not (false || true)
          ≡ true = subst (λ (a : Bool). not (false || a) ≡ true) k (subst (λ (a : Bool). not (a || list_any (leads_to_frozen w me) ps) ≡ true) g h) in cc
      by true false false e g k rest = let at = leads_to_at z p e in let on : leads_to_frozen w me p ≡ true = rw at frozen in cc
      by false false false e g k rest = rw e (rest (rw k refl))

module _ (nester : Path) (slot : ℕ) (w : World) (me : Path) (valid : IsConsistent w) (frozen : is_frozen_for w me (slot ∷ nester) ≡ true) (q : Path) where
  abbrev root : Path
  root = slot ∷ nester

  abbrev Unled : World → Type 0
  Unled v = IsUnledAt nester slot (q ++ root) v

  allowed_off : (ps : List Ptr) → are_unfrozen w me ps ≡ true → list_any (leads_to (q ++ root)) ps ≡ false
  allowed_off ps h = unfrozen_off (q ++ root) w me (frozen_inside w me root q frozen) ps h

  at_there : (z : Path) (t : Bool) (o p : Option Body) → (t ≡ true → list_any (leads_to z) (body_pointers o) ≡ false)
      → list_any (leads_to z) (body_pointers p) ≡ false → list_any (leads_to z) (body_pointers (cond t o p)) ≡ false
  at_there z true o p h g = h refl
  at_there z false o p h g = g

  altered_off : (z : Path) (edit : Edit) (o : Option Body) → list_any (leads_to z) (body_pointers o) ≡ false
      → list_any (leads_to z) (made_pointers edit) ≡ false → list_any (leads_to z) (body_pointers (option_map (edited edit) o)) ≡ false
  altered_off z edit None h g = refl
  altered_off z edit (Some b) h g = edited_off z edit b h g

  -- what isn't frozen for the mover isn't inside
  pub not_inside : (x : Path) → is_frozen_for w me x ≡ false → is_within root x ≡ false
  not_inside x free = by (strip root x) refl
    where
      by : (o : Option Path) → strip root x ≡ o → is_some o ≡ false
      by None e = refl
      by (Some p) e = let on : is_frozen_for w me x ≡ true = rw (strip_some root x p e) (frozen_inside w me root p frozen) in cc

  pub not_scratch : (x : Path) → nat_le (slot_of x) LAST_USER_SLOT ≡ true → is_scratch nester x ≡ false
  not_scratch x low = by (is_scratch nester x) refl
    where
      by : (t : Bool) → is_scratch nester x ≡ t → t ≡ false
      by false e = refl
      by true e =
          let both = and_parts (same_path (parent x) nester && nat_le FIRST_SCRATCH_SLOT (slot_of x)) (nat_le (slot_of x) LAST_SCRATCH_SLOT) e in
          let first = and_parts (same_path (parent x) nester) (nat_le FIRST_SCRATCH_SLOT (slot_of x)) both.0 in
          let least = leb-true FIRST_SCRATCH_SLOT (slot_of x) first.1 in
          let most = leb-true (slot_of x) LAST_USER_SLOT low in
          absurd (omega (arith, least, most))

  change_unled : (v : World) (same : IsSameInside root w v) (c : Change) → IsAllowed w me c → IsSafe v c → IsUsers w c → Unled v → Unled (apply c v)
  unfolding apply
  change_unled v same (Alter x edit) may safe users unled y out scratch =
      at_there (q ++ root) (same_path y x) _ _ (λ e.
      altered_off (q ++ root) edit (v.body y) (unled y out scratch) (allowed_off (made_pointers edit) may.made)) (unled y out scratch)
  change_unled v same (Make x body) may safe users unled y out scratch = at_there (q ++ root) (same_path y x) _ _ (λ e. allowed_off (pointers body) may.made)
      (unled y out scratch)
  change_unled v same (MakeSpace x holder) may safe users unled y out scratch = at_there (q ++ root) (same_path y x) _ _
      (λ e. allowed_off (option_list (λ p. p ∷ []) holder) may.made) (unled y out scratch)
  change_unled v same (Kill x) may safe users unled y out scratch =
      at_there (q ++ root) (same_path y x) None _ (λ e. refl) (swept_there (q ++ root) _ (death_clean (q ++ root) x) y (v.body y) (unled y out scratch))
  change_unled v same (Move [] j) may safe users unled y out scratch = absurd safe
  change_unled v same (Move (k ∷ s) j) may safe users unled y out scratch =
      let apart : same_path (j ∷ s) (q ++ root) ≡ false = same_path_sym (j ∷ s) (q ++ root)
      ∙ place_apart w v me root k j s frozen (same.bodies []) safe.empty may.object q in
      at_there (q ++ root) (same_path y (j ∷ s)) _ _
      (λ e. swept_there (q ++ root) _ (follow_clean (q ++ root) (k ∷ s) (j ∷ s) apart) (j ∷ s) (v.body (k ∷ s))
      (unled (k ∷ s) (not_inside (k ∷ s) may.object) (not_scratch (k ∷ s) users.0)))
      (at_there (q ++ root) (same_path y (k ∷ s)) None _ (λ e. refl)
      (swept_there (q ++ root) _ (follow_clean (q ++ root) (k ∷ s) (j ∷ s) apart) y (v.body y) (unled y out scratch)))
  change_unled v same (PutPage space page words) may safe users unled y out scratch = unled y out scratch
  change_unled v same (DropPage space page) may safe users unled y out scratch = unled y out scratch

  changes_unled : (cs : List Change) (v : World) → IsSameInside root w v → AreAllowed w me cs → AreSafe v cs → AreUsers w cs → Unled v → Unled (apply_all cs v)
  unfolding apply_all
  changes_unled [] v same may safe users unled = unled
  changes_unled (c ∷ cs) v same may safe users unled = changes_unled cs (apply c v)
      (change-same w root me valid frozen v same c may.0 safe.0) may.1 safe.1 users.1 (change_unled v same c may.0 safe.0 users.0 unled)

  pub outcome_unled : (o : Outcome) → GoesAllowed w me o → SafeOutcome w o → AreUsers w (listed o) → Unled w → Unled (stepped w o).world
  outcome_unled (Goes changes said) may safe users unled =
      changes_unled changes w (record { bodies = λ q. refl; pages = λ q page. refl; kinds = λ x q led. refl }) may safe.safe users unled
  outcome_unled (Refused status) may safe users unled = absurd may
  outcome_unled Waits may safe users unled = absurd may

pub held_frozen : (nester : Path) (slot : ℕ) (w : World) (x : Path) → IsHolding nester slot w → same_path (LAST_PORTER_SLOT ∷ nester) x ≡ false
    → is_frozen_for w x (slot ∷ nester) ≡ true
unfolding decider
held_frozen nester slot w x holding other = rw (holding.above, holding.holder, other) refl
