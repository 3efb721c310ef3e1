-- What the freezing rule allows to a thread inside it allows in the likeness.
use Rattle.std.proofs.Common.{◌≡◌, ℕ, Bool, true, false, cond, not, ◌&&◌, ◌||◌, List, [], ◌∷◌, ◌++◌, Option, Some, None, IfSome, option_map, refl, sym, ap, ◌∙◌}
use Rattle.std.specs.List.{list_any}
use Rattle.std.proofs.lemmas.List.Folds.{list_any-append}
use Rattle.std.proofs.lemmas.Bool.{and_parts, and_from}
use Rattle.fk_model.specs.Places.{Path, Ptr, leads_to}
use Rattle.fk_model.specs.Places.Ptr.{Outside}
use Rattle.fk_model.specs.Objects.{Peer, Talk, Fault, Body, and_then}
use Rattle.fk_model.specs.Objects.Peer.{Server, Service, Parked}
use Rattle.fk_model.specs.Objects.Body.{Mapping, Region, Port, Space, Thread_of, Reference}
use Rattle.fk_model.specs.World.{World, Change, Edit, serves, apply}
use Rattle.fk_model.specs.World.Edit.{SetPointer, SetHolder, SetTalk, SetPeer, SetFault, SetTaker}
use Rattle.fk_model.specs.Searches.{pointers, option_list, peer_pointer, talk_pointers, fault_pointers}
use Rattle.fk_model.specs.Holds.{is_frozen, is_frozen_for, leads_to_frozen}
use Rattle.fk_model.specs.Freezing.{body_pointers, changed_pointers, made_pointers, are_unfrozen, is_in_set, is_swept, talk_lost, fault_lost, lost_with}
use Rattle.fk_model.specs.Freezing.{may_be_swept, may_follow, MayAlter, IsAllowed, AreAllowed}
use Rattle.fk_model.specs.Cut.{is_out, seen_by, unheld}
use Rattle.laws_subtrees.specs.Cut.Likeness.{seeing, seen_peer, seen_talk, seen_fault, PtrLikeness, HasLikeness, IfServer, AllInTalk, AllInFault, IsPlainBody}
use Rattle.laws_subtrees.specs.Cut.Likeness.{IsLikeness}
use Rattle.laws_subtrees.specs.Cut.Likeness.PtrLikeness.{Nulls, Deads, Inside, PortAt, PortOut}
use Rattle.laws_subtrees.specs.Cut.LikeChanges.{seen_edit, IsSeenEdit, LikeChange, LikeChanges}
use Rattle.laws_subtrees.specs.Cut.LikeChanges.LikeChange.{Alters, AltersOut, Makes, MakesSpace, Kills, Moves, PutsPage, DropsPage}
use Rattle.laws_subtrees.specs.Cut.LikeChanges.LikeChanges.{Empty, Both, Beyond}
use Rattle.laws_moves.proofs.InMachine.Frame.{or_off}
use Rattle.fk_model.proofs.walks.PlaceLaws.{same_path_cancel}
use Rattle.laws_subtrees.proofs.InCut.likeness.Memory.{root_seen}
use Rattle.laws_subtrees.proofs.InCut.likeness.Holds.{leads_to-like, is_frozen_for-like}

pub both_off : (a b : Bool) → a ≡ false → b ≡ false → (a || b) ≡ false
both_off a b h g = rw h g

pub not_off : (a : Bool) → not a ≡ true → a ≡ false
not_off false h = refl
not_off true h = cc

-- ---- a test that is off for a pointer is off for what it is seen as

module _ (root : Path) (see : Ptr → Ptr) (v : World)
    (f g : Ptr → Bool) (outside : f Outside ≡ false) (fades : (p : Ptr) → HasLikeness root see v p → g p ≡ false → f (see p) ≡ false) where
  abbrev Off : List Ptr → List Ptr → Type 0
  Off seen ps = list_any g ps ≡ false → list_any f seen ≡ false

  ptr_off : (p : Ptr) → HasLikeness root see v p → Off (see p ∷ []) (p ∷ [])
  ptr_off p h off = both_off (f (see p)) false (fades p h (or_off (g p) false off).0) refl

  peer_off : (out : Bool) (peer : Peer) → IfServer out peer (HasLikeness root see v) → Off (peer_pointer (seen_peer see out peer)) (peer_pointer peer)
  peer_off true peer h off = both_off (f Outside) false outside refl
  peer_off false (Server thread) h off = ptr_off thread h off
  peer_off false Service h off = refl
  peer_off false Parked h off = refl

  taker_off : (out : Bool) (o : Option Peer) → IfSome o (λ taker. IfServer out taker (HasLikeness root see v)) →
      Off (option_list peer_pointer (option_map (seen_peer see out) o)) (option_list peer_pointer o)
  taker_off out None h off = refl
  taker_off out (Some taker) h off = peer_off out taker h off

  of_talk_off : (talk : Talk) → AllInTalk see (HasLikeness root see v) talk → Off (talk_pointers (seen_talk see talk)) (talk_pointers talk)
  of_talk_off talk h off =
      let both = or_off (g talk.port) _ off in
      both_off (f (see talk.port)) _ (fades talk.port h.0 both.0) (peer_off (is_out (see talk.port)) talk.peer h.1 both.1)

  of_fault_off : (fault : Fault) → AllInFault see (HasLikeness root see v) fault → Off (fault_pointers (seen_fault see fault)) (fault_pointers fault)
  of_fault_off fault h off =
      let both = or_off (g fault.port) _ off in
      both_off (f (see fault.port)) _ (fades fault.port h.0 both.0) (taker_off (is_out (see fault.port)) fault.taker h.1 both.1)

  talk_off : (o : Option Talk) →
      IfSome o (AllInTalk see (HasLikeness root see v)) → Off (option_list talk_pointers (and_then (seeing see).talk o)) (option_list talk_pointers o)
  talk_off None h off = refl
  talk_off (Some talk) h off = of_talk_off talk h off

  fault_off : (o : Option Fault) →
      IfSome o (AllInFault see (HasLikeness root see v)) → Off (option_list fault_pointers (and_then (seeing see).fault o)) (option_list fault_pointers o)
  fault_off None h off = refl
  fault_off (Some fault) h off = of_fault_off fault h off

  holder_off : (o : Option Ptr) →
      IfSome o (HasLikeness root see v) → Off (option_list (λ p. p ∷ []) (and_then (seeing see).holder o)) (option_list (λ p. p ∷ []) o)
  holder_off None h off = refl
  holder_off (Some p) h off = ptr_off p h off

  joined_off : (a b c d : List Ptr) → Off a c → Off b d → Off (a ++ b) (c ++ d)
  joined_off a b c d first then off =
      let both = or_off (list_any g c) (list_any g d) (sym (list_any-append g c d) ∙ off) in
      list_any-append f a b ∙ both_off _ _ (first both.0) (then both.1)

  pub body_off : (b : Body) → IsPlainBody see (HasLikeness root see v) b → Off (pointers (seen_by (seeing see) b)) (pointers b)
  unfolding seen_by
  body_off (Mapping m) h off = ptr_off m.region h off
  body_off (Region r) h off = ptr_off r.keeper h off
  body_off (Space birth holder) h off = holder_off holder h off
  body_off (Thread_of t) h off =
      joined_off (option_list talk_pointers (and_then (seeing see).talk t.talk)) (option_list fault_pointers (and_then (seeing see).fault t.fault))
      (option_list talk_pointers t.talk) (option_list fault_pointers t.fault) (talk_off t.talk h.0) (fault_off t.fault h.1) off
  body_off (Reference to) h off = ptr_off to h off
  body_off b h off = refl

  peer_of_off : (o : Option Talk) → IfSome o (AllInTalk see (HasLikeness root see v)) →
      Off (option_list (λ talk. peer_pointer talk.peer) (and_then (seeing see).talk o)) (option_list (λ talk. peer_pointer talk.peer) o)
  peer_of_off None h off = refl
  peer_of_off (Some talk) h off = peer_off (is_out (see talk.port)) talk.peer h.1 off

  taker_of_off : (o : Option Fault) →
      IfSome o (AllInFault see (HasLikeness root see v)) → Off (option_list (λ fault. option_list peer_pointer fault.taker) (and_then (seeing see).fault o))
      (option_list (λ fault. option_list peer_pointer fault.taker) o)
  taker_of_off None h off = refl
  taker_of_off (Some fault) h off = taker_off (is_out (see fault.port)) fault.taker h.1 off

  -- ---- what an edit changes, and what it makes

  changed_off : (out : Bool) (edit : Edit) (b : Body) →
      IsPlainBody see (HasLikeness root see v) b → Off (changed_pointers (seen_edit see out edit) (seen_by (seeing see) b)) (changed_pointers edit b)
  unfolding seen_by
  changed_off out (SetPointer to) b h off = body_off b h off
  changed_off out (SetHolder holder) b h off = body_off b h off
  changed_off out (SetTalk talk) (Thread_of t) h off = talk_off t.talk h.0 off
  changed_off out (SetTalk talk) b h off = refl
  changed_off out (SetPeer peer) (Thread_of t) h off = peer_of_off t.talk h.0 off
  changed_off out (SetPeer peer) b h off = refl
  changed_off out (SetFault fault) (Thread_of t) h off = fault_off t.fault h.1 off
  changed_off out (SetFault fault) b h off = refl
  changed_off out (SetTaker taker) (Thread_of t) h off = taker_of_off t.fault h.1 off
  changed_off out (SetTaker taker) b h off = refl
  changed_off out edit b h off = refl

  pub changed_there_off : (out : Bool) (edit : Edit) (k : ℕ) (q : Path) (o : Option Body) → IfSome o (IsPlainBody see (HasLikeness root see v)) →
      Off (option_list (changed_pointers (seen_edit see out edit)) (option_map (λ b. unheld (k ∷ q) (seen_by (seeing see) b)) o))
      (option_list (changed_pointers edit) o)
  changed_there_off out edit k q None h off = refl
  changed_there_off out edit k q (Some b) h off = changed_off out edit b h off

  pub made_off : (out : Bool) (edit : Edit) (x : Path) → IsSeenEdit root see v out x edit → Off (made_pointers (seen_edit see out edit)) (made_pointers edit)
  made_off out (SetPointer to) x h off = ptr_off to h off
  made_off out (SetHolder holder) x h off = holder_off holder h off
  made_off out (SetTalk talk) x h off = talk_off talk h off
  made_off out (SetPeer peer) x h off = peer_off out peer h.1 off
  made_off out (SetFault fault) x h off = fault_off fault h off
  made_off out (SetTaker taker) x h off = taker_off out taker h.1 off
  made_off out edit x h off = refl

-- ---- the rule

module _ {root : Path} {see : Ptr → Ptr} {small big : World} (like : IsLikeness root see small big) (free : is_frozen big root ≡ false) (me : Path) where
  abbrev far : Ptr → Bool
  far = leads_to_frozen big (me ++ root)

  abbrev near : Ptr → Bool
  near = leads_to_frozen small me

  -- in whatever world it is seen so
  thaws : (v : World) (p seen : Ptr) → PtrLikeness root v p seen → far p ≡ false → near seen ≡ false
  thaws v _ _ Nulls h = refl
  thaws v _ _ Deads h = refl
  thaws v _ _ (Inside x) h = is_frozen_for-like like free me x ∙ h
  thaws v _ _ (PortAt x slot apart port) h = refl
  thaws v _ _ (PortOut old slot) h = refl

  object : (q : Path) → is_frozen_for big (me ++ root) (q ++ root) ≡ false → is_frozen_for small me q ≡ false
  object q h = is_frozen_for-like like free me q ∙ h

  unfrozen : (seen ps : List Ptr) →
      (list_any far ps ≡ false → list_any near seen ≡ false) → are_unfrozen big (me ++ root) ps ≡ true → are_unfrozen small me seen ≡ true
  unfrozen seen ps off h = ap not (off (not_off (list_any far ps) h))

  alter-allowed : (v : World) (out : Bool) (k : ℕ) (q : Path) (edit : Edit) →
      IsSeenEdit root see v out (k ∷ (q ++ root)) edit → MayAlter big (me ++ root) (k ∷ (q ++ root)) edit → MayAlter small me (k ∷ q) (seen_edit see out edit)
  alter-allowed v out k q edit h may = record {
    object = object (k ∷ q) may.object;
    changed = unfrozen (option_list (changed_pointers (seen_edit see out edit)) (small.body (k ∷ q)))
        (option_list (changed_pointers edit) (big.body (k ∷ (q ++ root)))) (rw (like.bodies (k ∷ q))
        (changed_there_off root see big near far refl (λ p. thaws big p (see p)) out edit k q (big.body (k ∷ (q ++ root))) (like.plain k q))) may.changed;
    made = unfrozen (made_pointers (seen_edit see out edit))
        (made_pointers edit) (made_off root see v near far refl (λ p. thaws v p (see p)) out edit (k ∷ (q ++ root)) h) may.made;
  }

  -- ---- what a death sweeps

  leads_off : (x : Path) (p : Ptr) → HasLikeness root see big p → leads_to (x ++ root) p ≡ false → leads_to x (see p) ≡ false
  leads_off x p h off = leads_to-like root big x p (see p) h ∙ off

  set_off : (x : Path) (j : ℕ) (z : Path) (b : Body) → is_in_set (x ++ root) (j ∷ (z ++ root)) b ≡ is_in_set x (j ∷ z) (seen_by (seeing see) b)
  unfolding seen_by
  set_off x j z (Port None served) = refl
  set_off x j z (Port (Some k) served) = same_path_cancel (k ∷ z) x root
  set_off x j z b = refl

  swept_off : (x : Path) (j : ℕ) (z : Path) (o : Option Body) → IfSome o (IsPlainBody see (HasLikeness root see big)) →
      is_swept (x ++ root) (j ∷ (z ++ root)) o ≡ false → is_swept x (j ∷ z) (option_map (λ b. unheld (j ∷ z) (seen_by (seeing see) b)) o) ≡ false
  swept_off x j z None h off = refl
  swept_off x j z (Some b) h off =
      let both = or_off (list_any (leads_to (x ++ root)) (pointers b)) _ off in
      both_off _ _ (body_off root see big (leads_to x) (leads_to (x ++ root)) refl (leads_off x) b h both.0) (sym (set_off x j z b) ∙ both.1)

  serves_less : (x : Path) (out : Bool) (peer : Peer) →
      IfServer out peer (HasLikeness root see big) → serves (x ++ root) peer ≡ false → serves x (seen_peer see out peer) ≡ false
  serves_less x true peer h off = refl
  serves_less x false (Server thread) h off = leads_off x thread h off
  serves_less x false Service h off = refl
  serves_less x false Parked h off = refl

  if_lost : (a b : Bool) (seen ps : List Ptr) → (b ≡ false → a ≡ false) →
      (list_any far ps ≡ false → list_any near seen ≡ false) → list_any far (cond b ps []) ≡ false → list_any near (cond a seen []) ≡ false
  if_lost false b seen ps less off h = refl
  if_lost true true seen ps less off h = off h
  if_lost true false seen ps less off h = let no = less refl in cc

  talk_lost_off : (x : Path) (o : Option Talk) → IfSome o (AllInTalk see (HasLikeness root see big)) →
      list_any far (option_list (talk_lost (x ++ root)) o) ≡ false → list_any near (option_list (talk_lost x) (and_then (seeing see).talk o)) ≡ false
  talk_lost_off x None h off = refl
  talk_lost_off x (Some talk) h off =
      if_lost (leads_to x (see talk.port) || serves x (seen_peer see (is_out (see talk.port)) talk.peer))
      (leads_to (x ++ root) talk.port || serves (x ++ root) talk.peer) _ _
      (λ e. let both = or_off (leads_to (x ++ root) talk.port) _ e in
      both_off _ _ (leads_off x talk.port h.0 both.0) (serves_less x (is_out (see talk.port)) talk.peer h.1 both.1))
      (of_talk_off root see big near far refl (λ p. thaws big p (see p)) talk h) off

  fault_lost_off : (x : Path) (o : Option Fault) → IfSome o (AllInFault see (HasLikeness root see big)) →
      list_any far (option_list (fault_lost (x ++ root)) o) ≡ false → list_any near (option_list (fault_lost x) (and_then (seeing see).fault o)) ≡ false
  fault_lost_off x None h off = refl
  fault_lost_off x (Some fault) h off =
      if_lost (leads_to x (see fault.port))
      (leads_to (x ++ root) fault.port) _ _ (leads_off x fault.port h.0) (of_fault_off root see big near far refl (λ p. thaws big p (see p)) fault h) off

  lost_off : (x : Path) (j : ℕ) (z : Path) (o : Option Body) → IfSome o (IsPlainBody see (HasLikeness root see big)) →
      list_any far (lost_with (x ++ root) o) ≡ false → list_any near (lost_with x (option_map (λ b. unheld (j ∷ z) (seen_by (seeing see) b)) o)) ≡ false
  unfolding seen_by
  lost_off x j z (Some (Thread_of t)) h off =
      joined_off root see big near far refl (λ p. thaws big p (see p))
      (option_list (talk_lost x) (and_then (seeing see).talk t.talk)) (option_list (fault_lost x) (and_then (seeing see).fault t.fault))
      (option_list (talk_lost (x ++ root)) t.talk) (option_list (fault_lost (x ++ root)) t.fault)
      (talk_lost_off x t.talk h.0) (fault_lost_off x t.fault h.1) off
  lost_off x j z (Some b) h off = refl
  lost_off x j z None h off = refl

  by_sweep : (a b c d : Bool) → (b ≡ false → a ≡ false) → (d ≡ true → c ≡ true) → (not b || d) ≡ true → (not a || c) ≡ true
  by_sweep false b c d less more h = refl
  by_sweep true true c d less more h = more h
  by_sweep true false c d less more h = let no = less refl in cc

  may_be_swept-like : (x q : Path) → ((z : Path) → may_be_swept big (me ++ root) (x ++ root) z ≡ true) → may_be_swept small me x q ≡ true
  may_be_swept-like x [] may = rw (root_seen like) refl
  may_be_swept-like x (j ∷ z) may =
      by_sweep (is_swept x (j ∷ z) (small.body (j ∷ z))) (is_swept (x ++ root) (j ∷ (z ++ root)) (big.body (j ∷ (z ++ root))))
      _ (not (is_frozen_for big (me ++ root) (j ∷ (z ++ root))) && are_unfrozen big (me ++ root) (lost_with (x ++ root) (big.body (j ∷ (z ++ root)))))
      (λ off. rw (like.bodies (j ∷ z)) (swept_off x j z (big.body (j ∷ (z ++ root))) (like.plain j z) off))
      (λ both.
      let parts = and_parts (not (is_frozen_for big (me ++ root) (j ∷ (z ++ root)))) _ both in
      and_from _ _ (ap not (object (j ∷ z) (not_off _ parts.0)))
      (unfrozen (lost_with x (small.body (j ∷ z))) (lost_with (x ++ root) (big.body (j ∷ (z ++ root))))
      (λ off. rw (like.bodies (j ∷ z)) (lost_off x j z (big.body (j ∷ (z ++ root))) (like.plain j z) off)) parts.1))
      (may (j ∷ (z ++ root)))

  may_follow-like : (x q : Path) → ((z : Path) → may_follow big (me ++ root) (x ++ root) z ≡ true) → may_follow small me x q ≡ true
  may_follow-like x [] may = rw (root_seen like) refl
  may_follow-like x (j ∷ z) may =
      by_sweep (is_swept x (j ∷ z) (small.body (j ∷ z)))
      (is_swept (x ++ root) (j ∷ (z ++ root)) (big.body (j ∷ (z ++ root)))) _ (not (is_frozen_for big (me ++ root) (j ∷ (z ++ root))))
      (λ off. rw (like.bodies (j ∷ z)) (swept_off x j z (big.body (j ∷ (z ++ root))) (like.plain j z) off))
      (λ free. ap not (object (j ∷ z) (not_off _ free)))
      (may (j ∷ (z ++ root)))

  body_there_off : (k : ℕ) (q : Path) (o : Option Body) → IfSome o (IsPlainBody see (HasLikeness root see big)) →
      list_any far (body_pointers o) ≡ false → list_any near (body_pointers (option_map (λ b. unheld (k ∷ q) (seen_by (seeing see) b)) o)) ≡ false
  body_there_off k q None h off = refl
  body_there_off k q (Some b) h off = body_off root see big near far refl (λ p. thaws big p (see p)) b h off

  change-allowed : (v : World) (c d : Change) → LikeChange root see v c d → IsAllowed big (me ++ root) d → IsAllowed small me c
  change-allowed v _ _ (Alters k q seen edit e h) may = rw e (alter-allowed v false k q edit h may)
  change-allowed v _ _ (AltersOut k q seen edit e h) may = rw e (alter-allowed v true k q edit h may)
  change-allowed v _ _ (Makes k q seen body e h) may = rw e (record {
    object = object (k ∷ q) may.object;
    made = unfrozen (pointers (seen_by (seeing see) body)) (pointers body) (body_off root see v near far refl (λ p. thaws v p (see p)) body h) may.made;
  })
  change-allowed v _ _ (MakesSpace k q seen holder e h) may =
      rw e (record {
        object = object (k ∷ q) may.object;
        made = unfrozen (option_list (λ p. p ∷ []) (and_then (seeing see).holder holder))
            (option_list (λ p. p ∷ []) holder) (holder_off root see v near far refl (λ p. thaws v p (see p)) holder h) may.made;
      })
  change-allowed v _ _ (Kills k q apart) may = record {
    object = object (k ∷ q) may.object;
    changed = unfrozen (body_pointers (small.body (k ∷ q))) (body_pointers (big.body (k ∷ (q ++ root))))
        (λ off. rw (like.bodies (k ∷ q)) (body_there_off k q (big.body (k ∷ (q ++ root))) (like.plain k q) off)) may.changed;
    others = λ z. may_be_swept-like (k ∷ q) z may.others;
  }
  change-allowed v _ _ (Moves k q slot) may = record { object = object (k ∷ q) may.object; others = λ z. may_follow-like (k ∷ q) z may.others }
  change-allowed v _ _ (PutsPage q page words) may = object q may
  change-allowed v _ _ (DropsPage q page) may = object q may

  pub changes-allowed : (v : World) (cs ds : List Change) → LikeChanges root see v cs ds → AreAllowed big (me ++ root) ds → AreAllowed small me cs
  changes-allowed v _ _ Empty may = tt
  changes-allowed v _ _ (Both {c = c} {d = d} h hs) may = (change-allowed v c d h may.0, changes-allowed (apply d v) _ _ hs may.1)
  changes-allowed v _ _ (Beyond {d = d} out hs) may = changes-allowed (apply d v) _ _ hs may.1
