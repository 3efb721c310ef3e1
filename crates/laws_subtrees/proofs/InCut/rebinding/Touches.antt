-- The law of rebinding for what the outside does to a subtree: with other outward ports it is done in the same way.
use Rattle.std.proofs.Common.{◌≡◌, ℕ, ◌%◌, eqb, leb, ltb, min, Bool, true, false, cond, ◌&&◌, List, [], ◌∷◌, ◌++◌, map, length, Option, Some, None, is_none}
use Rattle.std.proofs.Common.{not}
use Rattle.std.proofs.Common.{is_some, option_map, refl, sym, ap, subst, ◌∙◌, append-nil}
use Rattle.std.proofs.lemmas.Bool.{and_parts}
use Rattle.fk_model.specs.declared.limits.TheConstants.{PAGE_WORDS, BLOCK_WORDS}
use Rattle.fk_model.specs.declared.statuses.status.TheConstants.{FULL, ENDED}
use Rattle.fk_model.specs.declared.thread.Turn.TheVariants as turns
use Rattle.fk_model.specs.Searches.{fault_at, thread_at}
use Rattle.fk_model.specs.Places.{Path, Ptr}
use Rattle.fk_model.specs.Places.Ptr.{Outside, At, Dead, Far, Null, Out}
use Rattle.fk_model.specs.Objects.{Peer, Talk, Fault, Thread, Body, space_of, and_then, holds, kind_of, reference_of}
use Rattle.fk_model.specs.Objects.Peer.{Server}
use Rattle.fk_model.specs.Objects.Body.{Space, Reference}
use Rattle.fk_model.specs.World.{World, apply_all}
use Rattle.fk_model.specs.World.Change.{Alter}
use Rattle.fk_model.specs.World.Edit.{Shift, Finish, End, SetTalk, CountMoved, PassTurn, SetFault, SetTaker, SetPointer}
use Rattle.fk_model.specs.Reach.{words_at}
use Rattle.fk_model.specs.Holds.{is_free, is_unheld, is_frozen}
use Rattle.fk_model.specs.Outcomes.{Outcome, when}
use Rattle.fk_model.specs.Outcomes.Outcome.{Refused, Waits, Goes}
use Rattle.fk_model.specs.Talks.{same_side, receiving, is_talking, awaited}
use Rattle.fk_model.specs.TransferRows.{overwritten, to_page_end, taken_answers}
use Rattle.fk_model.specs.LinkRows.{new_talk}
use Rattle.fk_model.specs.Cut.{is_out, seen_by, unheld, is_far, is_outer}
use Rattle.fk_model.specs.Further.{Touch, Told, is_outside, on_found, is_outside_talk, taken_at, if_awaiting, given_at, given_to, left_by_peer, handed_with}
use Rattle.fk_model.specs.Further.{is_named}
use Rattle.fk_model.specs.Further.{fault_taken_outside, done_fault, touch_row, onward_row, OnwardTo, leads_to_held, may_take}
use Rattle.fk_model.specs.Further.Touch.{Taken, Given, Filled, Handed, Left, FaultTaken, FaultDone, PageGiven, PageTaken, HandedWith}
use Rattle.fk_model.specs.Further.Onward.{ByOthers}
use Rattle.fk_model.specs.Rebind.{rebound_ptr, rebound, rebound_told, rebound_move, touch_by}
use Rattle.laws_subtrees.specs.Cut.Likeness.{seeing, seen_peer, seen_talk, seen_fault, seen_thread, IsLikeness, IsCutWorld, AlikeOptions, IsSeenAs}
use Rattle.laws_subtrees.specs.Cut.Likeness.{IsSeenThread, HasLikeness}
use Rattle.laws_subtrees.specs.Cut.Likeness.{PtrLikeness}
use Rattle.laws_subtrees.specs.Cut.LikeChanges.{LikeChanges, IsLikeOutcome, HasFaultSeen}
use Rattle.laws_subtrees.specs.Cut.LikeChanges.LikeChange.{Alters, AltersOut, PutsPage, DropsPage}
use Rattle.laws_subtrees.specs.Cut.LikeChanges.LikeChanges.{Empty, Both}
use Rattle.laws_subtrees.specs.Cut.RebindLaws.{TouchRebinds}
use Rattle.laws_subtrees.proofs.InCut.likeness.Instances.{rebound-like}
use Rattle.laws_subtrees.proofs.InCut.likeness.Memory.{root_space, root_seen, words_at-like}
use Rattle.laws_subtrees.proofs.InCut.likeness.Holds.{is_unheld-like, is_free-like, is_frozen-like}
use Rattle.laws_subtrees.proofs.InCut.likeness.Talks.{thread_there-like}
use Rattle.laws_subtrees.proofs.InCut.likeness.Waits.{connecting_to-like}
use Rattle.laws_subtrees.proofs.InCut.likeness.Outcomes.{their_page-like}
use Rattle.laws_subtrees.proofs.InCut.likeness.ChangeLists.{changes-like}
use Rattle.laws_subtrees.proofs.InCut.rebinding.Freedom.{out_kept, top_free, far_kept, outer_kept}
use Rattle.laws_subtrees.proofs.InCut.rebinding.Rebound.{stays_alone, same_likeness, rebinds_from}
use Rattle.laws_subtrees.specs.Cut.Likeness.PtrLikeness.{Deads, Inside, Nulls, PortOut}
use Rattle.fk_model.specs.Valid.{is_one_of, kind_there}
use Rattle.laws_subtrees.proofs.InCut.likeness.Reads.{kind-there}
use Rattle.fk_model.specs.StateRows.{referable}
use Rattle.laws_subtrees.proofs.InCut.likeness.Sends.{receiving-like}
use Rattle.fk_model.specs.Runs.{after}

-- ---- who is outside, in a world that is all inside

-- a thread of a cut world has its talk and its fault as a cut shows them
thread_shown : (c : World) → IsCutWorld c → (x : Path) (t : Thread) → thread_at c x ≡ Some t → t ≡ seen_thread (λ p. p) t
thread_shown c world x t is = by (thread_at c x) (thread_at c (x ++ [])) is (ap (thread_at c) (append-nil x) ∙ is) (thread_there-like world x)
  where
    the_one : (a b : Thread) → Some a ≡ Some b → a ≡ b
    the_one a b h = cc

    by : (o p : Option Thread) → o ≡ Some t → p ≡ Some t → AlikeOptions (IsSeenThread [] (λ p. p) c) o p → t ≡ seen_thread (λ p. p) t
    by (Some seen) (Some u) e f h = sym (the_one seen t e) ∙ h.0 ∙ ap (seen_thread (λ p. p)) (the_one u t f)
    by None (Some u) e f h = cc
    by None None e f h = cc
    by (Some seen) None e f h = cc

talk_shown : (t : Thread) → t ≡ seen_thread (λ p. p) t → (talk : Talk) → t.talk ≡ Some talk → talk.peer ≡ seen_peer (λ p. p) (is_out talk.port) talk.peer
talk_shown t shown talk is =
    let both : Some talk ≡ Some (seen_talk (λ p. p) talk) = sym is ∙ ap (λ (u : Thread). u.talk) shown ∙ ap (and_then (seeing (λ p. p)).talk) is in
    ap (λ (v : Talk). v.peer) (the_one talk (seen_talk (λ p. p) talk) both)
  where
    the_one : (a b : Talk) → Some a ≡ Some b → a ≡ b
    the_one a b h = cc

fault_shown : (t : Thread) →
    t ≡ seen_thread (λ p. p) t → (fault : Fault) → t.fault ≡ Some fault → fault.taker ≡ option_map (seen_peer (λ p. p) (is_out fault.port)) fault.taker
fault_shown t shown fault is =
    let both : Some fault ≡ Some (seen_fault (λ p. p) fault) = sym is ∙ ap (λ (u : Thread). u.fault) shown ∙ ap (and_then (seeing (λ p. p)).fault) is in
    ap (λ (v : Fault). v.taker) (the_one fault (seen_fault (λ p. p) fault) both)
  where
    the_one : (a b : Fault) → Some a ≡ Some b → a ≡ b
    the_one a b h = cc

module _ {see : Ptr → Ptr} {small c : World} (like : IsLikeness [] see small c) (outs : (p : Ptr) → is_out (see p) ≡ is_out p)
    (fars : (p : Ptr) → is_far (see p) ≡ is_far p)
    (outers : (p : Ptr) → is_outer (see p) ≡ is_outer p) (world : IsCutWorld c) where
  abbrev Alike : Outcome → Outcome → Type 0
  Alike = IsLikeOutcome [] see c

  -- ---- tests are alike

  both_out : (talk : Talk) → talk.peer ≡ seen_peer (λ p. p) (is_out talk.port) talk.peer → is_outside_talk (seen_talk see talk) ≡ is_outside_talk talk
  both_out talk shown = rw (outs talk.port) (by (is_out talk.port) shown)
    where
      by : (b : Bool) → talk.peer ≡ seen_peer (λ p. p) b talk.peer → (b && is_outside (seen_peer see b talk.peer)) ≡ (b && is_outside talk.peer)
      by true e = sym (ap is_outside e)
      by false e = refl

  talk_test : (f : Talk → Bool) → ((talk : Talk) → f (seen_talk see talk) ≡ f talk) → (t : Thread) → t ≡ seen_thread (λ p. p) t →
      holds (λ (talk : Talk). is_outside_talk talk && f talk) (seen_thread see t).talk ≡ holds (λ (talk : Talk). is_outside_talk talk && f talk) t.talk
  talk_test f same t shown = by t.talk refl
    where
      by : (o : Option Talk) → t.talk ≡ o →
          holds (λ (talk : Talk). is_outside_talk talk && f talk) (and_then (seeing see).talk o) ≡ holds (λ (talk : Talk). is_outside_talk talk && f talk) o
      by None e = refl
      by (Some talk) e = rw (both_out talk (talk_shown t shown talk e), same talk) refl

  talk_out : (t : Thread) → t ≡ seen_thread (λ p. p) t → holds is_outside_talk (seen_thread see t).talk ≡ holds is_outside_talk t.talk
  talk_out t shown = by t.talk refl
    where
      by : (o : Option Talk) → t.talk ≡ o → holds is_outside_talk (and_then (seeing see).talk o) ≡ holds is_outside_talk o
      by None e = refl
      by (Some talk) e = both_out talk (talk_shown t shown talk e)

  -- ---- rows by a thread

  on_thread : (k : ℕ) (q : Path) (near far : Thread → Outcome) →
      ((t : Thread) → thread_at c (k ∷ (q ++ [])) ≡ Some t → t ≡ seen_thread (λ p. p) t → Alike (near (seen_thread see t)) (far t)) →
      Alike (on_found near (thread_at small (k ∷ q))) (on_found far (thread_at c (k ∷ (q ++ []))))
  on_thread k q near far go = by (thread_at small (k ∷ q)) (thread_at c (k ∷ (q ++ []))) refl (thread_there-like like (k ∷ q))
    where
      by : (o p : Option Thread) → thread_at c (k ∷ (q ++ [])) ≡ p → AlikeOptions (IsSeenThread [] see c) o p → Alike (on_found near o) (on_found far p)
      by None None e h = tt
      by (Some seen) (Some t) e h = rw h.0 (go t e (thread_shown c world (k ∷ (q ++ [])) t e))
      by None (Some t) e h = absurd h
      by (Some seen) None e h = absurd h

  no_root : (near far : Thread → Outcome) → Alike (on_found near (thread_at small [])) (on_found far (thread_at c []))
  no_root near far = rw ((root_space like).2, root_seen like) tt

  when_so : (a b : Bool) (near far : Outcome) → a ≡ b → (b ≡ true → Alike near far) → Alike (when a near) (when b far)
  when_so a true near far e h = rw e (h refl)
  when_so a false near far e h = rw e tt

  free_here : (q : Path) (t : Thread) → is_free small q (seen_thread see t) ≡ is_free c (q ++ []) t
  free_here q t = is_free-like like (top_free c world) q t

  taken_here : (k : ℕ) (q : Path) (o p : Option Ptr) →
      AlikeOptions (IsSeenAs [] see c) o p → Alike (on_found (taken_at small (k ∷ q)) o) (on_found (taken_at c (k ∷ (q ++ []))) p)
  taken_here k q None None h = tt
  taken_here k q (Some seen) (Some p) h = rw h.0 (when_so (is_out (see p)) (is_out p) _ _ (outs p)
      (λ on.
      let out : is_out (see p) ≡ true = outs p ∙ on in
      Both (Alters k q (SetTalk (Some (new_talk (see p) (Server Outside)))) (SetTalk (Some (new_talk p (Server Outside)))) (rw out refl) (h.1, rw out tt))
      (Both (Alters k q _ (Finish []) refl tt) Empty)))
  taken_here k q None (Some p) h = absurd h
  taken_here k q (Some seen) None h = absurd h

  awaiting : (k : ℕ) (q : Path) (near far : ℕ × ℕ → Outcome) → ((receive : ℕ × ℕ) → Alike (near receive) (far receive)) →
      (t : Thread) → t ≡ seen_thread (λ p. p) t → Alike (if_awaiting small (k ∷ q) near (seen_thread see t)) (if_awaiting c (k ∷ (q ++ [])) far t)
  awaiting k q near far go t shown =
      when_so _ (is_free c (q ++ []) t && holds (λ (talk : Talk). is_outside_talk talk && same_side talk.turn turns.Server) t.talk)
      (on_found near (receiving small q turns.Client t.mode)) (on_found far (receiving c (q ++ []) turns.Client t.mode))
      (rw (free_here q t, talk_test (λ (talk : Talk). same_side talk.turn turns.Server) (λ talk. refl) t shown) refl)
      (λ on. rw (receiving-like like q turns.Client t.mode) (by (receiving c (q ++ []) turns.Client t.mode)))
    where
      by : (o : Option (ℕ × ℕ)) → Alike (on_found near o) (on_found far o)
      by None = tt
      by (Some receive) = go receive

  same_test : (b : Bool) (near far : Outcome) → Alike near far → Alike (when b near) (when b far)
  same_test b near far h = when_so b b near far refl (λ on. h)

  given_here : (k : ℕ) (q : Path) (words : List ℕ) (receive : ℕ × ℕ) → Alike (given_to small (k ∷ q) words receive) (given_to c (k ∷ (q ++ [])) words receive)
  given_here k q words receive =
      same_test (ltb 0 (length words) && leb (length words) (min BLOCK_WORDS (min receive.1 (to_page_end receive.0)))) _ _
      (their_page-like like q receive.0 (λ s page. when (is_unheld small s) (given_at small (k ∷ q) words receive.0 s page))
      (λ s page. when (is_unheld c s) (given_at c (k ∷ (q ++ [])) words receive.0 s page))
      (λ s page. when_so (is_unheld small s) (is_unheld c (s ++ [])) _ _ (is_unheld-like like (top_free c world) s)
      (λ on. rw (words_at-like like s page) (Both (PutsPage s page (overwritten (words_at c (s ++ []) page) (receive.0 % PAGE_WORDS) words))
      (Both (Alters k q _ (CountMoved (length words)) refl tt) (Both (Alters k q _ (Shift (length words)) refl tt) Empty))))))

  left_here : (k : ℕ) (q : Path) (t : Thread) → t ≡ seen_thread (λ p. p) t → Alike (left_by_peer (k ∷ q) (seen_thread see t)) (left_by_peer (k ∷ (q ++ [])) t)
  left_here k q t shown = when_so _ (holds is_outside_talk t.talk) _ _ (talk_out t shown) (λ on. by (is_talking turns.Client t.mode))
    where
      by : (b : Bool) → LikeChanges [] see c (cond b (Alter (k ∷ q) (End ENDED []) ∷ []) [] ++ Alter (k ∷ q) (SetTalk None) ∷ [])
          (cond b (Alter (k ∷ (q ++ [])) (End ENDED []) ∷ []) [] ++ Alter (k ∷ (q ++ [])) (SetTalk None) ∷ [])
      by true = Both (Alters k q _ (End ENDED []) refl tt) (Both (Alters k q _ (SetTalk None) refl tt) Empty)
      by false = Both (Alters k q _ (SetTalk None) refl tt) Empty

  -- ---- faults

  none_seen : (f : Peer → Peer) (o : Option Peer) → is_none (option_map f o) ≡ is_none o
  none_seen f None = refl
  none_seen f (Some taker) = refl

  raised_same : (o : Option Fault) → holds (λ (fault : Fault). is_out fault.port && is_none fault.taker)
      (and_then (seeing see).fault o) ≡ holds (λ (fault : Fault). is_out fault.port && is_none fault.taker) o
  raised_same None = refl
  raised_same (Some fault) = rw (outs fault.port, none_seen _ fault.taker) refl

  taken_out : (x : Path) (o : Option Fault) →
      fault_at c x ≡ o → holds (λ (fault : Fault). is_out fault.port && is_none fault.taker) o ≡ true → HasFaultSeen see c true x
  taken_out x None e h = cc
  taken_out x (Some fault) e h = (fault, e, outs fault.port ∙ (and_parts (is_out fault.port) (is_none fault.taker) h).0)

  held_same : (fault : Fault) → fault.taker ≡ option_map (seen_peer (λ p. p) (is_out fault.port)) fault.taker → (is_out (see fault.port)
      && holds is_outside (option_map (seen_peer see (is_out (see fault.port))) fault.taker)) ≡ (is_out fault.port && holds is_outside fault.taker)
  held_same fault shown = rw (outs fault.port) (by (is_out fault.port) fault.taker shown)
    where
      by : (b : Bool) (o : Option Peer) →
          o ≡ option_map (seen_peer (λ p. p) b) o → (b && holds is_outside (option_map (seen_peer see b) o)) ≡ (b && holds is_outside o)
      by false o e = refl
      by true None e = refl
      by true (Some taker) e = sym (ap (holds is_outside) e)

  fault_taken_here : (k : ℕ) (q : Path) (t : Thread) →
      thread_at c (k ∷ (q ++ [])) ≡ Some t → Alike (fault_taken_outside small (k ∷ q) (seen_thread see t)) (fault_taken_outside c (k ∷ (q ++ [])) t)
  fault_taken_here k q t is =
      when_so (is_unheld small q && holds (λ (fault : Fault). is_out fault.port && is_none fault.taker) (and_then (seeing see).fault t.fault))
      (is_unheld c (q ++ []) && holds (λ (fault : Fault). is_out fault.port && is_none fault.taker) t.fault)
      _ _ (rw (is_unheld-like like (top_free c world) q, raised_same t.fault) refl)
      (λ on. Both (AltersOut k q _ (SetTaker (Some (Server Outside)))
      refl (taken_out (k ∷ (q ++ [])) t.fault (ap (and_then (λ (t : Thread). t.fault)) is) (and_parts (is_unheld c (q ++ [])) _ on).1, tt)) Empty)

  fault_done_here : (k : ℕ) (q : Path) (t : Thread) →
      t ≡ seen_thread (λ p. p) t → Alike (done_fault small (k ∷ q) (seen_thread see t)) (done_fault c (k ∷ (q ++ [])) t)
  fault_done_here k q t shown =
      when_so (is_unheld small q && holds (λ (fault : Fault). is_out fault.port && holds is_outside fault.taker) (and_then (seeing see).fault t.fault))
      (is_unheld c (q ++ []) && holds (λ (fault : Fault). is_out fault.port && holds is_outside fault.taker) t.fault)
      _ _ (rw (is_unheld-like like (top_free c world) q, by t.fault refl) refl) (λ on. Both (Alters k q _ (SetFault None) refl tt) Empty)
    where
      by : (o : Option Fault) → t.fault ≡ o → holds (λ (fault : Fault). is_out fault.port && holds is_outside fault.taker)
          (and_then (seeing see).fault o) ≡ holds (λ (fault : Fault). is_out fault.port && holds is_outside fault.taker) o
      by None e = refl
      by (Some fault) e = held_same fault (fault_shown t shown fault e)

  -- ---- pages

  space_here : (q : Path) (o : Option Body) →
      is_some (and_then space_of (option_map (λ b. unheld q (seen_by (seeing see) b)) o)) ≡ is_some (and_then space_of o)
  unfolding seen_by
  space_here [] (Some (Space birth holder)) = refl
  space_here (k ∷ q) (Some (Space birth holder)) = refl
  space_here q (Some b) = refl
  space_here q None = refl

  -- ---- a pointer that is handed over

  see_at : (y : Path) → see (At y) ≡ At y
  see_at y = ap (λ (x : Path). see (At x)) (sym (append-nil y)) ∙ like.within y

  kind_same : (y : Path) → kind_there small y ≡ kind_there c y
  unfolding kind_there
  kind_same y = kinds_map (small.body y) ∙ kind-there like y ∙ sym (kinds_map (c.body (y ++ []))) ∙ ap (λ (x : Path). option_map kind_of (c.body x))
      (append-nil y)
    where
      kinds_map : (o : Option Body) → option_map kind_of o ≡ and_then (λ b. Some (kind_of b)) o
      kinds_map None = refl
      kinds_map (Some b) = refl

  out_nowhere : (s : Ptr) → is_out s ≡ true → leads_to_held small s ≡ false
  out_nowhere (Out i) h = refl
  out_nowhere (At x) h = cc
  out_nowhere s h = refl

  far_nowhere : (s : Ptr) → is_far s ≡ true → leads_to_held small s ≡ false
  far_nowhere Far h = refl
  far_nowhere (At x) h = cc
  far_nowhere s h = refl

  outer_nowhere : (s : Ptr) → is_outer s ≡ true → leads_to_held small s ≡ false
  outer_nowhere Outside h = refl
  outer_nowhere (At x) h = cc
  outer_nowhere s h = refl

  held_same_ptr : (p : Ptr) → leads_to_held small (see p) ≡ leads_to_held c p
  held_same_ptr (At y) = rw (see_at y) (is_frozen-like like (top_free c world) y ∙ ap (is_frozen c) (append-nil y))
  held_same_ptr Null = rw like.null refl
  held_same_ptr Dead = rw like.dead refl
  held_same_ptr (Out i) = out_nowhere (see (Out i)) (outs (Out i))
  held_same_ptr Far = far_nowhere (see Far) (fars Far)
  held_same_ptr Outside = outer_nowhere (see Outside) (outers Outside)

  out_named : (s : Ptr) → is_out s ≡ true → is_named small s ≡ true
  out_named (Out i) h = refl
  out_named s h = cc

  far_unnamed : (s : Ptr) → is_far s ≡ true → is_named small s ≡ false
  far_unnamed Far h = refl
  far_unnamed s h = cc

  outer_unnamed : (s : Ptr) → is_outer s ≡ true → is_named small s ≡ false
  outer_unnamed Outside h = refl
  outer_unnamed s h = cc

  named_same : (p : Ptr) → is_named small (see p) ≡ is_named c p
  named_same (At y) = rw (see_at y) (ap (is_one_of referable) (kind_same y))
  named_same Null = rw like.null refl
  named_same Dead = rw like.dead refl
  named_same (Out i) = out_named (see (Out i)) (outs (Out i))
  named_same Far = far_unnamed (see Far) (fars Far)
  named_same Outside = outer_unnamed (see Outside) (outers Outside)

  replaced_same : (q : Path) (i : ℕ) → holds (leads_to_held small) (and_then reference_of (small.body (i ∷ q))) ≡
      holds (leads_to_held c) (and_then reference_of (c.body (i ∷ (q ++ []))))
  unfolding seen_by
  replaced_same q i = rw (like.bodies (i ∷ q)) (by (c.body (i ∷ (q ++ []))))
    where
      by : (o : Option Body) → holds (leads_to_held small) (and_then reference_of (option_map (λ b. unheld (i ∷ q) (seen_by (seeing see) b)) o)) ≡
          holds (leads_to_held c) (and_then reference_of o)
      by None = refl
      by (Some (Reference to)) = held_same_ptr to
      by (Some b) = refl

  may_take_same : (q : Path) (p : Ptr) (i : ℕ) → may_take small q (see p) i ≡ may_take c (q ++ []) p i
  may_take_same q p i = rw (named_same p, held_same_ptr p, replaced_same q i) refl

  port_out : (i : ℕ) (s : Ptr) → is_out s ≡ true → PtrLikeness [] c (Out i) s
  port_out i (Out j) h = PortOut i j
  port_out i s h = cc

  named_like : (p : Ptr) → is_named c p ≡ true → HasLikeness [] see c p
  named_like (At y) on = rw (see_at y) (subst (λ (x : Path). PtrLikeness [] c (At x) (At y)) (append-nil y) (Inside y))
  named_like Null on = rw like.null Nulls
  named_like Dead on = rw like.dead Deads
  named_like (Out i) on = port_out i (see (Out i)) (outs (Out i))
  named_like Far on = cc
  named_like Outside on = cc

  handed_here : (k : ℕ) (q : Path) (p : Ptr) (to : Option ℕ) (receive : ℕ × ℕ) →
      Alike (handed_with small (k ∷ q) (see p) to receive) (handed_with c (k ∷ (q ++ [])) p to receive)
  handed_here k q p None receive = tt
  handed_here k q p (Some i) receive = when_so (may_take small q (see p) i) (may_take c (q ++ []) p i) _ _ (may_take_same q p i)
      (λ on. Both (Alters i q _ (SetPointer p) refl (named_like p (and_parts (is_named c p) _ (and_parts (is_named c p && not (leads_to_held c p)) _ on).0).0))
      (Both (Alters k q _ (PassTurn turns.Client) refl tt) (Both (Alters k q _ (Finish (1 ∷ [])) refl tt) Empty)))

  -- ---- every touch

  touch-like : (touch : Touch) → Alike (touch_row small (touch_by see touch)) (touch_row c touch)
  unfolding touch_row
  touch-like (Taken []) = no_root _ _
  touch-like (Taken (k ∷ q)) = subst (λ (y : Path). Alike (touch_row small (Taken (k ∷ q))) (touch_row c (Taken (k ∷ y)))) (append-nil q)
      (on_thread k q _ _ (λ t is shown.
      when_so (is_free small q (seen_thread see t)) (is_free c (q ++ []) t) _ _ (free_here q t) (λ on. taken_here k q _ _ (connecting_to-like like k q t))))
  touch-like (Given [] words) = no_root _ _
  touch-like (Given (k ∷ q) words) = subst (λ (y : Path). Alike (touch_row small (Given (k ∷ q) words)) (touch_row c (Given (k ∷ y) words)))
      (append-nil q) (on_thread k q _ _ (λ t is shown. awaiting k q _ _ (given_here k q words) t shown))
  touch-like (Filled []) = no_root _ _
  touch-like (Filled (k ∷ q)) = subst (λ (y : Path). Alike (touch_row small (Filled (k ∷ q))) (touch_row c (Filled (k ∷ y)))) (append-nil q)
      (on_thread k
      q _ _ (λ t is shown. awaiting k q _ _ (λ receive. same_test (eqb receive.1 0) _ _ (Both (Alters k q _ (End FULL []) refl tt) Empty)) t shown))
  touch-like (Handed []) = no_root _ _
  touch-like (Handed (k ∷ q)) = subst (λ (y : Path). Alike (touch_row small (Handed (k ∷ q))) (touch_row c (Handed (k ∷ y)))) (append-nil q)
      (on_thread k q _ _ (λ t is shown.
      awaiting k q _ _ (λ receive. Both (Alters k q _ (PassTurn turns.Client) refl tt)
      (Both (Alters k q _ (Finish (taken_answers (awaited t.mode) None)) refl tt) Empty)) t shown))
  touch-like (HandedWith [] p) = no_root _ _
  touch-like (HandedWith (k ∷ q) p) =
      subst (λ (y : Path). Alike (touch_row small (HandedWith (k ∷ q) (see p))) (touch_row c (HandedWith (k ∷ y) p))) (append-nil q)
      (on_thread k q _ _ (λ t is shown. awaiting k q _ _ (handed_here k q p (awaited t.mode)) t shown))
  touch-like (Left []) = no_root _ _
  touch-like (Left (k ∷ q)) = subst (λ (y : Path). Alike (touch_row small (Left (k ∷ q))) (touch_row c (Left (k ∷ y))))
      (append-nil q) (on_thread k q _ _ (λ t is shown. left_here k q t shown))
  touch-like (FaultTaken []) = no_root _ _
  touch-like (FaultTaken (k ∷ q)) = subst (λ (y : Path). Alike (touch_row small (FaultTaken (k ∷ q))) (touch_row c (FaultTaken (k ∷ y))))
      (append-nil q) (on_thread k q _ _ (λ t is shown. fault_taken_here k q t is))
  touch-like (FaultDone []) = no_root _ _
  touch-like (FaultDone (k ∷ q)) = subst (λ (y : Path). Alike (touch_row small (FaultDone (k ∷ q))) (touch_row c (FaultDone (k ∷ y))))
      (append-nil q) (on_thread k q _ _ (λ t is shown. fault_done_here k q t shown))
  touch-like (PageGiven q page words) =
      subst (λ (y : Path). Alike (touch_row small (PageGiven q page words)) (touch_row c (PageGiven y page words))) (append-nil q)
      (when_so (is_some (and_then space_of (small.body q)) && is_none (small.page q page)) (is_some (and_then space_of (c.body (q ++ [])))
      && is_none (c.page (q ++ []) page)) _ _ (rw (like.bodies q, like.pages q page, space_here q (c.body (q ++ []))) refl)
      (λ on. Both (PutsPage q page words) Empty))
  touch-like (PageTaken q page) = subst (λ (y : Path). Alike (touch_row small (PageTaken q page)) (touch_row c (PageTaken y page))) (append-nil q)
      (when_so (is_some (small.page q page)) (is_some (c.page (q ++ []) page)) _ _ (rw (like.pages q page) refl) (λ on. Both (DropsPage q page) Empty))

-- ---- the law

module _ (bind : ℕ → ℕ) (c : World) (world : IsCutWorld c) (touch : Touch) where
  touch_gone : (near far : Outcome) → IsLikeOutcome [] (rebound_ptr bind) c near far → IsLikeOutcome [] (λ p. p) c far far →
      (told : List Told) (later : World) →
      OnwardTo c (ByOthers touch) far told later → OnwardTo (rebound bind c) (rebound_move bind (ByOthers touch)) near (map (rebound_told bind) told)
      (rebound bind later)
  touch_gone (Goes cs was) (Goes ds said) h again told later onward =
      let now : World = apply_all ds c in
      let world_now : IsCutWorld now = changes-like c c ds ds again world in
      let same : rebound bind now ≡ apply_all cs (rebound bind c) = same_likeness [] (rebound_ptr bind) (rebound bind now) (apply_all cs (rebound bind c))
      now (rebound-like bind (λ p. p) [] now now world_now) (changes-like (rebound bind c) c cs ds h (rebound-like bind (λ p. p) [] c c world)) in
      (tt, ap (map (rebound_told bind)) onward.1, ap (rebound bind) onward.2 ∙ same)
  touch_gone near Waits h again told later onward = absurd onward
  touch_gone near (Refused status) h again told later onward = absurd onward
  touch_gone (Refused status) (Goes ds said) h again told later onward = absurd h
  touch_gone Waits (Goes ds said) h again told later onward = absurd h

  touch_back : (near far : Outcome) → IsLikeOutcome [] (rebound_ptr bind) c near far → (heard : List Told) (after : World) →
      OnwardTo (rebound bind c) (rebound_move bind (ByOthers touch)) near heard after → (told : List Told) × (later : World) × OnwardTo c
      (ByOthers touch) far told later
  touch_back (Goes cs was) (Goes ds said) h heard after onward = ([], apply_all ds c, (tt, refl, refl))
  touch_back Waits far h heard after onward = absurd onward
  touch_back (Refused status) far h heard after onward = absurd onward
  touch_back (Goes cs was) Waits h heard after onward = absurd h
  touch_back (Goes cs was) (Refused refusal) h heard after onward = absurd h

same_touch : (touch : Touch) → touch_by (λ p. p) touch ≡ touch
same_touch (HandedWith x p) = refl
same_touch touch = refl

pub touch_rebinds : TouchRebinds
unfolding onward_row
touch_rebinds c touch bind world =
    let alike = touch-like (rebound-like bind (λ p. p) [] c c world) (out_kept bind) (far_kept bind) (outer_kept bind) world touch in
    let again = subst (λ (m : Touch). IsLikeOutcome [] (λ p. p) c (touch_row c m) (touch_row c touch)) (same_touch touch)
    (touch-like world (λ p. refl) (λ p. refl) (λ p. refl) world touch) in
    rebinds_from bind c (ByOthers touch) (touch_row (rebound bind c) (touch_by (rebound_ptr bind) touch)) (touch_row c touch) refl refl
    (touch_gone bind c world touch (touch_row (rebound bind c) (touch_by (rebound_ptr bind) touch)) (touch_row c touch) alike again)
    (touch_back bind c world touch (touch_row (rebound bind c) (touch_by (rebound_ptr bind) touch)) (touch_row c touch) alike)
    (stays_alone c world (ByOthers touch) (touch_row c touch) again)
