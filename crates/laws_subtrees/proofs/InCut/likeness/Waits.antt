-- What a wait looks for is found alike in a likeness: the slots of a set's ports, and the candidates.
use Rattle.std.proofs.Common.{◌≡◌, ℕ, Bool, true, false, cond, [], ◌∷◌, ◌++◌, Option, Some, None, IfSome, is_some, option_map, Result, Ok, Err, refl, sym, ap}
use Rattle.std.proofs.Common.{◌∙◌}
use Rattle.std.proofs.lemmas.Bool.{and_left, and_right}
use Rattle.fk_model.specs.declared.names.Kind.TheVariants as kinds
use Rattle.fk_model.specs.declared.stage.Stage.{Stage}
use Rattle.fk_model.specs.declared.stage.Stage.TheVariants.{Connect}
use Rattle.fk_model.specs.Places.{Path, same_path, strip, is_within, parent, slot_of, Ptr}
use Rattle.fk_model.specs.Places.Ptr.{Null, Dead, At, Out, Outside, Far}
use Rattle.fk_model.specs.Objects.{Peer, Talk, Fault, Thread, Body, thread_of, and_then, or_else, kind_of}
use Rattle.fk_model.specs.Objects.Peer.{Server, Service, Parked}
use Rattle.fk_model.specs.Objects.Body.{Port, Reference, Space}
use Rattle.fk_model.specs.World.{World}
use Rattle.fk_model.specs.Searches.{talk_at, fault_at}
use Rattle.fk_model.specs.Holds.{is_frozen, is_unheld, is_free}
use Rattle.fk_model.specs.Talks.{first_stage, is_handled}
use Rattle.fk_model.specs.LinkRows.{user_at, if_read, port_named, connecting_to, Candidate, is_member, slot_in_set, is_parked, is_open, faulting, connecting}
use Rattle.fk_model.specs.LinkRows.{resuming, candidate_by, candidate}
use Rattle.fk_model.specs.LinkRows.Candidate.{Faulting, Connecting, Resuming}
use Rattle.fk_model.specs.Cut.{is_out, seen_by, unheld}
use Rattle.laws_subtrees.specs.Cut.Likeness.{seeing, seen_peer, seen_thread, PtrLikeness, HasLikeness, AllInTalk, AllInFault, IsLikeness, AlikeResults}
use Rattle.laws_subtrees.specs.Cut.Likeness.{AlikeOptions}
use Rattle.laws_subtrees.specs.Cut.Likeness.{IsSeenAs, IsSeenHandle, IsSeenThread, CandidateLikeness}
use Rattle.laws_subtrees.specs.Cut.Likeness.PtrLikeness.{Nulls, Deads, Inside, PortAt, PortOut}
use Rattle.laws_subtrees.specs.Cut.Likeness.CandidateLikeness.{Faults, Connects, Resumes}
use Rattle.fk_model.proofs.walks.PlaceLaws.{same_path_eq, same_path_cancel, strip-append, same_path_refl, strip_some}
use Rattle.laws_subtrees.proofs.InCut.likeness.Reads.{handle-like}
use Rattle.laws_subtrees.proofs.InCut.likeness.Alike.{alike_or_else}
use Rattle.laws_subtrees.proofs.InCut.likeness.Memory.{root_space, root_seen}
use Rattle.laws_subtrees.proofs.InCut.likeness.Holds.{is_unheld-like, is_free-like}
use Rattle.laws_subtrees.proofs.InCut.likeness.Talks.{thread_there-like}
use Rattle.fk_model.specs.Readers.{handled}
use Rattle.fk_model.specs.Valid.{kind_there}
use Rattle.laws_moves.proofs.InRows.Handles.{reference-in}

off : {A : Type 0} (t : Bool) (a : A) → t ≡ false → cond t (Some a) None ≡ None
off t a h = rw h refl

-- what lies outside lies in no space inside
pub parent_outside : (root space x : Path) → is_within root x ≡ false → same_path (parent x) (space ++ root) ≡ false
parent_outside root space x apart = by (same_path (parent x) (space ++ root)) refl
  where
    inside : (q : Path) → x ≡ q ++ root → ⊥
    inside q e = let within = strip-append root q in let here : is_some (strip root (q ++ root)) ≡ false = rw e at apart in let there = ap is_some within in cc

    under_space : (y : Path) → x ≡ y → parent y ≡ space ++ root → ⊥
    under_space [] e h = by_space space h
      where
        by_space : (s : Path) → [] ≡ s ++ root → ⊥
        by_space [] g = inside [] (e ∙ g)
        by_space (k ∷ s) g = cc
    under_space (k ∷ y) e h = inside (k ∷ space) (e ∙ ap (λ (z : Path). k ∷ z) h)

    by : (b : Bool) → same_path (parent x) (space ++ root) ≡ b → b ≡ false
    by false h = refl
    by true h = absurd (under_space x refl (same_path_eq (parent x) (space ++ root) h))

module _ {root : Path} {see : Ptr → Ptr} {small big : World} (like : IsLikeness root see small big) where
  -- ---- ports of a set

  is_member-like : (set k : ℕ) (q : Path) → is_member set (small.body (k ∷ q)) ≡ is_member set (big.body (k ∷ (q ++ root)))
  unfolding seen_by
  is_member-like set k q = rw (like.bodies (k ∷ q)) (by (big.body (k ∷ (q ++ root))))
    where
      by : (v : Option Body) → is_member set (option_map (λ b. unheld (k ∷ q) (seen_by (seeing see) b)) v) ≡ is_member set v
      by (Some (Port None served)) = refl
      by (Some (Port (Some other) served)) = refl
      by (Some b) = refl
      by None = refl

  pub slot_in_set-like : (space : Path) (set : ℕ) (p seen : Ptr) →
      PtrLikeness root big p seen → slot_in_set small space set seen ≡ slot_in_set big (space ++ root) set p
  slot_in_set-like space set _ _ Nulls = refl
  slot_in_set-like space set _ _ Deads = refl
  slot_in_set-like space set _ _ (Inside []) =
      rw ((root_space like).2, root_seen like)
      (off _ 0 (and_right (same_path [] space) false refl) ∙ sym (off _ (slot_of root) (and_right (same_path (parent root) (space ++ root)) false refl)))
  slot_in_set-like space set _ _ (Inside (k ∷ q)) = rw (is_member-like set k q, same_path_cancel q space root) refl
  slot_in_set-like space set _ _ (PortAt x slot apart port) =
      sym (off _ (slot_of x) (and_left (same_path (parent x) (space ++ root)) (is_member set (big.body x)) (parent_outside root space x apart)))
  slot_in_set-like space set _ _ (PortOut old slot) = refl

  -- a port of a set stands inside
  slot_in_set_near : (w : World) (space : Path) (set slot : ℕ) (seen : Ptr) → slot_in_set w space set seen ≡ Some slot → is_out seen ≡ false
  slot_in_set_near w space set slot (Out i) h = cc
  slot_in_set_near w space set slot Null h = refl
  slot_in_set_near w space set slot Dead h = refl
  slot_in_set_near w space set slot (At x) h = refl
  slot_in_set_near w space set slot Outside h = refl
  slot_in_set_near w space set slot Far h = refl

  -- ---- threads at their Connect

  no_talk : (o : Option Talk) → is_some (and_then (seeing see).talk o) ≡ is_some o
  no_talk None = refl
  no_talk (Some talk) = refl

  if_read-like : (a b : Result Ptr ℕ) → AlikeResults (IsSeenHandle root see big kinds.Port) a b → AlikeOptions (IsSeenAs root see big) (if_read a) (if_read b)
  if_read-like (Ok seen) (Ok p) h = (h.0, h.1)
  if_read-like (Err status) (Err refusal) h = tt
  if_read-like (Ok seen) (Err refusal) h = absurd h
  if_read-like (Err status) (Ok p) h = absurd h

  port_named-like : (k : ℕ) (q : Path) (stage : Stage) →
      AlikeOptions (IsSeenAs root see big) (port_named small (k ∷ q) stage) (port_named big (k ∷ (q ++ root)) stage)
  port_named-like k q (Connect h) = if_read-like _ _ (handle-like like (user_at (k ∷ q)) kinds.Port h)
  port_named-like k q stage = tt

  pub connecting_to-like : (k : ℕ) (q : Path) (t : Thread) →
      AlikeOptions (IsSeenAs root see big) (connecting_to small (k ∷ q) (seen_thread see t)) (connecting_to big (k ∷ (q ++ root)) t)
  connecting_to-like k q t = rw (no_talk t.talk) (by (is_some t.talk) (first_stage t.mode))
    where
      by : (b : Bool) (stage : Option Stage) → AlikeOptions (IsSeenAs root see big)
          (cond b None (and_then (port_named small (k ∷ q)) stage)) (cond b None (and_then (port_named big (k ∷ (q ++ root))) stage))
      by true stage = tt
      by false None = tt
      by false (Some stage) = port_named-like k q stage

  -- ---- candidates

  found-like : (R : Candidate → Candidate → Type 0) (found : Option ℕ) (a b : Bool) (f g : ℕ → Candidate) →
      ((slot : ℕ) → found ≡ Some slot → (a ≡ b) × R (f slot) (g slot)) → AlikeOptions R (cond a (option_map f found) None) (cond b (option_map g found) None)
  found-like R None true true f g h = tt
  found-like R None true false f g h = tt
  found-like R None false true f g h = tt
  found-like R None false false f g h = tt
  found-like R (Some slot) a b f g h = rw (h slot refl).0 (by b)
    where
      by : (t : Bool) → AlikeOptions R (cond t (Some (f slot)) None) (cond t (Some (g slot)) None)
      by true = (h slot refl).1
      by false = tt

  parked_near : (peer : Peer) → is_parked (Some (seen_peer see false peer)) ≡ is_parked (Some peer)
  parked_near (Server thread) = refl
  parked_near Service = refl
  parked_near Parked = refl

  open_near : (o : Option Peer) → is_open (option_map (seen_peer see false) o) ≡ is_open o
  open_near None = refl
  open_near (Some peer) = parked_near peer

  module _ (space : Path) (set k : ℕ) (q : Path) where
    abbrev Alike : Candidate → Candidate → Type 0
    Alike = CandidateLikeness see big (k ∷ (q ++ root))

    faulting-like : (t : Thread) → fault_at big (k ∷ (q ++ root)) ≡ t.fault → IfSome t.fault (AllInFault see (HasLikeness root see big)) →
        AlikeOptions Alike (faulting small space set (seen_thread see t)) (faulting big (space ++ root) set t)
    faulting-like t = by t.fault
      where
        by : (o : Option Fault) → fault_at big (k ∷ (q ++ root)) ≡ o → IfSome o (AllInFault see (HasLikeness root see big)) →
            AlikeOptions Alike (and_then (λ (fault : Fault). cond
            (is_open fault.taker) (option_map (λ slot. Faulting slot fault) (slot_in_set small space set fault.port)) None) (and_then (seeing see).fault o))
            (and_then (λ (fault : Fault).
            cond (is_open fault.taker) (option_map (λ slot. Faulting slot fault) (slot_in_set big (space ++ root) set fault.port)) None) o)
        by None is h = tt
        by (Some fault) is h =
            let alike = slot_in_set-like space set fault.port (see fault.port) h.0 in
            rw (← alike)
            (found-like Alike (slot_in_set small space set (see fault.port)) _ _ _ _
            (λ slot found. let near = slot_in_set_near small space set slot (see fault.port) found in
            (ap (λ (out : Bool). is_open (option_map (seen_peer see out) fault.taker)) near ∙ open_near fault.taker, Faults slot fault is near)))

    resuming-like : (t : Thread) → talk_at big (k ∷ (q ++ root)) ≡ t.talk → IfSome t.talk (AllInTalk see (HasLikeness root see big)) →
        AlikeOptions Alike (resuming small space set (seen_thread see t)) (resuming big (space ++ root) set t)
    resuming-like t = by t.talk
      where
        by : (o : Option Talk) → talk_at big (k ∷ (q ++ root)) ≡ o → IfSome o (AllInTalk see (HasLikeness root see big)) →
            AlikeOptions Alike (and_then (λ (talk : Talk). cond (is_parked (Some talk.peer))
            (option_map (λ slot. Resuming slot talk) (slot_in_set small space set talk.port)) None) (and_then (seeing see).talk o))
            (and_then (λ (talk : Talk).
            cond (is_parked (Some talk.peer)) (option_map (λ slot. Resuming slot talk) (slot_in_set big (space ++ root) set talk.port)) None) o)
        by None is h = tt
        by (Some talk) is h =
            let alike = slot_in_set-like space set talk.port (see talk.port) h.0 in
            rw (← alike)
            (found-like Alike (slot_in_set small space set (see talk.port)) _ _ _ _
            (λ slot found. let near = slot_in_set_near small space set slot (see talk.port) found in
            (ap (λ (out : Bool). is_parked (Some (seen_peer see out talk.peer))) near ∙ parked_near talk.peer, Resumes slot talk is near)))

    connecting-like : (t : Thread) →
        AlikeOptions Alike (connecting small space set (k ∷ q) (seen_thread see t)) (connecting big (space ++ root) set (k ∷ (q ++ root)) t)
    connecting-like t = by (connecting_to small (k ∷ q) (seen_thread see t)) (connecting_to big (k ∷ (q ++ root)) t) (connecting_to-like k q t)
      where
        slots : (o : Option ℕ) → AlikeOptions Alike (option_map Connecting o) (option_map Connecting o)
        slots None = tt
        slots (Some slot) = Connects slot

        by : (o p : Option Ptr) → AlikeOptions (IsSeenAs root see big) o p → AlikeOptions Alike
            (option_map Connecting (and_then (slot_in_set small space set) o)) (option_map Connecting (and_then (slot_in_set big (space ++ root) set) p))
        by None None h = tt
        by (Some seen) (Some p) h = rw (h.0, slot_in_set-like space set p (see p) h.1) (slots (slot_in_set big (space ++ root) set p))
        by None (Some p) h = absurd h
        by (Some seen) None h = absurd h

  pub candidate-like : is_frozen big root ≡ false → (space : Path) (set k : ℕ) (q : Path) →
      AlikeOptions (CandidateLikeness see big (k ∷ (q ++ root))) (candidate small space set (k ∷ q)) (candidate big (space ++ root) set (k ∷ (q ++ root)))
  unfolding candidate
  candidate-like free space set k q = rw (is_unheld-like like free q) (by (is_unheld big (q ++ root)))
    where
      Alike : Candidate → Candidate → Type 0
      Alike = CandidateLikeness see big (k ∷ (q ++ root))

      of_thread : (o p : Option Thread) → and_then thread_of (big.body (k ∷ (q ++ root))) ≡ p → AlikeOptions (IsSeenThread root see big) o p →
          AlikeOptions Alike (and_then (candidate_by small space set (k ∷ q)) o) (and_then (candidate_by big (space ++ root) set (k ∷ (q ++ root))) p)
      of_thread None None is h = tt
      of_thread (Some seen) (Some t) is h =
          rw (h.0, is_free-like like free q t)
          (alike_or_else Alike (faulting small space set (seen_thread see t)) _ (faulting big (space ++ root) set t)
          _ (faulting-like space set k q t (ap (and_then (λ (t : Thread). t.fault)) is) h.1.1) (if_free (is_free big (q ++ root) t)))
        where
          if_free : (b : Bool) →
              AlikeOptions Alike (cond b (or_else (connecting small space set (k ∷ q) (seen_thread see t)) (resuming small space set (seen_thread see t))) None)
              (cond b (or_else (connecting big (space ++ root) set (k ∷ (q ++ root)) t) (resuming big (space ++ root) set t)) None)
          if_free true = alike_or_else Alike (connecting small space set (k ∷ q) (seen_thread see t))
              (resuming small space set (seen_thread see t)) (connecting big (space ++ root) set (k ∷ (q ++ root)) t) (resuming big (space ++ root) set t)
              (connecting-like space set k q t) (resuming-like space set k q t (ap (and_then (λ (t : Thread). t.talk)) is) h.1.0)
          if_free false = tt
      of_thread None (Some t) is h = absurd h
      of_thread (Some seen) None is h = absurd h

      by : (b : Bool) → AlikeOptions Alike (cond b (and_then (candidate_by small space set (k ∷ q)) (and_then thread_of (small.body (k ∷ q)))) None)
          (cond b (and_then (candidate_by big (space ++ root) set (k ∷ (q ++ root))) (and_then thread_of (big.body (k ∷ (q ++ root))))) None)
      by true = of_thread (and_then thread_of (small.body (k ∷ q))) (and_then thread_of (big.body (k ∷ (q ++ root)))) refl (thread_there-like like (k ∷ q))
      by false = tt
      -- ---- native servers

-- a reference that a thread outside names lies outside: the root itself is a space
pub reference_beside : {root : Path} {see : Ptr → Ptr} {small big : World} → IsLikeness root see small big → (y : Path) (i : ℕ) → is_within root y ≡ false →
    is_handled big (parent y) (Some i) ≡ true → is_within root (i ∷ parent y) ≡ false
unfolding kind_there
reference_beside {root} {see} {small} {big} like y i out handled = by (strip root (i ∷ parent y)) refl
  where
    place : (z : Path) → i ∷ parent y ≡ z ++ root → ⊥
    place [] e =
        let at = reference-in big (parent y) i handled in
        let kind : Some kinds.Space ≡ Some kinds.Reference = sym like.top ∙ ap (λ (x : Path). kind_there big x) (sym e) ∙ ap (option_map kind_of) at.there in
        cc
    place (a ∷ z) e =
        let same : parent y ≡ z ++ root = ap parent e in
        let clash : true ≡ false = sym (same_path_refl (z ++ root)) ∙ ap (λ (x : Path). same_path x (z ++ root)) (sym same) ∙ parent_outside root z y out in
        cc

    by : (r : Option Path) → strip root (i ∷ parent y) ≡ r → is_some r ≡ false
    by None e = refl
    by (Some z) e = absurd (place z (strip_some root (i ∷ parent y) z e))
