-- A thread inside a plain subtree moves: what the world's row does is what the row of the cut does, and the subtree stays plain.
use Rattle.std.proofs.Common.{◌≡◌, ℕ, Bool, true, false, cond, ◌&&◌, ◌||◌, List, [], ◌∷◌, ◌++◌, Option, Some, None, is_some, is_none, option_map, Result, Ok}
use Rattle.std.proofs.Common.{Err, refl, sym, ap, ◌∙◌}
use Rattle.fk_model.specs.declared.moves.Ask.TheVariants as asks
use Rattle.fk_model.specs.declared.stage.Stage.{Stage}
use Rattle.fk_model.specs.declared.stage.Stage.TheVariants.{ClientSend}
use Rattle.fk_model.specs.declared.statuses.status.TheConstants.{DENIED}
use Rattle.fk_model.specs.Places.{Path, strip, is_within, Ptr}
use Rattle.fk_model.specs.Objects.{Mode, Thread, Body, thread_of, and_then}
use Rattle.fk_model.specs.Objects.Mode.{Calling}
use Rattle.fk_model.specs.Objects.Body.{Mutex, Cond, Mapping, Region, Port, Portset, Space, Thread_of, Reference}
use Rattle.fk_model.specs.World.{World, Change, apply_all}
use Rattle.fk_model.specs.Holds.{is_frozen, is_free}
use Rattle.fk_model.specs.Outcomes.{Said, Outcome, ◌>>=◌, when, Caller, path_of, done_at, done, stays, telling, listed}
use Rattle.fk_model.specs.Outcomes.Outcome.{Refused, Waits, Goes}
use Rattle.fk_model.specs.Outcomes.Said.{Nothing, Answered}
use Rattle.fk_model.specs.LinkRows.{user_at}
use Rattle.fk_model.specs.Moves.{stage_row, is_for_porters, chooses, with_pick, closed, call_row, goes_on, user_move, outcome, GoesAllowed, IsReady, stepped}
use Rattle.fk_model.specs.Moves.{step}
use Rattle.fk_model.specs.Runs.{Event, after}
use Rattle.fk_model.specs.Cut.{ports_of, cut_ptr, cut, seen_by, unheld, IsPlain}
use Rattle.fk_model.specs.Further.{Onward, Told, talks_outside, outside_row, own_stage, own_move, own_row, counted, onward_row, told_by_said, told_by, OnwardTo}
use Rattle.fk_model.specs.Further.{IsOnward}
use Rattle.fk_model.specs.Further.Onward.{Own}
use Rattle.fk_model.specs.Seen.{outcome_said, is_send, sends_out, words_out, picked_inside, own_of, row_of}
use Rattle.fk_model.specs.Seen.Seen.{Onwards, Unseen, Other}
use Rattle.fk_model.proofs.walks.PlaceLaws.{strip-append, strip_some}
use Rattle.laws_subtrees.specs.Cut.CutLaws.{KeepsCut, IsAtStage, moves, StageInsideKeepsCut}
use Rattle.laws_subtrees.specs.Cut.Likeness.{seeing, seen_thread, IsLikeness}
use Rattle.laws_subtrees.specs.Cut.LikeChanges.{IsLikeOutcome, IsLikeUnlessWaiting}
use Rattle.laws_subtrees.proofs.InCut.likeness.Instances.{cut-like}
use Rattle.laws_subtrees.proofs.InCut.likeness.Holds.{is_free-like, unheld-free}
use Rattle.laws_subtrees.proofs.InCut.likeness.Outcomes.{unless_waiting, closed-like}
use Rattle.laws_subtrees.proofs.InCut.likeness.ChangeLists.{changes-like, cut-changes}
use Rattle.laws_subtrees.proofs.InCut.cut.Holds.{changes-allowed}
use Rattle.laws_subtrees.proofs.InCut.cut.Plain.{AreQuiet, changes-clear, clear-plain, like-plain}
use Rattle.fk_model.specs.Searches.{thread_at}

-- ---- rows whose changes are quiet

-- the outside hears nothing of it but by its changes
pub record Quiet (root : Path) (o : Outcome) : Type 0 where
  pub quiet : AreQuiet root (listed o)
  pub mute : (v : World) (x : Path) → told_by_said v x (outcome_said o) ≡ []

pub quiet-refused : {root : Path} {status : ℕ} → Quiet root (Refused status)
quiet-refused = record { quiet = tt; mute = λ v x. refl }

pub quiet-waits : {root : Path} → Quiet root Waits
quiet-waits = record { quiet = tt; mute = λ v x. refl }

pub quiet-goes : {root : Path} {cs : List Change} → AreQuiet root cs → Quiet root (Goes cs Nothing)
quiet-goes quiet = record { quiet = quiet; mute = λ v x. refl }

quiet-answers : {root : Path} {cs : List Change} {status : ℕ} {words : List ℕ} → AreQuiet root cs → Quiet root (Goes cs (Answered status words))
quiet-answers quiet = record { quiet = quiet; mute = λ v x. refl }

pub quiet-then : (root : Path) (cs ds : List Change) → AreQuiet root cs → AreQuiet root ds → AreQuiet root (cs ++ ds)
quiet-then root [] ds h g = g
quiet-then root (c ∷ cs) ds h g = (h.0, quiet-then root cs ds h.1 g)

pub quiet->>= : {A : Type 0} (root : Path) (r : Result A ℕ) (go : A → Outcome) → ((a : A) → Quiet root (go a)) → Quiet root (r >>= go)
quiet->>= root (Ok a) go quiet = quiet a
quiet->>= root (Err status) go quiet = quiet-refused

pub quiet-when : (root : Path) (test : Bool) (o : Outcome) → Quiet root o → Quiet root (when test o)
quiet-when root true o quiet = quiet
quiet-when root false o quiet = quiet-waits

pub quiet-bind : {A : Type 0} (root : Path) (r : Result A ℕ) (go : A → Outcome) → ((a : A) → r ≡ Ok a → Quiet root (go a)) → Quiet root (r >>= go)
quiet-bind root (Ok a) go quiet = quiet a refl
quiet-bind root (Err status) go quiet = quiet-refused

pub quiet-telling : (root : Path) (said : Said) (o : Outcome) → ((v : World) (x : Path) → told_by_said v x said ≡ []) → Quiet root o → Quiet root
    (telling said o)
quiet-telling root said (Goes cs Nothing) hush h = record { quiet = h.quiet; mute = hush }
quiet-telling root said o hush h = h

pub quiet-stays : (root : Path) (c : Caller) (cs : List Change) → AreQuiet root cs → Quiet root (stays c cs)
quiet-stays root c cs quiet = by c.is_porter
  where
    by : (porter : Bool) → Quiet root (stays (record c { is_porter = porter }) cs)
    by true = quiet-answers quiet
    by false = quiet-goes quiet

pub quiet-done_at : (root me : Path) (c : Caller) (cs : List Change) (answers : List ℕ) → AreQuiet root cs → Quiet root (done_at me c cs answers)
quiet-done_at root me c cs answers quiet = by c.is_porter
  where
    by : (porter : Bool) → Quiet root (done_at me (record c { is_porter = porter }) cs answers)
    by true = quiet-answers quiet
    by false = quiet-goes (quiet-then root cs _ quiet (tt, tt))

pub quiet-done : (root : Path) (c : Caller) (cs : List Change) (answers : List ℕ) → AreQuiet root cs → Quiet root (done c cs answers)
quiet-done root c cs answers quiet = by c.is_porter
  where
    by : (porter : Bool) → Quiet root (done_at (path_of c) (record c { is_porter = porter }) cs answers)
    by true = quiet-answers quiet
    by false = quiet-goes (quiet-then root cs _ quiet (tt, tt))

pub quiet-with_pick : (root : Path) (chosen : Bool) (pick : Option Path) (o : Outcome) → Quiet root o → Quiet root (with_pick chosen pick o)
quiet-with_pick root chosen pick (Refused status) h = quiet-when root (is_none pick) (Refused status) h
quiet-with_pick root chosen pick Waits h = h
quiet-with_pick root chosen pick (Goes cs said) h = quiet-when root (chosen || is_none pick) (Goes cs said) h

quiet-closed : (root x : Path) (o : Outcome) → Quiet root o → Quiet root (closed (user_at x) o)
quiet-closed root x (Refused status) h = quiet-goes (tt, tt)
quiet-closed root x Waits h = h
quiet-closed root x (Goes cs said) h = h

quiet-allowed : (root : Path) (b : Bool) (o : Outcome) → Quiet root o → Quiet root (cond b (Refused DENIED) o)
quiet-allowed root true o h = quiet-refused
quiet-allowed root false o h = h

pub quiet-call : (root : Path) (w : World) (x : Path) (pick : Option Path) (stage : Stage) →
    Quiet root (stage_row w (user_at x) pick stage) → Quiet root (call_row w (user_at x) pick stage)
unfolding call_row
quiet-call root w x pick stage h =
    quiet-closed root x _ (quiet-with_pick root (chooses stage) pick _ (quiet-allowed root (is_for_porters stage) (stage_row w (user_at x) pick stage) h))

-- ---- calls act alike

module _ {root : Path} {see : Ptr → Ptr} {small big : World} (like : IsLikeness root see small big) where
  abbrev Alike : Outcome → Outcome → Type 0
  Alike = IsLikeOutcome root see big

  pub when_same : (a b : Bool) (near far : Outcome) → a ≡ b → Alike near far → Alike (when a near) (when b far)
  when_same a b near far e h = rw e (by b)
    where
      by : (b : Bool) → Alike (when b near) (when b far)
      by true = h
      by false = tt

  pub with_pick-like : (chosen : Bool) (p pick : Option Path) (near far : Outcome) →
      is_none p ≡ is_none pick → Alike near far → Alike (with_pick chosen p near) (with_pick chosen pick far)
  with_pick-like chosen p pick Waits Waits e h = tt
  with_pick-like chosen p pick (Refused status) Waits e h = absurd h
  with_pick-like chosen p pick (Goes cs said) Waits e h = absurd h
  with_pick-like chosen p pick (Refused status) (Refused refusal) e h = when_same (is_none p) (is_none pick) (Refused status) (Refused refusal) e h
  with_pick-like chosen p pick (Goes cs said) (Goes ds told) e h =
      when_same (chosen || is_none p) (chosen || is_none pick) (Goes cs said) (Goes ds told) (ap (λ b. chosen || b) e) h
  with_pick-like chosen p pick (Refused status) (Goes ds told) e h = absurd h
  with_pick-like chosen p pick (Goes cs said) (Refused refusal) e h = absurd h
  with_pick-like chosen p pick Waits (Refused refusal) e h = absurd h
  with_pick-like chosen p pick Waits (Goes ds told) e h = absurd h

  allowed-like : (b : Bool) (near far : Outcome) → Alike near far → Alike (cond b (Refused DENIED) near) (cond b (Refused DENIED) far)
  allowed-like true near far h = refl
  allowed-like false near far h = h

  pub call_row-like : (k : ℕ) (q : Path) (p pick : Option Path) (stage : Stage) →
      is_none p ≡ is_none pick → Alike (stage_row small (user_at (k ∷ q)) p stage) (stage_row big (user_at (k ∷ (q ++ root))) pick stage) →
      Alike (call_row small (user_at (k ∷ q)) p stage) (call_row big (user_at (k ∷ (q ++ root))) pick stage)
  unfolding call_row
  call_row-like k q p pick stage e h =
      closed-like like (user_at (k ∷ q)) _ _ (with_pick-like (chooses stage) p pick _ _ e (allowed-like (is_for_porters stage) _ _ h))

closed_again : (x : Path) (o : Outcome) → closed (user_at x) (closed (user_at x) o) ≡ closed (user_at x) o
closed_again x (Refused status) = refl
closed_again x Waits = refl
closed_again x (Goes cs said) = refl

pub call_closed : (w : World) (x : Path) (p : Option Path) (stage : Stage) →
    closed (user_at x) (call_row w (user_at x) p stage) ≡ call_row w (user_at x) p stage
unfolding call_row
call_closed w x p stage = closed_again x _

-- ---- a thread that sends nothing to a peer outside

pub counted_none : (n : ℕ) (o : Outcome) → n ≡ 0 → counted n o ≡ o
counted_none n o none = rw none refl

pub unsent_counts : (w : World) (root me : Path) (cs : List Change) → sends_out w root me ≡ false → words_out w root me cs ≡ 0
unsent_counts w root me cs unsent = rw unsent refl

-- a stage of which a peer outside makes nothing else isn't a client's Send
silent_unsent : (w : World) (c : Caller) (stage : Stage) → ((n : ℕ) (o : Outcome) → outside_row w c n stage o ≡ o) → is_send stage ≡ false
silent_unsent w c (ClientSend address count) silent = let clash : Waits ≡ Refused 0 = sym (silent 0 Waits) ∙ silent 0 (Refused 0) in cc
silent_unsent w c stage silent = refl

pub unsent_stage : (w : World) (root me : Path) (stage : Stage) → is_send stage ≡ false → IsAtStage w me stage → sends_out w root me ≡ false
unsent_stage w root me stage unsent at = rw at.3 (rw at.4 (rw unsent refl))

pub silent_counts : (w c : World) (root me x : Path) (stage : Stage) →
    IsAtStage w me stage → ((n : ℕ) (o : Outcome) → outside_row c (user_at x) n stage o ≡ o) → (cs : List Change) → words_out w root me cs ≡ 0
silent_counts w c root me x stage at silent cs = unsent_counts w root me cs (unsent_stage w root me stage (silent_unsent c (user_at x) stage silent) at)

-- ---- a thread inside

pub thread_seen : (see : Ptr → Ptr) (k : ℕ) (q : Path) (v : Option Body) (t : Thread) →
    and_then thread_of v ≡ Some t → and_then thread_of (option_map (λ b. unheld (k ∷ q) (seen_by (seeing see) b)) v) ≡ Some (seen_thread see t)
unfolding seen_by
thread_seen see k q (Some (Thread_of u)) t h = ap (option_map (seen_thread see)) h
thread_seen see k q (Some (Mutex locked)) t h = cc
thread_seen see k q (Some Cond) t h = cc
thread_seen see k q (Some (Mapping m)) t h = cc
thread_seen see k q (Some (Region r)) t h = cc
thread_seen see k q (Some (Port set served)) t h = cc
thread_seen see k q (Some Portset) t h = cc
thread_seen see k q (Some (Space birth holder)) t h = cc
thread_seen see k q (Some (Reference to)) t h = cc
thread_seen see k q None t h = cc

either_way : (root : Path) (see : Ptr → Ptr) (big : World) (test free : Bool) (own other far : Outcome) → free ≡ true →
    IsLikeOutcome root see big own far → IsLikeOutcome root see big other far → IsLikeOutcome root see big (cond test (when free own) (when free other)) far
either_way root see big true free own other far e h g = rw e h
either_way root see big false free own other far e h g = rw e g

module _ (w : World) (nester : Path) (slot : ℕ) (plain : IsPlain w nester slot) (k : ℕ) (q : Path) where
  abbrev root : Path
  root = slot ∷ nester

  abbrev see : Ptr → Ptr
  see = cut_ptr (ports_of w nester slot) nester slot

  abbrev small : World
  small = cut w nester slot

  abbrev me : Path
  me = k ∷ (q ++ root)

  abbrev AlikeHere : Outcome → Outcome → Type 0
  AlikeHere = IsLikeOutcome root see w

  -- what the cut does after its row, and the world after its own
  abbrev pub HasGone : Onward → Outcome → Outcome → Type 0
  HasGone m near far = IsPlain (stepped w far).world nester slot × ((told : List Told) × OnwardTo small m near told (cut (stepped w far).world nester slot))

  pub has_gone : (p : Option Path) (n : ℕ) (near far : Outcome) → is_frozen w root ≡ false →
      IsLikeUnlessWaiting root see w near far → AreQuiet root (listed far) → GoesAllowed w me far → HasGone (Own (k ∷ q) p n) near far
  has_gone p n (Goes cs said) (Goes ds told) free h quiet ready =
      let like = cut-like w nester slot plain in
      let cuts = cut-changes w nester slot cs ds plain h in (
        like-plain (apply_all ds w)
            (apply_all cs small) see nester slot (changes-like small w cs ds h like) cuts (changes-clear root w ds quiet (clear-plain w nester slot plain)),
        (told_by small (Own (k ∷ q) p n) cs said, (changes-allowed like free (k ∷ q) w cs ds h ready, refl, cuts)),
      )
  has_gone p n near Waits free h quiet ready = absurd ready
  has_gone p n near (Refused status) free h quiet ready = absurd ready
  has_gone p n (Refused status) (Goes ds told) free h quiet ready = absurd h
  has_gone p n Waits (Goes ds told) free h quiet ready = absurd h

  -- the thread that moves
  module _ (pick : Option Path) (t : Thread) (is : and_then thread_of (w.body me) ≡ Some t) where
    abbrev far : Outcome
    far = goes_on w me pick t t.mode

    abbrev IsAlikeBy : Option Path → ℕ → Type 0
    IsAlikeBy p n = AlikeHere (own_stage small (k ∷ q) p n t.mode (goes_on small (k ∷ q) p (seen_thread see t) t.mode)) far ×
        AlikeHere (goes_on small (k ∷ q) p (seen_thread see t) t.mode) far

    moves_alike : (p : Option Path) (n : ℕ) → (is_frozen w root ≡ false → IsAlikeBy p n) → AreQuiet root (listed far) → (b : Bool) →
        is_free w (q ++ root) t ≡ b → GoesAllowed w me (when b far) → HasGone (Own (k ∷ q) p n) (own_move small (k ∷ q) p n (seen_thread see t)) (when b far)
    moves_alike p n alike quiet false e ready = absurd ready
    moves_alike p n alike quiet true e ready =
        let like = cut-like w nester slot plain in
        let free = unheld-free like q t e in
        let both = alike free in
        has_gone p n _ far free
        (unless_waiting like _ _ (either_way root
        see w (talks_outside small (k ∷ q) && is_none p) (is_free small q (seen_thread see t)) _ _ far (is_free-like like free q t ∙ e) both.0 both.1))
        quiet ready

    pub seen_is : thread_at small (k ∷ q) ≡ Some (seen_thread see t)
    seen_is = rw ((cut-like w nester slot plain).bodies (k ∷ q)) (thread_seen see k q (w.body me) t is)

    pub move_alike : (p : Option Path) (n : ℕ) → n ≡ 0 → (is_frozen w root ≡ false → IsAlikeBy p n) → AreQuiet root (listed far) → IsReady w me pick asks.Run →
        IsPlain (after w (moves me pick)) nester slot × ((told : List Told) × IsOnward small (Own (k ∷ q) p n) told (cut (after w (moves me pick)) nester slot))
    unfolding step outcome onward_row
    move_alike p n none alike quiet ready = by (and_then thread_of (w.body me)) (thread_at small (k ∷ q)) is seen_is ready
      where
        by : (o seen : Option Thread) → o ≡ Some t → seen ≡ Some (seen_thread see t) →
            GoesAllowed w me (user_move w me pick o) → HasGone (Own (k ∷ q) p n) (counted n (own_row small (k ∷ q) p n seen)) (user_move w me pick o)
        by o seen e f = rw (counted_none n (own_row small (k ∷ q) p n seen) none) (rw e (rw f (moves_alike p n alike quiet (is_free w (q ++ root) t) refl)))

    -- ---- how it is seen

    pub own_form : (test : Bool) (n : ℕ) (r : Option (Option Path)) (m : Onward) →
        cond test None (option_map (λ (p : Option Path). Own (k ∷ q) p n) r) ≡ Some m → (p : Option Path) × (r ≡ Some p) × (m ≡ Own (k ∷ q) p n)
    own_form true n r m h = cc
    own_form false n None m h = cc
    own_form false n (Some p) m h = (p, refl, cc)

    pub picked_none : (p : Option Path) → picked_inside root pick ≡ Some p → is_none p ≡ is_none pick
    picked_none p h = by pick h
      where
        deeper : (o : Option Path) → option_map (λ (z : Path). Some z) o ≡ Some p → is_none p ≡ false
        deeper None h = cc
        deeper (Some z) h = let e : p ≡ Some z = cc in rw e refl

        by : (pick : Option Path) → picked_inside root pick ≡ Some p → is_none p ≡ is_none pick
        by None h = let e : p ≡ None = cc in rw e refl
        by (Some x) h = deeper (strip root x) h

    pub own_row_of : (e : Event) (out : Outcome) (o : Option Path) (m : Onward) →
        o ≡ Some (k ∷ q) → row_of w root e out o ≡ Some m → own_of w root e.mover (k ∷ q) e.pick (listed out) ≡ Some m
    own_row_of e out o m is = rw is (λ h. h)

    pub inside_law : ((cs : List Change) → words_out w root me cs ≡ 0) →
        ((p : Option Path) (n : ℕ) → is_none p ≡ is_none pick → is_frozen w root ≡ false → IsAlikeBy p n) →
        AreQuiet root (listed far) → KeepsCut w nester slot (moves me pick)
    inside_law none alike quiet sound same fit ready (Onwards m) seen =
        let own = own_row_of (moves me pick) (outcome w me pick asks.Run) (strip root me) m (strip-append root (k ∷ q)) seen.1 in
        let form = own_form _ (words_out w root me (listed (outcome w me pick asks.Run))) (picked_inside root pick) m own in
        rw form.2 (move_alike form.0 _ (none (listed (outcome w me pick asks.Run))) (alike form.0 _ (picked_none form.0 form.1)) quiet ready)
    inside_law none alike quiet sound same fit ready Unseen seen = (move_alike pick 0 refl (alike pick 0 refl) quiet ready).0
    inside_law none alike quiet sound same fit ready Other seen = tt

  -- ---- a stage

  at_stage : (pick : Option Path) (stage : Stage) (todo : List Stage) (rest : List ℕ) (t : Thread) (mode : Mode) →
      mode ≡ Calling (stage ∷ todo) rest → goes_on w me pick t mode ≡ call_row w (user_at me) pick stage
  at_stage pick stage todo rest t mode e = rw e refl

  pub call_inside : (pick : Option Path) (stage : Stage) → IsAtStage w me stage → ((n : ℕ) (c : Caller) (o : Outcome) → outside_row small c n stage o ≡ o) →
      ((p : Option Path) →
      is_none p ≡ is_none pick → is_frozen w root ≡ false → AlikeHere (call_row small (user_at (k ∷ q)) p stage) (call_row w (user_at me) pick stage)) →
      Quiet root (call_row w (user_at me) pick stage) → KeepsCut w nester slot (moves me pick)
  call_inside pick stage at silent alike calls =
      let t = at.0 in
      inside_law pick t at.3 (silent_counts w small root me (k ∷ q) stage at (λ n o. silent n (user_at (k ∷ q)) o))
      (λ p n e free. by t.mode at.4 p n (alike p e free))
      (rw (at_stage pick stage at.1 at.2 t t.mode at.4) calls.quiet)
    where
      by : (mode : Mode) → mode ≡ Calling (stage ∷ at.1) at.2 →
          (p : Option Path) (n : ℕ) → AlikeHere (call_row small (user_at (k ∷ q)) p stage) (call_row w (user_at me) pick stage) →
          AlikeHere (own_stage small (k ∷ q) p n mode (goes_on small (k ∷ q) p (seen_thread see at.0) mode)) (goes_on w me pick at.0 mode) ×
          AlikeHere (goes_on small (k ∷ q) p (seen_thread see at.0) mode) (goes_on w me pick at.0 mode)
      by mode e p n h = rw e (rw (silent n (user_at (k ∷ q)) (call_row small (user_at (k ∷ q)) p stage), call_closed small (k ∷ q) p stage) h, h)

  pub stage_inside : (pick : Option Path) (stage : Stage) → IsAtStage w me stage → ((n : ℕ) (c : Caller) (o : Outcome) → outside_row small c n stage o ≡ o) →
      ((p : Option Path) →
      is_none p ≡ is_none pick → is_frozen w root ≡ false → AlikeHere (stage_row small (user_at (k ∷ q)) p stage) (stage_row w (user_at me) pick stage)) →
      Quiet root (stage_row w (user_at me) pick stage) → KeepsCut w nester slot (moves me pick)
  stage_inside pick stage at silent alike quiet =
      call_inside pick
      stage at silent (λ p e free. call_row-like (cut-like w nester slot plain) k q p pick stage e (alike p e free)) (quiet-call root w me pick stage quiet)

-- ---- a thread inside stands beneath the root

no_thread : (birth : ℕ) (holder : Option Ptr) (v : Option Body) (t : Thread) → v ≡ Some (Space birth holder) → and_then thread_of v ≡ Some t → ⊥
no_thread birth holder v t e h = let none : and_then thread_of v ≡ None = rw e refl in cc

pub thread_beneath : (w : World) (nester : Path) (slot : ℕ) → IsPlain w nester slot → (x : Path) (t : Thread) →
    is_within (slot ∷ nester) x ≡ true → and_then thread_of (w.body x) ≡ Some t → (k : ℕ) × (q : Path) × (x ≡ k ∷ (q ++ slot ∷ nester))
thread_beneath w nester slot plain x t within at = by (strip (slot ∷ nester) x) refl within
  where
    beneath : (q : Path) → x ≡ q ++ slot ∷ nester → (k : ℕ) × (q : Path) × (x ≡ k ∷ (q ++ slot ∷ nester))
    beneath [] e = absurd (no_thread plain.birth plain.holder (w.body x) t (rw e plain.root) at)
    beneath (k ∷ q) e = (k, q, e)

    by : (o : Option Path) → strip (slot ∷ nester) x ≡ o → is_some o ≡ true → (k : ℕ) × (q : Path) × (x ≡ k ∷ (q ++ slot ∷ nester))
    by None e within = cc
    by (Some q) e within = beneath q (strip_some (slot ∷ nester) x q e)

-- ---- the law for a stage, inside

pub inside_stages : (IsSuch : Stage → Type 0) →
    ((w : World) (nester : Path) (slot : ℕ) → IsPlain w nester slot → (k : ℕ) (q : Path) (pick : Option Path) (stage : Stage) →
    IsSuch stage → IsAtStage w (k ∷ (q ++ slot ∷ nester)) stage → KeepsCut w nester slot (moves (k ∷ (q ++ slot ∷ nester)) pick)) → StageInsideKeepsCut IsSuch
inside_stages IsSuch law w nester slot x pick stage such within at sound plain =
    let under = thread_beneath w nester slot plain x at.0 within at.3 in
    rw under.2 (law w nester slot plain under.0 under.1 pick stage such (rw under.2 at at) sound plain)
