-- The law of the cut for a Send and an Over of a thread inside, to a peer inside or outside.
use Rattle.std.proofs.Common.{◌≡◌, ℕ, ◌%◌, eqb, Bool, true, false, cond, ◌&&◌, ◌||◌, List, [], ◌∷◌, ◌++◌, Option, Some, None, is_some, is_none, option_map}
use Rattle.std.proofs.Common.{Result, Ok, Err, refl, sym, ap, subst, ◌∙◌}
use Rattle.fk_model.specs.declared.limits.TheConstants.{PAGE_WORDS, BLOCK_WORDS}
use Rattle.fk_model.specs.declared.moves.Ask.TheVariants as asks
use Rattle.fk_model.specs.declared.stage.Stage.{Stage}
use Rattle.fk_model.specs.declared.stage.Stage.TheVariants.{ServerSend, ServerOver, ServerOverRef}
use Rattle.fk_model.specs.declared.thread.Turn.{Turn}
use Rattle.fk_model.specs.declared.thread.Turn.TheVariants as turns
use Rattle.fk_model.specs.declared.statuses.status.TheConstants.{DENIED}
use Rattle.fk_model.specs.Places.{Path, strip, is_within, parent, slot_of, Ptr}
use Rattle.fk_model.specs.Objects.{Mode, Peer, Thread}
use Rattle.fk_model.specs.Objects.Peer.{Server, Service, Parked}
use Rattle.fk_model.specs.Objects.Mode.{Calling}
use Rattle.fk_model.specs.World.{World, Change, apply_all}
use Rattle.fk_model.specs.World.Change.{Alter, PutPage}
use Rattle.fk_model.specs.World.Edit.{Shift, Finish, CountMoved, PassTurn}
use Rattle.fk_model.specs.Reach.{Reach, reach_word, words_at}
use Rattle.fk_model.specs.Reach.Reach.{Home, Missing, Bad}
use Rattle.fk_model.specs.Holds.{is_frozen, is_free}
use Rattle.fk_model.specs.Outcomes.{Said, Outcome, ◌>>=◌, when, listed}
use Rattle.fk_model.specs.Outcomes.Outcome.{Refused, Waits, Goes}
use Rattle.fk_model.specs.Outcomes.Said.{Nothing, Words}
use Rattle.fk_model.specs.Readers.{own_page_at, their_page_at}
use Rattle.fk_model.specs.Talks.{Line, receiving, other_side, thread_led_to, is_service_free, awaited}
use Rattle.fk_model.specs.TransferRows.{overwritten, block, has_sent, moved_words, sends_into, sends_to_thread, sends_to, sends, send, passes, passes_to_thread}
use Rattle.fk_model.specs.TransferRows.{may_carry}
use Rattle.fk_model.specs.TransferRows.{passes_to, over, over_ref, takes_turn}
use Rattle.fk_model.specs.LinkRows.{user_at}
use Rattle.fk_model.specs.Moves.{stage_row, is_for_porters, chooses, with_pick, closed, call_row, goes_on, outcome, GoesAllowed, stepped, step}
use Rattle.fk_model.specs.Cut.{ports_of, cut_ptr, cut, IsPlain}
use Rattle.fk_model.specs.Further.{Onward, Told, talks_outside, outside_row, own_stage, own_move, own_row, counted, onward_row, IsOnward}
use Rattle.fk_model.specs.Further.Onward.{Own}
use Rattle.fk_model.specs.Seen.{sends_out, only_fills, writes_inside, words_out, picked_inside, own_of, stage_touch, outer_touch, row_of}
use Rattle.fk_model.specs.Seen.Seen.{Onwards, Unseen, Other}
use Rattle.fk_model.proofs.walks.PlaceLaws.{strip-append}
use Rattle.laws_subtrees.specs.Cut.CutLaws.{KeepsCut, IsAtStage, moves, IsServerSend, IsServerOver, StageInsideKeepsCut, IsServerOverRef}
use Rattle.laws_subtrees.specs.Cut.Likeness.{seen_thread, IsLikeness, under}
use Rattle.laws_subtrees.specs.Cut.LikeChanges.{IsLikeOutcome, IsLikeUnlessWaiting}
use Rattle.laws_subtrees.proofs.InCut.likeness.Instances.{cut-like}
use Rattle.laws_subtrees.proofs.InCut.likeness.Holds.{strip_none, is_free-like, unheld-free}
use Rattle.laws_subtrees.proofs.InCut.likeness.Servers.{client_of-like, cut-served}
use Rattle.laws_subtrees.proofs.InCut.likeness.Outcomes.{unless_waiting, closed-unless}
use Rattle.laws_subtrees.proofs.InCut.likeness.Sends.{send-same, over-same, server_near, over_ref-weak}
use Rattle.laws_subtrees.proofs.InCut.cut.Plain.{AreQuiet, changes-clear, clear-plain, same-plain}
use Rattle.laws_subtrees.proofs.InCut.cut.Inside.{quiet-then, call_row-like, call_closed, thread_seen, has_gone, HasGone, thread_beneath, silent_counts}
use Rattle.laws_subtrees.proofs.InCut.cut.Outside.{untouched, stage_outcome, stage_called}
use Rattle.fk_model.specs.Searches.{thread_at}
use Rattle.laws_subtrees.proofs.InCut.talks.Clients.{alone, picked}

-- ---- rows whose changes are quiet, whatever they tell

pub record Still (root : Path) (o : Outcome) : Type 0 where
  pub quiet : AreQuiet root (listed o)

pub still-goes : {root : Path} {cs : List Change} {said : Said} → AreQuiet root cs → Still root (Goes cs said)
still-goes quiet = record { quiet = quiet }

pub still-waits : {root : Path} → Still root Waits
still-waits = record { quiet = tt }

still-refused : {root : Path} {status : ℕ} → Still root (Refused status)
still-refused = record { quiet = tt }

still->>= : {A : Type 0} (root : Path) (r : Result A ℕ) (go : A → Outcome) → ((a : A) → Still root (go a)) → Still root (r >>= go)
still->>= root (Ok a) go still = still a
still->>= root (Err status) go still = still-refused

pub still-when : (root : Path) (test : Bool) (o : Outcome) → Still root o → Still root (when test o)
still-when root true o still = still
still-when root false o still = still-waits

pub still-if : (root : Path) (test : Bool) (o p : Outcome) → Still root o → Still root p → Still root (cond test o p)
still-if root true o p h g = h
still-if root false o p h g = g

still-own : (root me : Path) (write : Bool) (go : Path → ℕ → Outcome) (r : Reach) →
    ((s : Path) (page : ℕ) → Still root (go s page)) → Still root (own_page_at me write go r)
still-own root me write go (Home s page) still = still s page
still-own root me write go (Missing s page None) still = still-refused
still-own root me write go (Missing s page (Some port)) still = still-goes ((λ out. refl), tt)
still-own root me write go Bad still = still-refused

pub still-their : (root : Path) (go : Path → ℕ → Outcome) (r : Reach) → ((s : Path) (page : ℕ) → Still root (go s page)) → Still root (their_page_at go r)
still-their root go (Home s page) still = still s page
still-their root go (Missing s page keeper) still = still-waits
still-their root go Bad still = still-waits

pub still-picked : (root : Path) (chosen : Bool) (pick : Option Path) (o : Outcome) → Still root o → Still root (with_pick chosen pick o)
still-picked root chosen pick (Refused status) h = still-when root (is_none pick) (Refused status) h
still-picked root chosen pick Waits h = h
still-picked root chosen pick (Goes cs said) h = still-when root (chosen || is_none pick) (Goes cs said) h

still-closed : (root x : Path) (o : Outcome) → Still root o → Still root (closed (user_at x) o)
still-closed root x (Refused status) h = still-goes (tt, tt)
still-closed root x Waits h = h
still-closed root x (Goes cs said) h = h

pub still-call : (root : Path) (w : World) (x : Path) (pick : Option Path) (stage : Stage) →
    Still root (stage_row w (user_at x) pick stage) → Still root (call_row w (user_at x) pick stage)
unfolding call_row
still-call root w x pick stage h =
    still-closed root x _ (still-picked root (chooses stage) pick _ (still-if root (is_for_porters stage) (Refused DENIED) _ still-refused h))

still-sent : (root x : Path) (n count : ℕ) (cs : List Change) (said : Said) → AreQuiet root cs → Still root (has_sent (user_at x) n count cs said)
still-sent root x n count cs said quiet =
    let shifted = quiet-then root cs (Alter (slot_of x ∷ parent x) (Shift n) ∷ []) quiet (tt, tt) in
    still-if root (eqb n count) _ _ (still-goes (quiet-then root (cs ++ Alter (slot_of x ∷ parent x) (Shift n) ∷ []) _ shifted (tt, tt))) (still-goes shifted)

-- ---- a Send

still-into : (root : Path) (w : World) (x client y : Path) (address count : ℕ) (page : List ℕ) (o : Option (ℕ × ℕ)) →
    Still root (sends_into w (user_at x) client y address count page o)
still-into root w x client y address count page None = still-waits
still-into root w x client y address count page (Some receive) =
    let n : ℕ = moved_words address count receive.0 receive.1 in
    still-if root (eqb receive.1 0) _ _ (still-goes (tt, tt)) (still-their root _ (reach_word w (parent y) receive.0 true)
    (λ s other. still-sent root x n count (PutPage s other (overwritten (words_at w s other) (receive.0 % PAGE_WORDS) (block n address page))
    ∷ Alter client (CountMoved n) ∷ Alter y (Shift n) ∷ []) Nothing (tt, (tt, (tt, tt)))))

still-to_thread : (root : Path) (w : World) (x : Path) (side : Turn) (client : Path) (address count : ℕ) (page : List ℕ) (o : Option (Path × Thread)) →
    Still root (sends_to_thread w (user_at x) side client address count page o)
still-to_thread root w x side client address count page None = still-waits
still-to_thread root w x side client address count page (Some e) =
    still-when root (is_free w (parent e.0) e.1) _ (still-into root w x client e.0 address count page (receiving w (parent e.0) (other_side side) e.1.mode))

still-to : (root : Path) (w : World) (x : Path) (side : Turn) (address count : ℕ) (l : Line) (page : List ℕ) (peer : Peer) →
    Still root (sends_to w (user_at x) side l address count page peer)
still-to root w x side address count l page (Server thread) = still-to_thread root w x side l.client address count page (thread_led_to w thread)
still-to root w x side address count l page Service = still-when root (is_service_free w l.talk.port)
    _ (still-sent root x (moved_words address count 0 BLOCK_WORDS) count (Alter l.client (CountMoved (moved_words address count 0 BLOCK_WORDS)) ∷ [])
    (Words l.talk.port (block (moved_words address count 0 BLOCK_WORDS) address page)) (tt, tt))
still-to root w x side address count l page Parked = still-waits

still-sends : (root : Path) (w : World) (x : Path) (side : Turn) (address count : ℕ) (l : Line) → Still root (sends w (user_at x) side address count l)
still-sends root w x side address count l =
    still-if root (eqb count 0) _ _ (still-goes (tt, tt)) (still-own root
    (slot_of x ∷ parent x) false _ (reach_word w (parent x) address false) (λ s page. still-to root w x side address count l (words_at w s page) l.other))

pub still-send : (root : Path) (w : World) (x : Path) (side : Turn) (address count : ℕ) → Still root (send w (user_at x) side address count)
unfolding send
still-send root w x side address count = still->>= root _ _ (still-sends root w x side address count)

-- ---- an Over

still-passes : (root : Path) (x : Path) (side : Turn) (client : Path) (cs : List Change) → AreQuiet root cs → Still root (passes (user_at x) side client cs)
still-passes root x side client cs quiet = still-goes (quiet-then root (cs ++ Alter client (PassTurn (other_side side)) ∷ [])
    (Alter (slot_of x ∷ parent x) (Finish []) ∷ []) (quiet-then root cs (Alter client (PassTurn (other_side side)) ∷ []) quiet (tt, tt)) (tt, tt))

still-takes : (root y : Path) (carried : Option Ptr) (to : Option ℕ) → AreQuiet root (takes_turn y carried to)
still-takes root y None to = (tt, tt)
still-takes root y (Some p) None = (tt, tt)
still-takes root y (Some p) (Some k) = (tt, (tt, tt))

still-passes_to : (root : Path) (w : World) (x : Path) (side : Turn) (l : Line) (carried : Option Ptr) (peer : Peer) →
    Still root (passes_to w (user_at x) side l carried peer)
still-passes_to root w x side l carried (Server thread) = by (thread_led_to w thread)
  where
    by : (o : Option (Path × Thread)) → Still root (passes_to_thread w (user_at x) side l.client carried o)
    by None = still-waits
    by (Some e) = still-when root (is_free w (parent e.0) e.1 && is_some (receiving w (parent e.0) (other_side side) e.1.mode))
        _ (still-passes root x side l.client (takes_turn e.0 carried (awaited e.1.mode)) (still-takes root e.0 carried (awaited e.1.mode)))
still-passes_to root w x side l carried Service =
    still-when root (is_service_free w l.talk.port) _ (still-goes (still-passes root x side l.client [] tt).quiet)
still-passes_to root w x side l carried Parked = still-waits

pub still-over : (root : Path) (w : World) (x : Path) (side : Turn) (carried : Option Ptr) → Still root (over w (user_at x) side carried)
unfolding over
still-over root w x side carried = still->>= root _ _
    (λ l. still-when root (may_carry w (slot_of x ∷ parent x) carried) _ (still-passes_to root w x side l carried l.other))

pub still-over_ref : (root : Path) (w : World) (x : Path) (side : Turn) (reference : ℕ) → Still root (over_ref w (user_at x) side reference)
unfolding over_ref
still-over_ref root w x side reference = still->>= root _ _ (λ p. still-over root w x side (Some p))

-- ---- a row that leaves the cut as it was

pub still-plain : (w : World) (nester : Path) (slot : ℕ) → IsPlain w nester slot →
    (o : Outcome) → Still (slot ∷ nester) o → cut (stepped w o).world nester slot ≡ cut w nester slot → IsPlain (stepped w o).world nester slot
still-plain w nester slot plain (Goes cs said) still same =
    same-plain w (apply_all cs w) nester slot plain same (changes-clear (slot ∷ nester) w cs still.quiet (clear-plain w nester slot plain))
still-plain w nester slot plain Waits still same = plain
still-plain w nester slot plain (Refused status) still same = plain

-- a thread outside at a stage that is no touch
pub still_outside : (w : World) (nester : Path) (slot : ℕ) → IsPlain w nester slot → (x : Path) (pick : Option Path) (stage : Stage) →
    is_within (slot ∷ nester) x ≡ false → IsAtStage w x stage → ((cs : List Change) → stage_touch w (slot ∷ nester) (user_at x) pick cs stage ≡ None) →
    Still (slot ∷ nester) (stage_row w (user_at x) pick stage) → KeepsCut w nester slot (moves x pick)
unfolding step
still_outside w nester slot plain x pick stage out at none still sound same fit ready (Onwards m) seen =
    let untold : outer_touch w (slot ∷ nester)
    x pick asks.Run (outcome w x pick asks.Run) ≡ None = rw (stage_called w nester slot plain x stage at) (none (listed (outcome w x pick asks.Run))) in
    absurd (untouched w
    nester slot plain (moves x pick) (outcome w x pick asks.Run) (strip (slot ∷ nester) x) m (strip_none (slot ∷ nester) x out) untold seen.1)
still_outside w nester slot plain x pick stage out at none still sound same fit ready Unseen seen =
    let is = stage_outcome w nester slot plain x pick stage at in
    still-plain w nester slot plain (outcome w x pick asks.Run) (rw is.1
    (still-when (slot ∷ nester) (is_free w (parent x) is.0) (call_row w (user_at x) pick stage) (still-call (slot ∷ nester) w x pick stage still))) seen.1.0
still_outside w nester slot plain x pick stage out at none still sound same fit ready Other seen = tt

-- ---- a row of its own

-- a thread of the subtree that is seen alone and moves by itself
pub own_is : (c : World) (x : Path) (p : Option Path) (n : ℕ) (t : Thread) (stage : Stage) (todo : List Stage) (rest : List ℕ) →
    t.mode ≡ Calling (stage ∷ todo) rest → own_move c x p n t ≡
    cond (talks_outside c x && is_none p)
    (when (is_free c (parent x) t) (closed (user_at x) (outside_row c (user_at x) n stage (call_row c (user_at x) p stage))))
    (when (is_free c (parent x) t) (call_row c (user_at x) p stage))
own_is c x p n t stage todo rest e = by t.mode e
  where
    by : (mode : Mode) → mode ≡ Calling (stage ∷ todo) rest → cond (talks_outside c x && is_none p)
        (when (is_free c (parent x) t) (own_stage c x p n mode (goes_on c x p t mode))) (when (is_free c (parent x) t) (goes_on c x p t mode)) ≡
        cond (talks_outside c x && is_none p)
        (when (is_free c (parent x) t) (closed (user_at x) (outside_row c (user_at x) n stage (call_row c (user_at x) p stage))))
        (when (is_free c (parent x) t) (call_row c (user_at x) p stage))
    by mode e = rw e refl

pub either_way : (root : Path) (see : Ptr → Ptr) (big : World) (n : ℕ) (test free : Bool) (own other far : Outcome) → free ≡ true →
    (test ≡ true → IsLikeUnlessWaiting root see big (counted n own) far) → (test ≡ false → IsLikeUnlessWaiting root see big (counted n other) far) →
    IsLikeUnlessWaiting root see big (counted n (cond test (when free own) (when free other))) far
either_way root see big n true free own other far e h g = rw e (h refl)
either_way root see big n false free own other far e h g = rw e (g refl)

module _ (w : World) (nester : Path)
    (slot : ℕ) (plain : IsPlain w nester slot) (k : ℕ) (q : Path) (pick : Option Path) (stage : Stage) (at : IsAtStage w (k ∷ (q ++ slot ∷ nester)) stage) where
  abbrev root : Path
  root = slot ∷ nester

  abbrev see : Ptr → Ptr
  see = cut_ptr (ports_of w nester slot) nester slot

  abbrev small : World
  small = cut w nester slot

  abbrev me : Path
  me = k ∷ (q ++ root)

  abbrev AlikeHere : Outcome → Outcome → Type 0
  AlikeHere = IsLikeOutcome root see w

  abbrev t : Thread
  t = at.0

  abbrev far : Outcome
  far = call_row w (user_at me) pick stage

  outcome_is : outcome w me pick asks.Run ≡ when (is_free w (q ++ root) t) far
  unfolding outcome
  outcome_is = rw (at.3) (by t.mode at.4)
    where
      by : (mode : Mode) → mode ≡ Calling (stage ∷ at.1) at.2 → when (is_free w (q ++ root) t) (goes_on w me pick t mode) ≡ when (is_free w (q ++ root) t) far
      by mode e = rw e refl

  -- what the row of the cut comes to, where the world's is `far`
  abbrev own : Option Path → ℕ → Outcome
  own p n = own_move small (k ∷ q) p n (seen_thread see t)

  abbrev Gone : Onward → World → Type 0
  Gone m later = IsPlain later nester slot × ((told : List Told) × IsOnward small m told (cut later nester slot))

  gone : (p : Option Path) (n : ℕ) → Still root far → is_free w (q ++ root) t ≡ true →
      IsLikeUnlessWaiting root see w (counted n (own p n)) far → GoesAllowed w me far → Gone (Own (k ∷ q) p n) (stepped w far).world
  unfolding onward_row
  gone p n still free alike ready = by (thread_at small (k ∷ q)) (rw ((cut-like w nester slot plain).bodies (k ∷ q)) (thread_seen see k q (w.body me) t at.3))
    where
      by : (o : Option Thread) → o ≡ Some (seen_thread see t) → HasGone w nester slot plain k q (Own (k ∷ q) p n) (counted n (own_row small (k ∷ q) p n o)) far
      by o e =
          rw e (has_gone w nester slot plain k q p n (counted n (own p n)) far (unheld-free (cut-like w nester slot plain) q t free) alike still.quiet ready)

  seen_own : (test : Bool) (n : ℕ) (r : Option (Option Path)) (m : Onward) →
      cond test None (option_map (λ (p : Option Path). Own (k ∷ q) p n) r) ≡ Some m → (p : Option Path) × (test ≡ false) × (r ≡ Some p) × (m ≡ Own (k ∷ q) p n)
  seen_own true n r m h = cc
  seen_own false n None m h = cc
  seen_own false n (Some p) m h = (p, refl, refl, cc)

  picked_alike : (pick p : Option Path) → picked_inside root pick ≡ Some p → is_none p ≡ is_none pick
  picked_alike None p h = let e : p ≡ None = cc in rw e refl
  picked_alike (Some x) p h = deeper (strip root x) h
    where
      deeper : (o : Option Path) → option_map (λ (z : Path). Some z) o ≡ Some p → is_none p ≡ false
      deeper None h = cc
      deeper (Some z) h = let e : p ≡ Some z = cc in rw e refl

  row_inside : (o : Outcome) (r : Option Path) (m : Onward) →
      r ≡ Some (k ∷ q) → row_of w root (moves me pick) o r ≡ Some m → own_of w root me (k ∷ q) pick (listed o) ≡ Some m
  row_inside o r m is = rw is (λ h. h)

  not_through : (a b within other : Bool) → within ≡ true → (a && cond within b other) ≡ false → (a && b) ≡ false
  not_through a b within other is h = rw is at h

  -- the law, where the row of the cut is alike whenever the move is seen as its own
  pub own_law : Still root far →
      ((p : Option Path) → is_none p ≡ is_none pick → is_frozen w root ≡ false → is_free w (q ++ root) t ≡ true →
      (sends_out w root me && only_fills root (listed far)) ≡ false → (writes_inside root (listed far) && sends_out w root me) ≡ false →
      IsLikeUnlessWaiting root see w (counted (words_out w root me (listed far)) (own p (words_out w root me (listed far)))) far) →
      KeepsCut w nester slot (moves me pick)
  unfolding step
  own_law still alike sound same fit ready (Onwards m) seen = by (is_free w (q ++ root) t) refl
    where
      by : (b : Bool) → is_free w (q ++ root) t ≡ b → Gone m (stepped w (outcome w me pick asks.Run)).world
      by false e = absurd (subst (λ (o : Outcome). GoesAllowed w me o) (outcome_is ∙ ap (λ (b : Bool). when b far) e) ready)
      by true e =
          let here : outcome w me pick asks.Run ≡ far = outcome_is ∙ ap (λ (b : Bool). when b far) e in
          let shown = row_inside (outcome w me pick asks.Run) (strip root me) m (strip-append root (k ∷ q)) seen.1 in
          let form = seen_own (sends_out w root me && only_fills root (listed far)) (words_out w root me (listed far))
          (picked_inside root pick) m (subst (λ (o : Outcome). own_of w root me (k ∷ q) pick (listed o) ≡ Some m) here shown) in
          let through = not_through (writes_inside root (listed (outcome w me pick asks.Run)))
          (sends_out w root me) (is_within root me) _ (ap is_some (strip-append root (k ∷ q))) seen.0 in
          let free = unheld-free (cut-like w nester slot plain) q t e in
          let near = alike form.0 (picked_alike pick form.0 form.2)
          free e form.1 (subst (λ (o : Outcome). (writes_inside root (listed o) && sends_out w root me) ≡ false) here through) in
          rw form.3 (subst (λ (o : Outcome). Gone (Own (k ∷ q) form.0 (words_out w root me (listed far))) (stepped w o).world)
          (sym here) (gone form.0 _ still e near (subst (λ (o : Outcome). GoesAllowed w me o) here ready)))
  own_law still alike sound same fit ready Unseen seen =
      still-plain w nester slot plain
      (outcome w me pick asks.Run) (subst (λ (o : Outcome). Still root o) (sym outcome_is) (still-when root (is_free w (q ++ root) t) far still)) seen.1.0
  own_law still alike sound same fit ready Other seen = tt

  -- where a peer outside makes no difference
  pub silent_law_weak : ((n : ℕ) (o : Outcome) → outside_row small (user_at (k ∷ q)) n stage o ≡ o) → Still root (stage_row w (user_at me) pick stage) →
      ((p : Option Path) → is_none p ≡ is_none pick → is_frozen w root ≡ false →
      IsLikeUnlessWaiting root see w (call_row small (user_at (k ∷ q)) p stage) far) → KeepsCut w nester slot (moves me pick)
  silent_law_weak silent still alike =
      own_law (still-call root w me pick stage still)
      (λ p e free f fills through.
      let like = cut-like w nester slot plain in
      let row = alike p e free in
      let n : ℕ = words_out w root me (listed far) in
      let none : n ≡ 0 = silent_counts w small root me (k ∷ q) stage at silent (listed far) in
      rw (own_is small (k ∷ q) p n (seen_thread see t) stage at.1 at.2 at.4)
      (either_way root see w n (talks_outside small (k ∷ q) && is_none p) (is_free small q (seen_thread see t)) _ _ far (is_free-like like free q t ∙ f)
      (λ on. rw (none, silent 0 (call_row small (user_at (k ∷ q)) p stage), call_closed small (k ∷ q) p stage) row) (λ off. rw none row)))

  pub silent_law : ((n : ℕ) (o : Outcome) → outside_row small (user_at (k ∷ q)) n stage o ≡ o) → Still root (stage_row w (user_at me) pick stage) →
      ((p : Option Path) → is_frozen w root ≡ false → AlikeHere (stage_row small (user_at (k ∷ q)) p stage) (stage_row w (user_at me) pick stage)) →
      KeepsCut w nester slot (moves me pick)
  silent_law silent still alike = silent_law_weak silent still
      (λ p e free. let like = cut-like w nester slot plain in unless_waiting like _ _ (call_row-like like k q p pick stage e (alike p free)))

-- ---- by a server

pub server_send_keeps : StageInsideKeepsCut IsServerSend
server_send_keeps w nester slot x pick stage such within at sound plain =
    let under = thread_beneath w nester slot plain x at.0 within at.3 in
    rw under.2 (law under.0 under.1 (rw (under.2, such.2) at at) sound plain)
  where
    law : (k : ℕ) (q : Path) →
        IsAtStage w (k ∷ (q ++ slot ∷ nester)) (ServerSend such.0 such.1) → KeepsCut w nester slot (moves (k ∷ (q ++ slot ∷ nester)) pick)
    law k q at sound plain =
        let like = cut-like w nester slot plain in
        silent_law w nester
        slot plain k q pick (ServerSend such.0 such.1) at (λ n o. refl) (still-send (slot ∷ nester) w (k ∷ (q ++ slot ∷ nester)) turns.Server such.0 such.1)
        (λ p free. (send-same like free k q turns.Server
        such.0 such.1 (server_near like (k ∷ q) (client_of-like like (cut-served w nester slot sound.valid plain sound.few) (k ∷ q)))).0) sound plain

pub server_over_keeps : StageInsideKeepsCut IsServerOver
server_over_keeps w nester slot x pick stage such within at sound plain =
    let under = thread_beneath w nester slot plain x at.0 within at.3 in
    rw under.2 (law under.0 under.1 (rw (under.2, such) at at) sound plain)
  where
    law : (k : ℕ) (q : Path) → IsAtStage w (k ∷ (q ++ slot ∷ nester)) ServerOver → KeepsCut w nester slot (moves (k ∷ (q ++ slot ∷ nester)) pick)
    law k q at sound plain =
        let like = cut-like w nester slot plain in
        silent_law w nester slot plain k q pick ServerOver at (λ n o. refl) (still-over (slot ∷ nester) w (k ∷ (q ++ slot ∷ nester)) turns.Server None)
        (λ p free. (over-same like free
        k q turns.Server None None tt refl
        (server_near like (k ∷ q) (client_of-like like (cut-served w nester slot sound.valid plain sound.few) (k ∷ q)))).0) sound plain

-- a call of no pick that is for users, where its stage is alike unless the other end isn't ready
pub call_weak : {root : Path} {see : Ptr → Ptr} {small big : World} (like : IsLikeness root see small big) (k : ℕ) (q : Path) (p pick : Option Path)
    (stage : Stage) →
    chooses stage ≡ false → is_for_porters stage ≡ false → is_none p ≡ is_none pick →
    IsLikeUnlessWaiting root see big (stage_row small (user_at (k ∷ q)) None stage) (stage_row big (user_at (k ∷ (q ++ root))) None stage) →
    IsLikeUnlessWaiting root see big (call_row small (user_at (k ∷ q)) p stage) (call_row big (user_at (k ∷ (q ++ root))) pick stage)
call_weak {root} {see} {small} {big} like k q p (Some y) stage picks users e h = rw (picked big (k ∷ (q ++ root)) y stage picks) tt
call_weak {root} {see} {small} {big} like k q None None stage picks users e h =
    rw (alone small (k ∷ q) stage picks users, alone big (k ∷ (q ++ root)) stage picks users) (closed-unless like (user_at (k ∷ q)) _ _ h)
call_weak like k q (Some y) None stage picks users e h = cc

pub server_over_ref_keeps : StageInsideKeepsCut IsServerOverRef
server_over_ref_keeps w nester slot x pick stage such within at sound plain =
    let under = thread_beneath w nester slot plain x at.0 within at.3 in
    rw under.2 (law under.0 under.1 (rw (under.2, such.1) at at) sound plain)
  where
    law : (k : ℕ) (q : Path) → IsAtStage w (k ∷ (q ++ slot ∷ nester)) (ServerOverRef such.0) → KeepsCut w nester slot (moves (k ∷ (q ++ slot ∷ nester)) pick)
    law k q at sound plain =
        let like = cut-like w nester slot plain in
        silent_law_weak w nester slot plain k q pick (ServerOverRef such.0) at (λ n o. refl)
        (still-over_ref (slot ∷ nester) w (k ∷ (q ++ slot ∷ nester)) turns.Server such.0)
        (λ p e free. call_weak like k q p pick (ServerOverRef such.0) refl refl e (over_ref-weak like free
        k q turns.Server such.0 (server_near like (k ∷ q) (client_of-like like (cut-served w nester slot sound.valid plain sound.few) (k ∷ q))))) sound plain
