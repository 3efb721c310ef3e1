-- The law of the cut for an Over of a server outside: the subtree sees that a thread of it is handed the turn.
use Rattle.std.proofs.Common.{◌≡◌, ℕ, Bool, true, false, cond, ◌&&◌, List, [], ◌∷◌, ◌++◌, Option, Some, None, is_some, is_none, option_map, Ok, Err, refl, sym}
use Rattle.std.proofs.Common.{IfSome, ◌||◌}
use Rattle.std.proofs.Common.{ap, subst, ◌∙◌, Result, not}
use Rattle.std.proofs.lemmas.Bool.{and_parts}
use Rattle.fk_model.specs.declared.moves.Ask.TheVariants as asks
use Rattle.fk_model.specs.declared.statuses.status.TheConstants.{WRONGTURN}
use Rattle.fk_model.specs.declared.stage.Stage.TheVariants.{ServerOver, ServerOverRef}
use Rattle.fk_model.specs.declared.thread.Turn.{Turn}
use Rattle.fk_model.specs.declared.thread.Turn.TheVariants as turns
use Rattle.fk_model.specs.Places.{Path, same_path, strip, is_within, parent, slot_of, Ptr}
use Rattle.fk_model.specs.Places.Ptr.{At}
use Rattle.fk_model.specs.Objects.{Mode, Talk, Thread, Body, thread_of, and_then, kind_of, reference_of}
use Rattle.fk_model.specs.Objects.Mode.{Calling}
use Rattle.fk_model.specs.Objects.Peer.{Server}
use Rattle.fk_model.specs.Objects.Body.{Thread_of}
use Rattle.fk_model.specs.World.{World, on_talk, finished_in, edited, apply, apply_all, Change}
use Rattle.fk_model.specs.World.Change.{Alter}
use Rattle.fk_model.specs.World.Edit.{Finish, PassTurn, SetPointer}
use Rattle.fk_model.specs.Searches.{client_of, thread_at, option_list}
use Rattle.fk_model.specs.Holds.{is_free, is_frozen, leads_to_frozen}
use Rattle.fk_model.specs.Outcomes.{Outcome, ◌>>=◌, when, listed}
use Rattle.fk_model.specs.Outcomes.Outcome.{Refused, Waits, Goes}
use Rattle.fk_model.specs.Outcomes.Said.{Nothing}
use Rattle.fk_model.specs.Talks.{Line, line, same_side, receiving, thread_led_to, awaited, is_handled}
use Rattle.fk_model.specs.TransferRows.{passes_to_thread, passes_to, over, may_carry, over_ref, passes, passes_on, taken_answers, takes_turn, awaits, receive}
use Rattle.fk_model.specs.LinkRows.{user_at}
use Rattle.fk_model.specs.Moves.{with_pick, closed, call_row, outcome, IsReady, stepped, step, GoesAllowed, stage_row}
use Rattle.fk_model.specs.Valid.{is_fit, IsConsistent, is_one_of, kind_there, may_lead}
use Rattle.fk_model.specs.Whole.{IsWhole}
use Rattle.fk_model.specs.Cut.{is_out, ports_of, cut_ptr, cut, IsPlain, is_far, seen_by}
use Rattle.fk_model.specs.Further.{Touch, Onward, Told, touch_row, IsOnward, is_named, leads_to_held, may_take}
use Rattle.fk_model.specs.Further.Touch.{Handed, HandedWith}
use Rattle.fk_model.specs.Further.Onward.{ByOthers}
use Rattle.fk_model.specs.Seen.{Seen, passes_turn, on_inner, IsSeen, handed_as, handed_by, over_touch, stage_touch}
use Rattle.fk_model.specs.Seen.Seen.{Onwards, Unseen, Other}
use Rattle.fk_model.proofs.walks.PlaceLaws.{strip-append}
use Rattle.laws_subtrees.specs.Cut.CutLaws.{HasDone, KeepsCut, IsAtStage, moves, IsServerOver, StageKeepsCut, IsServerOverRef}
use Rattle.laws_subtrees.specs.Cut.Likeness.{seen_thread, HasLikeness, IsLikeness, IsPlainBody, PtrLikeness, under}
use Rattle.laws_subtrees.specs.Cut.LikeChanges.LikeChange.{Alters}
use Rattle.laws_subtrees.specs.Cut.LikeChanges.LikeChanges.{Empty, Both, Beyond}
use Rattle.laws_subtrees.proofs.InCut.likeness.Reads.{kind-there}
use Rattle.laws_subtrees.proofs.InCut.likeness.Instances.{cut-like, cut_ptr-like}
use Rattle.laws_subtrees.proofs.InCut.likeness.Holds.{strip_none, is_free-like, unheld-free}
use Rattle.laws_subtrees.proofs.InCut.cut.Inside.{thread_seen, thread_beneath}
use Rattle.laws_subtrees.proofs.InCut.cut.Outside.{stage_outcome, stage_called}
use Rattle.laws_subtrees.proofs.InCut.cut.Pages.{has_touched, seen_outside, taken_row, stands_in_slot}
use Rattle.laws_subtrees.proofs.InCut.talks.Sends.{Still}
use Rattle.laws_subtrees.proofs.InCut.talks.Sends.{still-when, still-call, still-over, still-plain, server_over_keeps, server_over_ref_keeps, still-over_ref}
use Rattle.laws_subtrees.proofs.InCut.talks.Given.{its_client, served_outward, thawed}
use Rattle.laws_subtrees.specs.Cut.Likeness.PtrLikeness.{Deads, Inside, Nulls, PortAt, PortOut}
use Rattle.laws_moves.proofs.InRows.Handles.{IsReferenceIn, received-handled, reference-in}
use Rattle.fk_model.specs.Freezing.{MayAlter, are_unfrozen, changed_pointers}
use Rattle.fk_model.specs.declared.stage.Stage.{Stage}
use Rattle.laws_moves.proofs.InMachine.safety.Reads.{object_in-found}
use Rattle.fk_model.specs.Readers.{object_in}
use Rattle.fk_model.specs.StateRows.{referable}
use Rattle.laws_moves.proofs.InMachine.safety.Objects.{reference-leads, reference-there}
use Rattle.fk_model.specs.Instructions.{next}
use Rattle.laws_subtrees.proofs.InCut.likeness.Sends.{receiving-like}
use Rattle.laws_subtrees.proofs.InCut.talks.Accepts.{outward}

-- ---- a Receive that ends before the turn is passed, or after

body_either : (turn : Turn) (answers : List ℕ) (b : Body) →
    edited (PassTurn turn) (edited (Finish answers) b) ≡ edited (Finish answers) (edited (PassTurn turn) b)
unfolding edited
body_either turn answers (Thread_of t) = by t.mode
  where
    by : (m : Mode) → Thread_of (on_talk (λ talk. record talk { turn = turn; moved = 0 }) (finished_in answers t m)) ≡ Thread_of
        (finished_in answers (on_talk (λ talk. record talk { turn = turn; moved = 0 }) t) m)
    by (Calling [] rest) = refl
    by (Calling (stage ∷ []) rest) = refl
    by (Calling (stage ∷ then ∷ todo) rest) = refl
    by m = refl
body_either turn answers b = refl

there_either : (turn : Turn) (answers : List ℕ) (b : Bool) (v : Option Body) →
    cond b (option_map (edited (PassTurn turn)) (cond b (option_map (edited (Finish answers)) v) v)) (cond b (option_map (edited (Finish answers)) v) v) ≡
    cond b (option_map (edited (Finish answers)) (cond b (option_map (edited (PassTurn turn)) v) v)) (cond b (option_map (edited (PassTurn turn)) v) v)
there_either turn answers true None = refl
there_either turn answers true (Some b) = ap (λ (d : Body). Some d) (body_either turn answers b)
there_either turn answers false v = refl

either_order : (turn : Turn) (answers : List ℕ) (x : Path) (w : World) →
    apply (Alter x (PassTurn turn)) (apply (Alter x (Finish answers)) w) ≡ apply (Alter x (Finish answers)) (apply (Alter x (PassTurn turn)) w)
unfolding apply
either_order turn answers x w = λ i. record { body = λ q. there_either turn answers (same_path q x) (w.body q) i; page = w.page; next = w.next }

-- ---- the turn is handed

-- what the row of a turn that is passed leaves, where it is seen as this touch
module _ (w : World) (nester : Path) (slot : ℕ) (plain : IsPlain w nester slot) (x : Path) where
  abbrev IsHanded : Option Touch → World → Type 0
  IsHanded seen later = (touch : Touch) → seen ≡ Some touch →
      IsPlain later nester slot × ((told : List Told) × IsOnward (cut w nester slot) (ByOthers touch) told (cut later nester slot))

  -- where the row passes the turn, and may, it has been handed
  abbrev Hands : Option Touch → Outcome → Type 0
  Hands seen o = GoesAllowed w (slot_of x ∷ parent x) o → passes_turn (listed o) ≡ true → IsHanded seen (stepped w o).world

  no_hands : (seen : Option Touch) (o : Outcome) → passes_turn (listed o) ≡ false → Hands seen o
  no_hands seen o off ready on = let clash : true ≡ false = sym on ∙ off in cc

  hands-closed : (seen : Option Touch) (o : Outcome) → Hands seen o → Hands seen (closed (user_at x) o)
  hands-closed seen (Refused status) h = no_hands seen (closed (user_at x) (Refused status)) refl
  hands-closed seen Waits h = h
  hands-closed seen (Goes cs said) h = h

  hands-when : (seen : Option Touch) (b : Bool) (o : Outcome) → (b ≡ true → Hands seen o) → Hands seen (when b o)
  hands-when seen true o h = h refl
  hands-when seen false o h = no_hands seen Waits refl

  hands-picked : (seen : Option Touch) (pick : Option Path) (o : Outcome) → Hands seen o → Hands seen (with_pick false pick o)
  hands-picked seen pick (Refused status) h = hands-when seen (is_none pick) (Refused status) (λ on. h)
  hands-picked seen pick Waits h = h
  hands-picked seen pick (Goes cs said) h = hands-when seen (is_none pick) (Goes cs said) (λ on. h)

-- a reference may hold this pointer
abbrev CanHold : World → Option Ptr → Type 0
CanHold w carried = IfSome carried (λ p. may_lead (kind_there w) referable p ≡ true)

kind_map : (o : Option Body) → option_map kind_of o ≡ and_then (λ b. Some (kind_of b)) o
kind_map None = refl
kind_map (Some b) = refl

module _ (w : World) (nester : Path) (slot : ℕ) (plain : IsPlain w nester slot) (valid : IsConsistent w) (x : Path)
    (out : is_within (slot ∷ nester) (slot_of x ∷ parent x) ≡ false)
    (k : ℕ) (z : Path) (t : Thread) (is : and_then thread_of (w.body (k ∷ (z ++ slot ∷ nester))) ≡ Some t)
    (talk : Talk) (its : t.talk ≡ Some talk) (outward : is_out (cut_ptr (ports_of w nester slot) nester slot talk.port) ≡ true) where
  abbrev root : Path
  root = slot ∷ nester

  abbrev see : Ptr → Ptr
  see = cut_ptr (ports_of w nester slot) nester slot

  abbrev small : World
  small = cut w nester slot

  abbrev me : Path
  me = slot_of x ∷ parent x

  abbrev client : Path
  client = k ∷ (z ++ root)

  like : IsLikeness root see small w
  like = cut-like w nester slot plain

  -- as which touch it is seen
  abbrev seen_as : Option Ptr → Option Touch
  seen_as carried = handed_by w root carried client (k ∷ z)

  abbrev seen_by_reference : Option ℕ → Option Ptr → Option Touch
  seen_by_reference to None = Some (Handed (k ∷ z))
  seen_by_reference to (Some p) = handed_as (k ∷ z) to (see p)

  seen_is : (carried : Option Ptr) → seen_as carried ≡ seen_by_reference (awaited t.mode) carried
  seen_is None = refl
  seen_is (Some p) = ap (λ (o : Option Thread). handed_as (k ∷ z) (and_then (λ (t : Thread). awaited t.mode) o) (see p)) is

  module _ (turn : same_side talk.turn turns.Server ≡ true)
      (free : is_free w (z ++ root) t ≡ true) (receive : ℕ × ℕ) (awaits : receiving w (z ++ root) turns.Client t.mode ≡ Some receive) where
    here : thread_at small (k ∷ z) ≡ Some (seen_thread see t)
    here = rw (like.bodies (k ∷ z)) (thread_seen see k z (w.body client) t is)

    root_free : is_frozen w root ≡ false
    root_free = unheld-free like z t free

    free_here : is_free small z (seen_thread see t) ≡ true
    free_here = is_free-like like root_free z t ∙ free

    near_awaits : receiving small z turns.Client t.mode ≡ Some receive
    near_awaits = receiving-like like z turns.Client t.mode ∙ awaits

    -- ---- without a pointer

    handed_row : touch_row small (Handed (k ∷ z)) ≡
        Goes (Alter (k ∷ z) (PassTurn turns.Client) ∷ Alter (k ∷ z) (Finish (taken_answers (awaited t.mode) None)) ∷ []) Nothing
    unfolding touch_row
    handed_row = rw (here, free_here, its, near_awaits) (rw (outward, turn) refl)

    -- by a thread, whose own part comes last
    abbrev far_changes : List ℕ → List Change
    far_changes answers = Alter client (Finish answers) ∷ Alter client (PassTurn turns.Client) ∷ Alter me (Finish []) ∷ []

    handed_alone : (answers : List ℕ) → taken_answers (awaited t.mode) None ≡ answers → IsHanded w nester slot plain x (Some (Handed (k ∷ z)))
        (apply_all (far_changes answers) w)
    unfolding apply_all
    handed_alone answers e touch seen =
        let form : touch ≡ Handed (k ∷ z) = cc in
        rw (form, either_order turns.Client answers client w)
        (has_touched w nester slot plain (Handed (k ∷ z)) (Alter (k ∷ z) (PassTurn turns.Client) ∷ Alter (k ∷ z) (Finish answers) ∷ [])
        (Alter client (PassTurn turns.Client) ∷ Alter client (Finish answers) ∷ Alter me (Finish []) ∷ []) Nothing
        (handed_row ∙ ap (λ (a : List ℕ). Goes (Alter (k ∷ z) (PassTurn turns.Client) ∷ Alter (k ∷ z) (Finish a) ∷ []) Nothing) e)
        (Both (Alters k z _ (PassTurn turns.Client) refl tt) (Both (Alters k z _ (Finish answers) refl tt) (Beyond out Empty))) (tt, (tt, (tt, tt))))

    -- ---- with one

    -- what may be changed by one outside is held by nobody inside
    loose : (p seen : Ptr) → PtrLikeness root w p seen → leads_to_frozen w me p ≡ false → leads_to_held small seen ≡ false
    loose _ _ Nulls h = refl
    loose _ _ Deads h = refl
    loose _ _ (Inside y) h = thawed w nester slot plain valid me out root_free y h
    loose _ _ (PortAt y i apart kind) h = refl
    loose _ _ (PortOut old i) h = refl

    named_here : (p seen : Ptr) → PtrLikeness root w p seen → may_lead (kind_there w) referable p ≡ true → is_named small seen ≡ true
    unfolding kind_there
    named_here _ _ Nulls may = refl
    named_here _ _ Deads may = refl
    named_here _ _ (Inside y) may =
        ap (is_one_of referable) (kind_map (small.body y) ∙ kind-there like y ∙ sym (kind_map (w.body (y ++ root)))) ∙ may
    named_here _ _ (PortAt y i apart kind) may = refl
    named_here _ _ (PortOut old i) may = refl

    one_off : (p : Ptr) → are_unfrozen w me (p ∷ []) ≡ true → leads_to_frozen w me p ≡ false
    one_off p = by (leads_to_frozen w me p)
      where
        by : (b : Bool) → not (b || false) ≡ true → b ≡ false
        by false h = refl
        by true h = cc

    module _ (p : Ptr) (may : may_lead (kind_there w) referable p ≡ true) (i : ℕ) (to : awaited t.mode ≡ Some i) (near : is_far (see p) ≡ false) where
      has : HasLikeness root see w p
      has = cut_ptr-like w nester slot p near

      reference : IsReferenceIn w (z ++ root) i
      reference = reference-in w (z ++ root) i (ap (is_handled w (z ++ root)) (sym to) ∙ received-handled w (z ++ root) turns.Client t.mode receive awaits)

      old_seen : HasLikeness root see w reference.old
      old_seen = subst (λ (o : Option Body). IfSome o (IsPlainBody see (HasLikeness root see w))) reference.there (like.plain i z)

      old_there : and_then reference_of (small.body (i ∷ z)) ≡ Some (see reference.old)
      unfolding seen_by
      old_there = rw (like.bodies (i ∷ z), reference.there) refl

      takes : MayAlter w me (i ∷ (z ++ root)) (SetPointer p) → may_take small z (see p) i ≡ true
      takes allowed =
          let free_new = loose p (see p) has (one_off p allowed.made) in
          let free_old = loose reference.old (see reference.old) old_seen (one_off reference.old
          (subst (λ (o : Option Body). are_unfrozen w me (option_list (changed_pointers (SetPointer p)) o) ≡ true) reference.there allowed.changed)) in
          rw (named_here p (see p) has may, free_new, old_there) (rw free_old refl)

      with_row : may_take small z (see p) i ≡ true → touch_row small (HandedWith (k ∷ z) (see p)) ≡
          Goes (Alter (i ∷ z) (SetPointer (see p)) ∷ Alter (k ∷ z) (PassTurn turns.Client) ∷ Alter (k ∷ z) (Finish (1 ∷ [])) ∷ []) Nothing
      unfolding touch_row
      with_row takes = rw (here, free_here, its, near_awaits) (rw (outward, turn, to) (rw takes refl))

      handed_over : MayAlter w me (i ∷ (z ++ root)) (SetPointer p) → IsHanded w nester slot plain x (Some (HandedWith (k ∷ z) (see p)))
          (apply_all (Alter (i ∷ (z ++ root)) (SetPointer p) ∷ far_changes (1 ∷ [])) w)
      unfolding apply_all
      handed_over allowed touch seen =
          let form : touch ≡ HandedWith (k ∷ z) (see p) = cc in
          rw (form, either_order turns.Client (1 ∷ []) client (apply (Alter (i ∷ (z ++ root)) (SetPointer p)) w))
          (has_touched w nester slot plain (HandedWith (k ∷ z) (see p))
          (Alter (i ∷ z) (SetPointer (see p)) ∷ Alter (k ∷ z) (PassTurn turns.Client) ∷ Alter (k ∷ z) (Finish (1 ∷ [])) ∷ [])
          (Alter (i ∷ (z ++ root)) (SetPointer p) ∷ Alter client (PassTurn turns.Client) ∷ Alter client (Finish (1 ∷ [])) ∷ Alter me (Finish []) ∷ []) Nothing
          (with_row (takes allowed)) (Both (Alters i z _ (SetPointer p) refl has) (Both (Alters k z _ (PassTurn turns.Client) refl tt)
          (Both (Alters k z _ (Finish (1 ∷ [])) refl tt) (Beyond out Empty)))) (tt, (tt, (tt, (tt, tt)))))

    -- ---- whatever goes with the turn

    handed : (carried : Option Ptr) → CanHold w carried → Hands w nester slot plain x (seen_as carried)
        (passes (user_at x) turns.Server client (takes_turn client carried (awaited t.mode)))
    handed carried may ready passed touch seen = by carried may (awaited t.mode) refl ready touch (sym (seen_is carried) ∙ seen)
      where
        far_off : (b : Bool) → b ≡ true → cond b None (Some touch) ≡ Some touch → ⊥
        far_off true e h = cc
        far_off false e h = cc

        by : (carried : Option Ptr) → CanHold w carried → (to : Option ℕ) → awaited t.mode ≡ to →
            GoesAllowed w me (passes (user_at x) turns.Server client (takes_turn client carried to)) → (touch : Touch) →
            seen_by_reference to carried ≡ Some touch → IsPlain
            (stepped w (passes (user_at x) turns.Server client (takes_turn client carried to))).world nester slot ×
            ((told : List Told) × IsOnward small (ByOthers touch) told
            (cut (stepped w (passes (user_at x) turns.Server client (takes_turn client carried to))).world nester slot))
        by None may to e ready touch seen = handed_alone (taken_answers to None) (ap (λ (o : Option ℕ). taken_answers o None) e) touch seen
        by (Some p) may None e ready touch seen = handed_alone [] (ap (λ (o : Option ℕ). taken_answers o None) e) touch seen
        by (Some p) may (Some i) e ready touch seen = at (is_far (see p)) refl seen
          where
            at : (b : Bool) → is_far (see p) ≡ b → cond b None (Some (HandedWith (k ∷ z) (see p))) ≡ Some touch →
                IsPlain (stepped w (passes (user_at x) turns.Server client (takes_turn client (Some p) (Some i)))).world nester slot ×
                ((told : List Told) × IsOnward small (ByOthers touch) told
                (cut (stepped w (passes (user_at x) turns.Server client (takes_turn client (Some p) (Some i)))).world nester slot))
            at true f h = cc
            at false f h = handed_over p may i e f ready.0 touch h

  to_thread : (carried : Option Ptr) → CanHold w carried → same_side talk.turn turns.Server ≡ true →
      Hands w nester slot plain x (seen_as carried) (passes_to_thread w (user_at x) turns.Server client carried (thread_led_to w (At client)))
  to_thread carried may turn = rw is (hands-when w nester slot plain x (seen_as carried)
      (is_free w (z ++ root) t && is_some (receiving w (z ++ root) turns.Client t.mode)) _
      (λ on. by (receiving w (z ++ root) turns.Client t.mode) refl
      (and_parts (is_free w (z ++ root) t) (is_some (receiving w (z ++ root) turns.Client t.mode)) on)))
    where
      by : (o : Option (ℕ × ℕ)) → receiving w (z ++ root) turns.Client t.mode ≡ o →
          (is_free w (z ++ root) t ≡ true) × (is_some (receiving w (z ++ root) turns.Client t.mode) ≡ true) →
          Hands w nester slot plain x (seen_as carried) (passes (user_at x) turns.Server client (takes_turn client carried (awaited t.mode)))
      by None e both = let off : is_some (receiving w (z ++ root) turns.Client t.mode) ≡ false = ap is_some e in let clash : true ≡ false = sym both.1
          ∙ off in cc
      by (Some receive) e both = handed turn both.0 receive e carried may

  abbrev its_line : Line
  its_line = record { client = client; talk = talk; other = Server (At client) }

  over_hands : (carried : Option Ptr) → CanHold w carried → client_of w me ≡ Some client → Hands w nester slot plain x (seen_as carried)
      (over w (user_at x) turns.Server carried)
  unfolding over line
  over_hands carried may served = rw (served, ap (and_then (λ (t : Thread). t.talk)) is ∙ its) (by (same_side talk.turn turns.Server) refl)
    where
      by : (b : Bool) → same_side talk.turn turns.Server ≡ b →
          Hands w nester slot plain x (seen_as carried) (cond b (Ok its_line) (Err WRONGTURN) >>= passes_on w (user_at x) turns.Server carried)
      by true e = hands-when w nester slot plain x (seen_as carried) (may_carry w me carried) _ (λ on. to_thread carried may e)
      by false e = no_hands w nester slot plain x (seen_as carried) (Refused WRONGTURN) refl

  call_hands : client_of w me ≡ Some client → (pick : Option Path) → Hands w nester slot plain x (seen_as None) (call_row w (user_at x) pick ServerOver)
  unfolding call_row
  call_hands served pick = hands-closed w nester slot plain x (seen_as None) _
      (hands-picked w nester slot plain x (seen_as None) pick _ (over_hands None tt served))

  -- with the pointer of a reference
  over_ref_hands : client_of w me ≡ Some client → (reference : ℕ) →
      Hands w nester slot plain x (seen_as (and_then reference_of (w.body (reference ∷ parent x)))) (over_ref w (user_at x) turns.Server reference)
  unfolding over_ref
  over_ref_hands served reference = by (object_in w (user_at x) reference_of (parent x) reference) refl
    where
      by : (r : Result Ptr ℕ) → object_in w (user_at x) reference_of (parent x) reference ≡ r →
          Hands w nester slot plain x (seen_as (and_then reference_of (w.body (reference ∷ parent x)))) (r >>= λ p. over w (user_at x) turns.Server (Some p))
      by (Err status) e = no_hands w nester slot plain x _ (Refused status) refl
      by (Ok p) e =
          let there = reference-there w (reference ∷ parent x) p (object_in-found w (user_at x) reference_of (parent x) reference p e) in
          subst (λ (c : Option Ptr). Hands w nester slot plain x (seen_as c) (over w (user_at x) turns.Server (Some p)))
          (sym (ap (and_then reference_of) there))
          (over_hands (Some p) (reference-leads w (reference ∷ parent x) p valid there) served)

  call_ref_hands : client_of w me ≡ Some client → (reference : ℕ) (pick : Option Path) →
      Hands w nester slot plain x (seen_as (and_then reference_of (w.body (reference ∷ parent x)))) (call_row w (user_at x) pick (ServerOverRef reference))
  unfolding call_row
  call_ref_hands served reference pick = hands-closed w nester slot plain x _ _ (hands-picked w nester slot plain x _ pick _ (over_ref_hands served reference))

-- ---- the law

module _ (w : World) (nester : Path) (slot : ℕ) (plain : IsPlain w nester slot) (sound : IsWhole w) (j : ℕ) (s : Path)
    (out : is_within (slot ∷ nester) (j ∷ s) ≡ false) (pick : Option Path) (stage : Stage) (at : IsAtStage w (j ∷ s) stage) (carried : Option Ptr)
    (called : (k : ℕ) (z : Path) → client_of w (j ∷ s) ≡ Some (k ∷ (z ++ slot ∷ nester)) →
    Hands w nester slot plain (j ∷ s) (handed_by w (slot ∷ nester) carried (k ∷ (z ++ slot ∷ nester)) (k ∷ z)) (call_row w (user_at (j ∷ s)) pick stage)) where
  abbrev asked : Outcome
  asked = outcome w (j ∷ s) pick asks.Run

  abbrev DoneBy : Onward → Type 0
  DoneBy m = IsPlain (stepped w asked).world nester slot × ((told : List Told) × IsOnward (cut w nester slot) m told (cut (stepped w asked).world nester slot))

  handed_inside : (k : ℕ) (z : Path) → client_of w (j ∷ s) ≡ Some (k ∷ (z ++ slot ∷ nester)) →
      Hands w nester slot plain (j ∷ s) (handed_by w (slot ∷ nester) carried (k ∷ (z ++ slot ∷ nester)) (k ∷ z)) asked
  handed_inside k z served =
      let row = stage_outcome w nester slot plain (j ∷ s) pick stage at in
      subst (λ (o : Outcome). Hands w nester slot plain (j ∷ s) (handed_by w (slot ∷ nester) carried (k ∷ (z ++ slot ∷ nester)) (k ∷ z)) o) (sym row.1)
      (hands-when w nester slot plain (j ∷ s) _ (is_free w s row.0) (call_row w (user_at (j ∷ s)) pick stage) (λ on. called k z served))

  handed_at : (c q : Path) (k : ℕ) (z : Path) → c ≡ k ∷ (z ++ slot ∷ nester) → q ≡ k ∷ z → client_of w (j ∷ s) ≡ Some c →
      Hands w nester slot plain (j ∷ s) (handed_by w (slot ∷ nester) carried c q) asked
  handed_at c q k z e f served = rw (e, f) (handed_inside k z (served ∙ ap (λ (y : Path). Some y) e))

  done_by : (m : Onward) → GoesAllowed w (j ∷ s) asked → option_map (λ (touch : Touch). ByOthers touch)
      (over_touch w (slot ∷ nester) (user_at (j ∷ s)) (listed asked) carried) ≡ Some m → DoneBy m
  done_by m ready = by (passes_turn (listed asked)) refl (client_of w (j ∷ s)) refl
    where
      same_path_is : (a b : Path) → Some a ≡ Some b → a ≡ b
      same_path_is a b h = cc

      of_touch : (o : Option Touch) → ((touch : Touch) → o ≡ Some touch → DoneBy (ByOthers touch)) → option_map (λ (touch : Touch). ByOthers touch) o
          ≡ Some m → DoneBy m
      of_touch None go h = cc
      of_touch (Some touch) go h = let form : m ≡ ByOthers touch = cc in rw form (go touch refl)

      of_path : (c : Path) → client_of w (j ∷ s) ≡ Some c → passes_turn (listed asked) ≡ true → (r : Option Path) → strip (slot ∷ nester) c ≡ r →
          option_map (λ (touch : Touch). ByOthers touch) (and_then (handed_by w (slot ∷ nester) carried c) r) ≡ Some m → DoneBy m
      of_path c served passed None e h = cc
      of_path c served passed (Some q) e h =
          let its = its_client w j s c served in
          let under = thread_beneath w nester slot plain c its.0 (ap is_some e) its.2 in
          let place : q ≡ under.0
          ∷ under.1 = same_path_is q (under.0 ∷ under.1) (sym e ∙ ap (strip (slot ∷ nester)) under.2 ∙ strip-append (slot ∷ nester) (under.0 ∷ under.1)) in
          of_touch (handed_by w (slot ∷ nester) carried c q) (λ touch seen. handed_at c q under.0 under.1 under.2 place served ready passed touch seen) h

      by : (b : Bool) → passes_turn (listed asked) ≡ b → (o : Option Path) → client_of w (j ∷ s) ≡ o →
          option_map (λ (touch : Touch). ByOthers touch) (cond b (on_inner (slot ∷ nester) (handed_by w (slot ∷ nester) carried) o) None) ≡ Some m → DoneBy m
      by false passed o served h = cc
      by true passed None served h = cc
      by true passed (Some c) served h = of_path c served passed (strip (slot ∷ nester) c) refl h

-- a thread outside whose stage passes the turn
turn_outside : (w : World) (nester : Path) (slot : ℕ) (plain : IsPlain w nester slot) → IsWhole w → (j : ℕ) (s : Path) (pick : Option Path) (stage : Stage)
    (carried : Option Ptr) →
    is_within (slot ∷ nester) (j ∷ s) ≡ false → IsAtStage w (j ∷ s) stage →
    ((cs : List Change) → stage_touch w (slot ∷ nester) (user_at (j ∷ s)) pick cs stage ≡ over_touch w (slot ∷ nester) (user_at (j ∷ s)) cs carried) →
    Still (slot ∷ nester) (stage_row w (user_at (j ∷ s)) pick stage) →
    ((k : ℕ) (z : Path) → client_of w (j ∷ s) ≡ Some (k ∷ (z ++ slot ∷ nester)) →
    Hands w nester slot plain (j ∷ s) (handed_by w (slot ∷ nester) carried (k ∷ (z ++ slot ∷ nester)) (k ∷ z)) (call_row w (user_at (j ∷ s)) pick stage)) →
    IsReady w (j ∷ s) pick asks.Run → (seen : Seen) → IsSeen w nester slot (moves (j ∷ s) pick) seen → HasDone w nester slot (moves (j ∷ s) pick) seen
unfolding step
turn_outside w nester slot plain sound j s pick stage carried out at touches still called ready (Onwards m) seen =
    let far = seen_outside w
    (slot ∷ nester) (j ∷ s) pick (outcome w (j ∷ s) pick asks.Run) (strip (slot ∷ nester) (j ∷ s)) m (strip_none (slot ∷ nester) (j ∷ s) out) seen.1 in
    let row = taken_row w (slot ∷ nester) (moves (j ∷ s) pick) (outcome w (j ∷ s) pick asks.Run) None _ stage m refl
    (stage_called w nester slot plain (j ∷ s) stage at) far in
    done_by w nester slot plain sound j s out pick stage at carried called m ready
    (sym (ap (λ (t : Option Touch). option_map (λ (touch : Touch). ByOthers touch) t) (touches (listed (outcome w (j ∷ s) pick asks.Run)))) ∙ row)
turn_outside w nester slot plain sound j s pick stage carried out at touches still called ready Unseen seen =
    let is = stage_outcome w nester slot plain (j ∷ s) pick stage at in
    still-plain w nester slot plain (outcome w (j ∷ s) pick asks.Run)
    (rw is.1 (still-when (slot ∷ nester) (is_free w s is.0) _ (still-call (slot ∷ nester) w (j ∷ s) pick stage still))) seen.1.0
turn_outside w nester slot plain sound j s pick stage carried out at touches still called ready Other seen = tt

over_outside_keeps : (w : World) (nester : Path) (slot : ℕ) → IsPlain w nester slot → (j : ℕ) (s : Path) (pick : Option Path) →
    is_within (slot ∷ nester) (j ∷ s) ≡ false → IsAtStage w (j ∷ s) ServerOver → KeepsCut w nester slot (moves (j ∷ s) pick)
over_outside_keeps w nester slot plain j s pick out at sound same fit ready =
    turn_outside w nester slot plain sound j s pick ServerOver None out at (λ cs. refl) (still-over (slot ∷ nester) w (j ∷ s) turns.Server None)
    (λ k z served. let its = served_outward w nester slot plain sound j s out k z served in
    call_hands w nester slot plain sound.valid.consistent (j ∷ s) out k z its.0 its.2 its.1 its.3 its.4 served pick) ready

over_ref_outside_keeps : (w : World) (nester : Path) (slot : ℕ) → IsPlain w nester slot → (j : ℕ) (s : Path) (pick : Option Path) (reference : ℕ) →
    is_within (slot ∷ nester) (j ∷ s) ≡ false → IsAtStage w (j ∷ s) (ServerOverRef reference) → KeepsCut w nester slot (moves (j ∷ s) pick)
over_ref_outside_keeps w nester slot plain j s pick reference out at sound same fit ready =
    turn_outside w nester slot plain sound j s pick (ServerOverRef reference) (and_then reference_of (w.body (reference ∷ s))) out at (λ cs. refl)
    (still-over_ref (slot ∷ nester) w (j ∷ s) turns.Server reference)
    (λ k z served. let its = served_outward w nester slot plain sound j s out k z served in
    call_ref_hands w nester slot plain sound.valid.consistent (j ∷ s) out k z its.0 its.2 its.1 its.3 its.4 served reference pick) ready

pub server_turn_keeps : StageKeepsCut IsServerOver
server_turn_keeps w nester slot x pick stage such at sound plain = by (is_within (slot ∷ nester) x) refl
  where
    outside : (y : Path) → y ≡ x → (j : ℕ) (s : Path) → j ∷ s ≡ y → is_within (slot ∷ nester) x ≡ false → is_fit w x asks.Run ≡ true →
        IsReady w x pick asks.Run → (seen : Seen) → IsSeen w nester slot (moves x pick) seen → HasDone w nester slot (moves x pick) seen
    outside y e j s f out =
        let here : x ≡ j ∷ s = sym (f ∙ e) in
        rw here (over_outside_keeps w nester slot plain j s pick (rw here at out) (rw (such, here) at at) sound plain)

    by : (b : Bool) → is_within (slot ∷ nester) x ≡ b → is_fit w x asks.Run ≡ true →
        IsReady w x pick asks.Run → (seen : Seen) → IsSeen w nester slot (moves x pick) seen → HasDone w nester slot (moves x pick) seen
    by true e = server_over_keeps w nester slot x pick stage such e at sound plain
    by false e = outside x refl (slot_of x) (parent x) (stands_in_slot w sound x at.0 at.3) e

pub server_turn_ref_keeps : StageKeepsCut IsServerOverRef
server_turn_ref_keeps w nester slot x pick stage such at sound plain = by (is_within (slot ∷ nester) x) refl
  where
    outside : (y : Path) → y ≡ x → (j : ℕ) (s : Path) → j ∷ s ≡ y → is_within (slot ∷ nester) x ≡ false → is_fit w x asks.Run ≡ true →
        IsReady w x pick asks.Run → (seen : Seen) → IsSeen w nester slot (moves x pick) seen → HasDone w nester slot (moves x pick) seen
    outside y e j s f out =
        let here : x ≡ j ∷ s = sym (f ∙ e) in
        rw here (over_ref_outside_keeps w nester slot plain j s pick such.0 (rw here at out) (rw (such.1, here) at at) sound plain)

    by : (b : Bool) → is_within (slot ∷ nester) x ≡ b → is_fit w x asks.Run ≡ true →
        IsReady w x pick asks.Run → (seen : Seen) → IsSeen w nester slot (moves x pick) seen → HasDone w nester slot (moves x pick) seen
    by true e = server_over_ref_keeps w nester slot x pick stage such e at sound plain
    by false e = outside x refl (slot_of x) (parent x) (stands_in_slot w sound x at.0 at.3) e
