-- The law of the cut for a server outside that ends a talk: the subtree sees that its thread is left.
use Rattle.std.proofs.Common.{◌≡◌, ℕ, Bool, true, false, cond, List, [], ◌∷◌, ◌++◌, Option, Some, None, is_some, is_none, option_map, refl, sym, ap, subst, ◌∙◌}
use Rattle.fk_model.specs.declared.moves.Ask.TheVariants as asks
use Rattle.fk_model.specs.declared.statuses.status.TheConstants.{ENDED}
use Rattle.fk_model.specs.declared.stage.Stage.TheVariants.{ServerEnd}
use Rattle.fk_model.specs.declared.thread.Turn.TheVariants as turns
use Rattle.fk_model.specs.Places.{Path, strip, is_within, parent, slot_of, Ptr}
use Rattle.fk_model.specs.Objects.{Talk, Thread, thread_of, and_then}
use Rattle.fk_model.specs.World.{World, apply_all}
use Rattle.fk_model.specs.World.Change.{Alter}
use Rattle.fk_model.specs.World.Edit.{Finish, End, SetTalk}
use Rattle.fk_model.specs.Searches.{client_of, thread_at}
use Rattle.fk_model.specs.Holds.{is_free}
use Rattle.fk_model.specs.Outcomes.{Outcome, when}
use Rattle.fk_model.specs.Outcomes.Outcome.{Goes}
use Rattle.fk_model.specs.Outcomes.Said.{Nothing}
use Rattle.fk_model.specs.Talks.{line, is_talking}
use Rattle.fk_model.specs.LinkRows.{user_at, end_all, disconnect}
use Rattle.fk_model.specs.Moves.{closed, call_row, outcome, GoesAllowed, IsReady, stepped, step}
use Rattle.fk_model.specs.Valid.{is_fit}
use Rattle.fk_model.specs.Whole.{IsWhole}
use Rattle.fk_model.specs.Cut.{is_out, ports_of, cut_ptr, cut, IsPlain}
use Rattle.fk_model.specs.Further.{Touch, Onward, Told, touch_row, IsOnward}
use Rattle.fk_model.specs.Further.Touch.{Left}
use Rattle.fk_model.specs.Further.Onward.{ByOthers}
use Rattle.fk_model.specs.Seen.{Seen, on_inner, IsSeen}
use Rattle.fk_model.specs.Seen.Seen.{Onwards, Unseen, Other}
use Rattle.fk_model.proofs.walks.PlaceLaws.{strip-append}
use Rattle.laws_subtrees.specs.Cut.CutLaws.{HasDone, KeepsCut, IsAtStage, moves, IsServerEnd, StageOutsideKeepsCut}
use Rattle.laws_subtrees.specs.Cut.Likeness.{seen_thread}
use Rattle.laws_subtrees.specs.Cut.LikeChanges.LikeChange.{Alters}
use Rattle.laws_subtrees.specs.Cut.LikeChanges.LikeChanges.{Empty, Both, Beyond}
use Rattle.laws_subtrees.proofs.InCut.likeness.Instances.{cut-like}
use Rattle.laws_subtrees.proofs.InCut.likeness.Holds.{strip_none}
use Rattle.laws_subtrees.proofs.InCut.cut.Inside.{quiet-when, quiet-call, thread_seen, thread_beneath}
use Rattle.laws_subtrees.proofs.InCut.cut.Outside.{stepped-plain, stage_outcome, stage_called}
use Rattle.laws_subtrees.proofs.InCut.cut.Pages.{has_touched, seen_outside, taken_row, stands_in_slot}
use Rattle.laws_subtrees.proofs.InCut.talks.Given.{its_client, served_outward}
use Rattle.laws_subtrees.proofs.InCut.talks.Ends.{quiet-disconnect}

module _ (w : World) (nester : Path) (slot : ℕ) (plain : IsPlain w nester slot) (x : Path) (out : is_within (slot ∷ nester) (slot_of x ∷ parent x) ≡ false)
    (k : ℕ) (z : Path) (t : Thread) (is : and_then thread_of (w.body (k ∷ (z ++ slot ∷ nester))) ≡ Some t)
    (talk : Talk) (its : t.talk ≡ Some talk) (outward : is_out (cut_ptr (ports_of w nester slot) nester slot talk.port) ≡ true) where
  abbrev root : Path
  root = slot ∷ nester

  abbrev see : Ptr → Ptr
  see = cut_ptr (ports_of w nester slot) nester slot

  abbrev small : World
  small = cut w nester slot

  abbrev me : Path
  me = slot_of x ∷ parent x

  abbrev client : Path
  client = k ∷ (z ++ root)

  abbrev HasLeft : World → Type 0
  HasLeft later = IsPlain later nester slot × ((told : List Told) × IsOnward small (ByOthers (Left (k ∷ z))) told (cut later nester slot))

  -- if it goes, its client has been left
  abbrev Leaves : Outcome → Type 0
  Leaves o = GoesAllowed w me o → HasLeft (stepped w o).world

  leaves-when : (b : Bool) (o : Outcome) → Leaves o → Leaves (when b o)
  leaves-when true o h = h
  leaves-when false o h = λ ready. absurd ready

  left_row : (b : Bool) → is_talking turns.Client t.mode ≡ b →
      touch_row small (Left (k ∷ z)) ≡ Goes (cond b (Alter (k ∷ z) (End ENDED []) ∷ []) [] ++ Alter (k ∷ z) (SetTalk None) ∷ []) Nothing
  unfolding touch_row
  left_row b talking =
      let here : thread_at
      small (k ∷ z) ≡ Some (seen_thread see t) = rw ((cut-like w nester slot plain).bodies (k ∷ z)) (thread_seen see k z (w.body client) t is) in
      rw (here, its, talking) (rw outward refl)

  left : (b : Bool) → is_talking turns.Client t.mode ≡ b →
      HasLeft (apply_all ((end_all (cond b (client ∷ []) []) ++ Alter client (SetTalk None) ∷ []) ++ Alter me (Finish []) ∷ []) w)
  left true talking =
      has_touched w nester slot plain (Left (k ∷ z)) (Alter (k ∷ z) (End ENDED []) ∷ Alter (k ∷ z) (SetTalk None) ∷ [])
      (Alter client (End ENDED []) ∷ Alter client (SetTalk None) ∷ Alter me (Finish []) ∷ []) Nothing (left_row true talking)
      (Both (Alters k z _ (End ENDED []) refl tt) (Both (Alters k z _ (SetTalk None) refl tt) (Beyond out Empty))) (tt, ((λ apart. refl), (tt, tt)))
  left false talking =
      has_touched w nester slot
      plain (Left (k ∷ z)) (Alter (k ∷ z) (SetTalk None) ∷ []) (Alter client (SetTalk None) ∷ Alter me (Finish []) ∷ []) Nothing (left_row false talking)
      (Both (Alters k z _ (SetTalk None) refl tt) (Beyond out Empty)) ((λ apart. refl), (tt, tt))

  -- what the row comes to
  end_row : client_of w me ≡ Some client → disconnect w (user_at x) turns.Server ≡ Goes
      ((end_all (cond (is_talking turns.Client t.mode) (client ∷ []) []) ++ Alter client (SetTalk None) ∷ []) ++ Alter me (Finish []) ∷ []) Nothing
  unfolding disconnect line
  end_row served = rw (served, ap (and_then (λ (t : Thread). t.talk)) is ∙ its) (rw is refl)

  call_leaves : client_of w me ≡ Some client → (pick : Option Path) → Leaves (call_row w (user_at x) pick ServerEnd)
  unfolding call_row
  call_leaves served pick = rw (end_row served) (by (is_none pick))
    where
      by : (b : Bool) → Leaves (closed (user_at x) (when b
          (Goes ((end_all (cond (is_talking turns.Client t.mode) (client ∷ []) []) ++ Alter client (SetTalk None) ∷ []) ++ Alter me (Finish []) ∷ []) Nothing)))
      by true = λ ready. left (is_talking turns.Client t.mode) refl
      by false = λ ready. absurd ready

-- ---- the law

module _ (w : World) (nester : Path) (slot : ℕ) (plain : IsPlain w nester slot) (sound : IsWhole w) (j : ℕ) (s : Path)
    (out : is_within (slot ∷ nester) (j ∷ s) ≡ false) (pick : Option Path) (at : IsAtStage w (j ∷ s) ServerEnd) (ready : IsReady w (j ∷ s) pick asks.Run) where
  abbrev asked : Outcome
  asked = outcome w (j ∷ s) pick asks.Run

  abbrev DoneBy : Onward → Type 0
  DoneBy m = IsPlain (stepped w asked).world nester slot × ((told : List Told) × IsOnward (cut w nester slot) m told (cut (stepped w asked).world nester slot))

  left_inside : (k : ℕ) (z : Path) → client_of w (j ∷ s) ≡ Some (k ∷ (z ++ slot ∷ nester)) → DoneBy (ByOthers (Left (k ∷ z)))
  left_inside k z served =
      let its = served_outward w nester slot plain sound j s out k z served in
      let row = stage_outcome w nester slot plain (j ∷ s) pick ServerEnd at in
      subst (λ (o : Outcome). GoesAllowed w (j ∷ s) o → IsPlain (stepped w o).world nester slot ×
      ((told : List Told) × IsOnward (cut w nester slot) (ByOthers (Left (k ∷ z))) told (cut (stepped w o).world nester slot))) (sym row.1)
      (leaves-when w nester slot plain (j ∷ s) out k z its.0 its.2 its.1 its.3 its.4 (is_free w s row.0)
      (call_row w (user_at (j ∷ s)) pick ServerEnd) (call_leaves w nester slot plain (j ∷ s) out k z its.0 its.2 its.1 its.3 its.4 served pick)) ready

  left_at : (c q : Path) (k : ℕ) (z : Path) → c ≡ k ∷ (z ++ slot ∷ nester) → q ≡ k ∷ z → client_of w (j ∷ s) ≡ Some c → DoneBy (ByOthers (Left q))
  left_at c q k z e f served = rw f (left_inside k z (served ∙ ap (λ (y : Path). Some y) e))

  done_by : (m : Onward) →
      option_map (λ (touch : Touch). ByOthers touch) (on_inner (slot ∷ nester) (λ x q. Some (Left q)) (client_of w (j ∷ s))) ≡ Some m → DoneBy m
  done_by m = by (client_of w (j ∷ s)) refl
    where
      same_path_is : (a b : Path) → Some a ≡ Some b → a ≡ b
      same_path_is a b h = cc

      of_path : (c : Path) → client_of w (j ∷ s) ≡ Some c → (r : Option Path) →
          strip (slot ∷ nester) c ≡ r → option_map (λ (touch : Touch). ByOthers touch) (and_then (λ (q : Path). Some (Left q)) r) ≡ Some m → DoneBy m
      of_path c served None e h = cc
      of_path c served (Some q) e h =
          let its = its_client w j s c served in
          let under = thread_beneath w nester slot plain c its.0 (ap is_some e) its.2 in
          let place : q ≡ under.0
          ∷ under.1 = same_path_is q (under.0 ∷ under.1) (sym e ∙ ap (strip (slot ∷ nester)) under.2 ∙ strip-append (slot ∷ nester) (under.0 ∷ under.1)) in
          let form : m ≡ ByOthers (Left q) = cc in
          rw form (left_at c q under.0 under.1 under.2 place served)

      by : (o : Option Path) →
          client_of w (j ∷ s) ≡ o → option_map (λ (touch : Touch). ByOthers touch) (on_inner (slot ∷ nester) (λ x q. Some (Left q)) o) ≡ Some m → DoneBy m
      by None served h = cc
      by (Some c) served h = of_path c served (strip (slot ∷ nester) c) refl h

if_ended : (b : Bool) (o : Option Touch) (m : Onward) →
    option_map (λ (touch : Touch). ByOthers touch) (cond b o None) ≡ Some m → option_map (λ (touch : Touch). ByOthers touch) o ≡ Some m
if_ended true o m h = h
if_ended false o m h = cc

left_outside : (w : World) (nester : Path) (slot : ℕ) → IsPlain w nester slot → (j : ℕ) (s : Path) (pick : Option Path) →
    is_within (slot ∷ nester) (j ∷ s) ≡ false → IsAtStage w (j ∷ s) ServerEnd → KeepsCut w nester slot (moves (j ∷ s) pick)
unfolding step
left_outside w nester slot plain j s pick out at sound same fit ready (Onwards m) seen =
    let far = seen_outside w
    (slot ∷ nester) (j ∷ s) pick (outcome w (j ∷ s) pick asks.Run) (strip (slot ∷ nester) (j ∷ s)) m (strip_none (slot ∷ nester) (j ∷ s) out) seen.1 in
    done_by w nester slot plain sound j s out pick at ready m (if_ended _ _ m (taken_row w (slot ∷ nester)
    (moves (j ∷ s) pick) (outcome w (j ∷ s) pick asks.Run) None _ ServerEnd m refl (stage_called w nester slot plain (j ∷ s) ServerEnd at) far))
left_outside w nester slot plain j s pick out at sound same fit ready Unseen seen =
    let is = stage_outcome w nester slot plain (j ∷ s) pick ServerEnd at in
    stepped-plain w nester slot plain (outcome w (j ∷ s) pick asks.Run)
    (rw is.1 (quiet-when (slot ∷ nester)
    (is_free w s is.0) _ (quiet-call (slot ∷ nester) w (j ∷ s) pick ServerEnd (quiet-disconnect (slot ∷ nester) w (j ∷ s) turns.Server)))) seen.1.0
left_outside w nester slot plain j s pick out at sound same fit ready Other seen = tt

pub left_keeps : StageOutsideKeepsCut IsServerEnd
left_keeps w nester slot x pick stage such outer at sound plain = by x refl (slot_of x) (parent x) (stands_in_slot w sound x at.0 at.3) outer
  where
    by : (y : Path) → y ≡ x → (j : ℕ) (s : Path) → j ∷ s ≡ y → is_within (slot ∷ nester) x ≡ false → is_fit w x asks.Run ≡ true →
        IsReady w x pick asks.Run → (seen : Seen) → IsSeen w nester slot (moves x pick) seen → HasDone w nester slot (moves x pick) seen
    by y e j s f out =
        let here : x ≡ j ∷ s = sym (f ∙ e) in
        rw here (left_outside w nester slot plain j s pick (rw here at out) (rw (such, here) at at) sound plain)
