-- The law of the cut for a thread inside whose row reads its pick.
use Rattle.std.proofs.Common.{◌≡◌, ℕ, Bool, true, false, ◌∷◌, ◌++◌, Option, Some, None, option_map, refl}
use Rattle.fk_model.specs.declared.moves.Ask.TheVariants as asks
use Rattle.fk_model.specs.declared.stage.Stage.{Stage}
use Rattle.fk_model.specs.Places.{Path, strip, Ptr}
use Rattle.fk_model.specs.Objects.{Mode}
use Rattle.fk_model.specs.Objects.Mode.{Calling}
use Rattle.fk_model.specs.World.{World}
use Rattle.fk_model.specs.Holds.{is_frozen, is_free}
use Rattle.fk_model.specs.Outcomes.{Outcome, when, Caller, listed}
use Rattle.fk_model.specs.LinkRows.{user_at}
use Rattle.fk_model.specs.Moves.{call_row, goes_on, outcome, stepped, step}
use Rattle.fk_model.specs.Cut.{ports_of, cut_ptr, cut, IsPlain}
use Rattle.fk_model.specs.Further.{outside_row, own_stage}
use Rattle.fk_model.specs.Seen.{serves_outside, words_out, picked_inside}
use Rattle.fk_model.specs.Seen.Seen.{Onwards, Unseen, Other}
use Rattle.fk_model.proofs.walks.PlaceLaws.{strip-append, strip_some}
use Rattle.laws_subtrees.specs.Cut.CutLaws.{KeepsCut, IsAtStage, moves}
use Rattle.laws_subtrees.specs.Cut.Likeness.{seen_thread, AlikeOptions, IsBeneath}
use Rattle.laws_subtrees.specs.Cut.LikeChanges.{IsLikeOutcome}
use Rattle.laws_subtrees.proofs.InCut.cut.Inside.{Quiet, call_closed, own_form, own_row_of, move_alike, silent_counts}
use Rattle.laws_subtrees.proofs.InCut.cut.Outside.{stepped-plain, stage_outcome}

-- whom it picks stands beneath the root, at the path that is picked in the cut
picked_beneath : (root : Path) (pick p : Option Path) → picked_inside root pick ≡ Some p → AlikeOptions (IsBeneath root) p pick
picked_beneath root None p h = let e : p ≡ None = cc in rw e tt
picked_beneath root (Some x) p h = by (strip root x) refl h
  where
    by : (o : Option Path) → strip root x ≡ o → option_map (λ (q : Path). Some q) o ≡ Some p → AlikeOptions (IsBeneath root) p (Some x)
    by None e h = cc
    by (Some z) e h = let same : p ≡ Some z = cc in rw same (strip_some root x z e)

module _ (w : World) (nester : Path)
    (slot : ℕ) (plain : IsPlain w nester slot) (k : ℕ) (q : Path) (pick : Option Path) (stage : Stage) (at : IsAtStage w (k ∷ (q ++ slot ∷ nester)) stage) where
  abbrev root : Path
  root = slot ∷ nester

  abbrev see : Ptr → Ptr
  see = cut_ptr (ports_of w nester slot) nester slot

  abbrev small : World
  small = cut w nester slot

  abbrev me : Path
  me = k ∷ (q ++ root)

  abbrev AlikeHere : Outcome → Outcome → Type 0
  AlikeHere = IsLikeOutcome root see w

  abbrev far : Outcome
  far = call_row w (user_at me) pick stage

  -- the law, where the call acts alike in the cut with the same pick, and what it changes is quiet: where it picks nobody outside,
  -- and where nothing of it is seen
  pub picked_law : ((n : ℕ) (c : Caller) (o : Outcome) → outside_row small c n stage o ≡ o) →
      ((p : Option Path) → AlikeOptions (IsBeneath root) p pick → is_frozen w root ≡ false → AlikeHere (call_row small (user_at (k ∷ q)) p stage) far) →
      ((p : Option Path) → picked_inside root pick ≡ Some p → Quiet root far) →
      (picked_inside root pick ≡ None → cut (stepped w far).world nester slot ≡ cut w nester slot → serves_outside root (listed far) ≡ false → Quiet root far) →
      KeepsCut w nester slot (moves me pick)
  unfolding step
  picked_law silent alike quiet apart sound same fit ready (Onwards m) seen =
      let t = at.0 in
      let own = own_row_of w
      nester slot plain k q pick t at.3 (moves me pick) (outcome w me pick asks.Run) (strip root me) m (strip-append root (k ∷ q)) seen.1 in
      let form = own_form w nester slot plain k q pick t at.3 _ (words_out w root me (listed (outcome w me pick asks.Run))) (picked_inside root pick) m own in
      rw form.2 (move_alike w nester slot plain k q pick
      t at.3 form.0 _ (silent_counts w small root me (k ∷ q) stage at (λ n o. silent n (user_at (k ∷ q)) o) (listed (outcome w me pick asks.Run))) (λ free.
      by t.mode at.4 form.0 _ (alike form.0 (picked_beneath root pick form.0 form.1) free)) (rw (at_stage t.mode at.4) (quiet form.0 form.1).quiet) ready)
    where
      at_stage : (mode : Mode) → mode ≡ Calling (stage ∷ at.1) at.2 → goes_on w me pick at.0 mode ≡ far
      at_stage mode e = rw e refl

      by : (mode : Mode) → mode ≡ Calling (stage ∷ at.1) at.2 → (p : Option Path) (n : ℕ) → AlikeHere (call_row small (user_at (k ∷ q)) p stage) far →
          AlikeHere (own_stage small (k ∷ q) p n mode (goes_on small (k ∷ q) p (seen_thread see at.0) mode)) (goes_on w me pick at.0 mode) ×
          AlikeHere (goes_on small (k ∷ q) p (seen_thread see at.0) mode) (goes_on w me pick at.0 mode)
      by mode e p n h = rw e (rw (silent n (user_at (k ∷ q)) (call_row small (user_at (k ∷ q)) p stage), call_closed small (k ∷ q) p stage) h, h)
  picked_law silent alike quiet apart sound same fit ready Unseen seen =
      let is = stage_outcome w nester slot plain me pick stage at in
      by (is_free w (q ++ root) is.0) (outcome w me pick asks.Run) is.1 seen.1
    where
      quiet_far : cut (stepped w far).world nester slot ≡ cut w nester slot → serves_outside root (listed far) ≡ false → Quiet root far
      quiet_far still none = by_pick (picked_inside root pick) refl
        where
          by_pick : (o : Option (Option Path)) → picked_inside root pick ≡ o → Quiet root far
          by_pick None e = apart e still none
          by_pick (Some p) e = quiet p e

      by : (b : Bool) (o : Outcome) → o ≡ when b far →
          (cut (stepped w o).world nester slot ≡ cut w nester slot) × (serves_outside root (listed o) ≡ false) → IsPlain (stepped w o).world nester slot
      by true o e h = rw e (stepped-plain w nester slot plain far (quiet_far (rw e at h.0) (rw e at h.1)) (rw e at h.0))
      by false o e h = rw e plain
  picked_law silent alike quiet apart sound same fit ready Other seen = tt
