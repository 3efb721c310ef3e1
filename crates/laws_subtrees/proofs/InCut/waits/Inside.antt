-- The law of the cut for a wait, by a thread inside.
use Rattle.std.proofs.Common.{◌≡◌, inl, inr, ℕ, ◌≤◌, Bool, true, false, List, [], ◌∷◌, ◌++◌, Option, Some, None, is_some, option_map, refl, sym, ap, ◌∙◌}
use Rattle.fk_model.specs.declared.statuses.status.TheConstants.{OK}
use Rattle.fk_model.specs.declared.stage.Stage.TheVariants.{Wait}
use Rattle.fk_model.specs.Places.{Path, strip, is_within, Ptr}
use Rattle.fk_model.specs.Objects.{Mode, Thread, Body, thread_of, and_then, holds}
use Rattle.fk_model.specs.Objects.Body.{Thread_of}
use Rattle.fk_model.specs.Objects.Mode.{Running, Calling, Halted, Native}
use Rattle.fk_model.specs.World.{World, Edit, ended_in, edited, apply, apply_all}
use Rattle.fk_model.specs.World.Change.{Alter}
use Rattle.fk_model.specs.World.Edit.{End}
use Rattle.fk_model.specs.Searches.{depth, thread_at}
use Rattle.fk_model.specs.Outcomes.{Outcome, listed}
use Rattle.fk_model.specs.LinkRows.{user_at, Candidate, takes_candidate}
use Rattle.fk_model.specs.LinkRows.Candidate.{Faulting, Connecting, Resuming}
use Rattle.fk_model.specs.Moves.{call_row, stepped}
use Rattle.fk_model.specs.Cut.{ports_of, cut_ptr, cut, IsPlain}
use Rattle.fk_model.specs.Whole.{IsWhole}
use Rattle.fk_model.specs.Seen.{serves_outside, picked_inside}
use Rattle.fk_model.proofs.walks.PlaceLaws.{same_path_refl, strip-append}
use Rattle.laws_subtrees.specs.Cut.CutLaws.{KeepsCut, IsAtStage, moves, IsWait, StageInsideKeepsCut}
use Rattle.laws_subtrees.specs.Cut.LikeChanges.LikeChange.{Alters}
use Rattle.laws_subtrees.specs.Cut.LikeChanges.LikeChanges.{Empty, Both, Beyond}
use Rattle.laws_subtrees.proofs.InCut.likeness.Instances.{cut-like}
use Rattle.laws_subtrees.proofs.InCut.likeness.ChangeLists.{cut-changes}
use Rattle.laws_subtrees.proofs.InCut.likeness.Servers.{is_serving-like, cut-served}
use Rattle.laws_subtrees.proofs.InCut.likeness.Picks.{wait_call-like}
use Rattle.laws_subtrees.proofs.InCut.waits.Views.{View, view-call, quiet-view, quiet-idle}
use Rattle.laws_subtrees.proofs.InCut.cut.Inside.{Quiet, quiet-waits, seen_is, thread_beneath}
use Rattle.laws_subtrees.proofs.InCut.waits.Picks.{picked_law}

-- ---- a call that ends leaves another cut

abbrev calls : Mode → Bool
calls (Calling todo rest) = true
calls other = false

ended-rests : (status : ℕ) (answers : List ℕ) (t : Thread) → calls (ended_in status answers t t.mode).mode ≡ false
ended-rests status answers t = by t.mode refl
  where
    by : (m : Mode) → t.mode ≡ m → calls (ended_in status answers t m).mode ≡ false
    by (Calling todo rest) e = refl
    by (Running g) e = rw e refl
    by (Halted g code) e = rw e refl
    by (Native g) e = rw e refl

rests : (c : World) (x : Path) (status : ℕ) (answers : List ℕ) →
    holds (λ (t : Thread). calls t.mode) (thread_at (apply_all (Alter x (End status answers) ∷ []) c) x) ≡ false
unfolding apply apply_all edited
rests c x status answers = rw (same_path_refl x) (by (c.body x))
  where
    by : (v : Option Body) → holds (λ (t : Thread). calls t.mode) (and_then thread_of (option_map (edited (End status answers)) v)) ≡ false
    by None = refl
    by (Some (Thread_of t)) = ended-rests status answers t
    by (Some b) = refl

-- ---- by a thread inside

module _ (w : World)
    (nester : Path) (slot : ℕ) (plain : IsPlain w nester slot) (k : ℕ) (q : Path) (set : ℕ) (at : IsAtStage w (k ∷ (q ++ slot ∷ nester)) (Wait set)) where
  abbrev root : Path
  root = slot ∷ nester

  abbrev me : Path
  me = k ∷ (q ++ root)

  abbrev see : Ptr → Ptr
  see = cut_ptr (ports_of w nester slot) nester slot

  calls_there : holds (λ (t : Thread). calls t.mode) (thread_at (cut w nester slot) (k ∷ q)) ≡ true
  calls_there = rw (seen_is w nester slot plain k q None at.0 at.3) (rw (at.4) refl)

  not_ended : (y : Path) (edit : Edit) (answers : List ℕ) →
      is_within root y ≡ false → cut (apply_all (Alter y edit ∷ Alter me (End OK answers) ∷ []) w) nester slot ≡ cut w nester slot → ⊥
  not_ended y edit answers out same =
      let small : World = cut w nester slot in
      let gone = cut-changes w nester slot (Alter (k ∷ q) (End OK answers) ∷ [])
      (Alter y edit ∷ Alter me (End OK answers) ∷ []) plain (Beyond out (Both (Alters k q (End OK answers) (End OK answers) refl tt) Empty)) in
      let still : apply_all (Alter (k ∷ q) (End OK answers) ∷ []) small ≡ small = sym gone ∙ same in
      let clash : false ≡ true = sym (rests small (k ∷ q) OK answers)
      ∙ ap (λ (c : World). holds (λ (t : Thread). calls t.mode) (thread_at c (k ∷ q))) still ∙ calls_there in
      cc

  -- who is inside takes nobody outside unseen
  takes_apart : (y : Path) (found : Candidate) → is_within root y ≡ false → cut (stepped w (takes_candidate (user_at me) y (Some found))).world
      nester slot ≡ cut w nester slot → serves_outside root (listed (takes_candidate (user_at me) y (Some found))) ≡ false → ⊥
  takes_apart y (Faulting at_port fault) out same none = not_ended y _ _ out same
  takes_apart y (Resuming at_port talk) out same none = not_ended y _ _ out same
  takes_apart y (Connecting at_port) out same none = let inside = strip-append root (k ∷ q) in let clash : true ≡ false = rw (out, inside) at none in cc

  view_apart : (y : Path) (o : Outcome) → is_within root y ≡ false →
      View w (user_at me) set y o → cut (stepped w o).world nester slot ≡ cut w nester slot → serves_outside root (listed o) ≡ false → Quiet root o
  view_apart y o out (inl e) same none = rw e quiet-waits
  view_apart y o out (inr v) same none = absurd (takes_apart y v.0 out (rw (v.2) at same) (rw (v.2) at none))

  apart : (pick : Option Path) → picked_inside root pick ≡ None → cut (stepped w (call_row w (user_at me) pick (Wait set))).world nester slot ≡ cut
      w nester slot → serves_outside root (listed (call_row w (user_at me) pick (Wait set))) ≡ false → Quiet root (call_row w (user_at me) pick (Wait set))
  apart None h same none = cc
  apart (Some y) h same none = view_apart y (call_row w (user_at me) (Some y) (Wait set)) (beyond (strip root y) h) (view-call w (user_at me) set y) same none
    where
      beyond : (o : Option Path) → option_map (λ (z : Path). Some z) o ≡ None → is_some o ≡ false
      beyond None h = refl
      beyond (Some z) h = cc

  quiet_inside : (pick p : Option Path) → picked_inside root pick ≡ Some p → Quiet root (call_row w (user_at me) pick (Wait set))
  quiet_inside None p h = quiet-idle root w me set
  quiet_inside (Some y) p h = quiet-view root
      w (user_at me) set y (call_row w (user_at me) (Some y) (Wait set)) (λ out. absurd (inner (strip root y) h out)) (view-call w (user_at me) set y)
    where
      inner : (o : Option Path) → option_map (λ (z : Path). Some z) o ≡ Some p → is_some o ≡ false → ⊥
      inner None h e = cc
      inner (Some z) h e = cc

  pub wait_inside : w.next ≤ depth → IsWhole w → (pick : Option Path) → KeepsCut w nester slot (moves me pick)
  wait_inside few sound pick =
      let like = cut-like w nester slot plain in
      picked_law w nester slot plain k q pick (Wait set) at (λ n c o. refl)
      (λ p h free. (wait_call-like like free k q set (is_serving-like like (cut-served w nester slot sound.valid plain few) (k ∷ q)) p pick h).0)
      (quiet_inside pick) (apart pick)

pub wait_inside_keeps : StageInsideKeepsCut IsWait
wait_inside_keeps w nester slot x pick stage such within at sound plain =
    let under = thread_beneath w nester slot plain x at.0 within at.3 in
    rw under.2 (wait_inside w nester slot plain under.0 under.1 such.0 (rw (under.2, such.1) at at) sound.few sound pick sound plain)
