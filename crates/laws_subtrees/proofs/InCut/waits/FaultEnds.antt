-- The laws of the cut and of rebinding for a thread of the subtree that ends the fault that it has taken.
use Rattle.std.proofs.Common.{◌≡◌, ℕ, true, false, [], ◌∷◌, ◌++◌, Option, Some, None, refl}
use Rattle.fk_model.specs.declared.statuses.status.TheConstants.{NOTLINKED}
use Rattle.fk_model.specs.declared.stage.Stage.TheVariants.{FaultDone}
use Rattle.fk_model.specs.Places.{Path, parent, Ptr}
use Rattle.fk_model.specs.World.{World}
use Rattle.fk_model.specs.World.Change.{Alter}
use Rattle.fk_model.specs.World.Edit.{SetFault}
use Rattle.fk_model.specs.Searches.{faulter_of, objects}
use Rattle.fk_model.specs.Holds.{is_frozen, is_unheld}
use Rattle.fk_model.specs.Outcomes.{Outcome, ◌>>=◌, or_refuse, Caller, path_of}
use Rattle.fk_model.specs.FaultRows.{frees, fault_done}
use Rattle.fk_model.specs.LinkRows.{user_at}
use Rattle.laws_subtrees.specs.Cut.CutLaws.{KeepsCut, IsAtStage, moves, StageInsideKeepsCut, IsFaultDone}
use Rattle.laws_subtrees.specs.Cut.RebindLaws.{StageRebinds}
use Rattle.laws_subtrees.specs.Cut.Likeness.{IsLikeness, IsBeneath, AlikeOptions}
use Rattle.laws_subtrees.specs.Cut.LikeChanges.{IsLikeOutcome}
use Rattle.laws_subtrees.specs.Cut.LikeChanges.LikeChange.{Alters}
use Rattle.laws_subtrees.specs.Cut.LikeChanges.LikeChanges.{Empty, Both}
use Rattle.laws_subtrees.proofs.InCut.likeness.Instances.{cut-like}
use Rattle.laws_subtrees.proofs.InCut.likeness.Memory.{root_seen}
use Rattle.laws_subtrees.proofs.InCut.likeness.Holds.{is_unheld-like}
use Rattle.laws_subtrees.proofs.InCut.likeness.Servers.{find_some, faulter_of-like, cut-served, cut_world-apart}
use Rattle.laws_subtrees.proofs.InCut.likeness.Outcomes.{done-like}
use Rattle.laws_subtrees.proofs.InCut.cut.Inside.{Quiet, quiet->>=, quiet-when, quiet-done, when_same, stage_inside, thread_beneath}
use Rattle.laws_subtrees.proofs.InCut.rebinding.Freedom.{top_free}
use Rattle.laws_subtrees.proofs.InCut.rebinding.Rebound.{quiet_heard}
use Rattle.laws_subtrees.proofs.InCut.rebinding.Messages.{IsRebound, same_call, told_rebinds, silent_row}
use Rattle.laws_subtrees.proofs.InCut.rebinding.Waits.{faulter_same}

module _ {root : Path} {see : Ptr → Ptr} {small big : World} (like : IsLikeness root see small big) where
  abbrev Alike : Outcome → Outcome → Type 0
  Alike = IsLikeOutcome root see big

  -- the root is no thread
  not_root : (me : Path) → faulter_of small me ≡ Some [] → ⊥
  unfolding faulter_of
  not_root me is = let on = find_some _ (objects small) [] is in let off : false ≡ true = rw (root_seen like) at on in cc

  fault_done-like : is_frozen big root ≡ false → (k : ℕ) (q : Path) →
      AlikeOptions (IsBeneath root) (faulter_of small (k ∷ q)) (faulter_of big (k ∷ (q ++ root))) →
      Alike (fault_done small (user_at (k ∷ q))) (fault_done big (user_at (k ∷ (q ++ root))))
  unfolding fault_done
  fault_done-like free k q found = by (faulter_of small (k ∷ q)) (faulter_of big (k ∷ (q ++ root))) (not_root (k ∷ q)) found
    where
      by : (o p : Option Path) → (o ≡ Some [] → ⊥) → AlikeOptions (IsBeneath root) o p →
          Alike (or_refuse NOTLINKED o >>= frees small (user_at (k ∷ q))) (or_refuse NOTLINKED p >>= frees big (user_at (k ∷ (q ++ root))))
      by None None off h = refl
      by (Some []) (Some y) off h = absurd (off refl)
      by (Some (j ∷ z)) (Some y) off h = rw h (when_same like (is_unheld small z) (is_unheld big (z ++ root)) _ _ (is_unheld-like like free z)
          (done-like like (user_at (k ∷ q)) _ _ [] (Both (Alters j z (SetFault None) (SetFault None) refl tt) Empty)))
      by None (Some y) off h = absurd h
      by (Some z) None off h = absurd h

pub quiet-fault_done : (root : Path) (w : World) (c : Caller) → Quiet root (fault_done w c)
unfolding fault_done
quiet-fault_done root w c =
    quiet->>= root (or_refuse NOTLINKED (faulter_of w (path_of c))) _ (λ y. quiet-when root (is_unheld w (parent y)) _
    (quiet-done root c (Alter y (SetFault None) ∷ []) [] ((λ out. refl), tt)))

pub fault_done_keeps : StageInsideKeepsCut IsFaultDone
fault_done_keeps w nester slot x pick stage such within at sound plain =
    let under = thread_beneath w nester slot plain x at.0 within at.3 in
    rw under.2 (law under.0 under.1 (rw (under.2, such) at at) sound plain)
  where
    law : (k : ℕ) (q : Path) → IsAtStage w (k ∷ (q ++ slot ∷ nester)) FaultDone → KeepsCut w nester slot (moves (k ∷ (q ++ slot ∷ nester)) pick)
    law k q at sound plain =
        let like = cut-like w nester slot plain in
        stage_inside w nester slot plain k q pick FaultDone at (λ n c o. refl)
        (λ p e free. fault_done-like like free k q (faulter_of-like like (cut-served w nester slot sound.valid plain sound.few) (k ∷ q)))
        (quiet-fault_done (slot ∷ nester) w (user_at (k ∷ (q ++ slot ∷ nester)))) sound plain

pub fault_done_rebinds : StageRebinds IsFaultDone
fault_done_rebinds = told_rebinds IsFaultDone (λ p n stage such. rw such (law p n))
  where
    law : (p : Option Path) (n : ℕ) → IsRebound p n FaultDone
    law p n see small c like outs world k q =
        rw (silent_row p n FaultDone small (k ∷ q) (λ n o. refl), silent_row p n FaultDone c (k ∷ (q ++ [])) (λ n o. refl))
        (same_call like k q p FaultDone refl refl (
          fault_done-like like (top_free c world) k q (faulter_same like (cut_world-apart c see outs world) (k ∷ q)),
          quiet_heard see _ _ (quiet-fault_done [] small (user_at (k ∷ q))) (quiet-fault_done [] c (user_at (k ∷ (q ++ [])))),
        ))
