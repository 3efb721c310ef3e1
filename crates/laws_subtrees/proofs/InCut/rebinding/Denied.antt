-- The law of rebinding for a stage that a user is denied.
use Rattle.std.proofs.Common.{ℕ, [], ◌∷◌, ◌++◌, Option, refl}
use Rattle.fk_model.specs.declared.stage.Stage.{Stage}
use Rattle.fk_model.specs.Places.{Path}
use Rattle.fk_model.specs.LinkRows.{user_at}
use Rattle.laws_subtrees.specs.Cut.CutLaws.{IsForPorters}
use Rattle.laws_subtrees.specs.Cut.RebindLaws.{StageRebinds}
use Rattle.laws_subtrees.proofs.InCut.cut.Calls.{silent-denied, quiet-denied, denied_like}
use Rattle.laws_subtrees.proofs.InCut.rebinding.Rebound.{quiet_heard}
use Rattle.laws_subtrees.proofs.InCut.rebinding.Messages.{IsRebound, told_rebinds, silent_row}

pub denied_rebinds : StageRebinds IsForPorters
denied_rebinds = told_rebinds IsForPorters law
  where
    law : (p : Option Path) (n : ℕ) (stage : Stage) → IsForPorters stage → IsRebound p n stage
    law p n stage such see small c like outs world k q =
        rw (
          silent_row p n stage small (k ∷ q) (λ n o. silent-denied small n (user_at (k ∷ q)) o stage such),
          silent_row p n stage c (k ∷ (q ++ [])) (λ n o. silent-denied c n (user_at (k ∷ (q ++ []))) o stage such),
        ) (
          denied_like like k q p p stage such refl,
          quiet_heard see _ _ (quiet-denied [] small (k ∷ q) p stage such) (quiet-denied [] c (k ∷ (q ++ [])) p stage such),
        )
