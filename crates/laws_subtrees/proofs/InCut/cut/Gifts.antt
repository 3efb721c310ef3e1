-- The laws of the cut and of rebinding for a page that a thread of the subtree gives.
use Rattle.std.proofs.Common.{ℕ, eqb, Bool, true, false, cond, not, ◌||◌, List, [], ◌∷◌, ◌++◌, Option, is_some, refl}
use Rattle.std.specs.Prelude.{replicate}
use Rattle.fk_model.specs.declared.limits.TheConstants.{PAGE_WORDS, ZEROS}
use Rattle.fk_model.specs.declared.statuses.status.TheConstants as status
use Rattle.fk_model.specs.declared.stage.Stage.{Stage}
use Rattle.fk_model.specs.declared.stage.Stage.TheVariants.{PageGive}
use Rattle.fk_model.specs.Places.{Path}
use Rattle.fk_model.specs.World.{World}
use Rattle.fk_model.specs.World.Change.{PutPage}
use Rattle.fk_model.specs.Reach.{words_at}
use Rattle.fk_model.specs.Holds.{is_frozen_for}
use Rattle.fk_model.specs.Outcomes.{refuse, Caller, path_of}
use Rattle.fk_model.specs.Readers.{space_argument, own_page}
use Rattle.fk_model.specs.LinkRows.{user_at}
use Rattle.fk_model.specs.SpaceRows.{is_page, is_bad_source, gives_page, page_give}
use Rattle.fk_model.specs.Cut.{IsPlain}
use Rattle.laws_subtrees.specs.Cut.CutLaws.{KeepsCut, IsAtStage, moves, StageInsideKeepsCut, IsPageGive}
use Rattle.laws_subtrees.specs.Cut.RebindLaws.{StageRebinds}
use Rattle.laws_subtrees.proofs.InCut.likeness.Instances.{cut-like}
use Rattle.laws_subtrees.proofs.InCut.likeness.ObjectRows.{page_give-like}
use Rattle.laws_subtrees.proofs.InCut.cut.Inside.{Quiet, quiet->>=, quiet-done, stage_inside, inside_stages}
use Rattle.laws_subtrees.proofs.InCut.cut.Rows.{quiet-own_page}
use Rattle.laws_subtrees.proofs.InCut.rebinding.Rebound.{own_rebinds}

quiet-gives : (root : Path) (w : World) (c : Caller) (space : Path) (page : ℕ) (words : List ℕ) → Quiet root (gives_page w c space page words)
quiet-gives root w c space page words =
    quiet->>= root (refuse status.OCCUPIED (is_some (w.page space page))) _ (λ empty. quiet-done root c (PutPage space page words ∷ []) [] (tt, tt))

pub quiet-page_give : (root : Path) (w : World) (c : Caller) (s page address : ℕ) → Quiet root (page_give w c s page address)
unfolding page_give
quiet-page_give root w c s page address =
    quiet->>= root (space_argument w c s) _ (λ space. quiet->>= root (refuse status.HELD (is_frozen_for w (path_of c) space))
    _ (λ free. quiet->>= root (refuse status.BADADDRESS (not (is_page page) || is_bad_source c address))
    _ (λ good. by space c.is_porter (eqb address ZEROS))))
  where
    by : (space : Path) (porter b : Bool) →
        Quiet root (cond porter (gives_page w c space page c.words) (cond b (gives_page w c space page (replicate PAGE_WORDS 0))
        (own_page w c address false (λ s own. gives_page w c space page (words_at w s own)))))
    by space true b = quiet-gives root w c space page c.words
    by space false true = quiet-gives root w c space page (replicate PAGE_WORDS 0)
    by space false false = quiet-own_page root w c address false _ (λ s own. quiet-gives root w c space page (words_at w s own))

pub page_give_keeps : StageInsideKeepsCut IsPageGive
page_give_keeps = inside_stages IsPageGive law
  where
    law : (w : World) (nester : Path) (slot : ℕ) → IsPlain w nester slot → (k : ℕ) (q : Path) (pick : Option Path) (stage : Stage) →
        IsPageGive stage → IsAtStage w (k ∷ (q ++ slot ∷ nester)) stage → KeepsCut w nester slot (moves (k ∷ (q ++ slot ∷ nester)) pick)
    law w nester slot plain k q pick stage such at =
        stage_inside w nester slot plain k q pick (PageGive such.0 such.1 such.2) (rw such.3 at at) (λ n c o. refl)
        (λ p e free. page_give-like (cut-like w nester slot plain) free k q such.0 such.1 such.2)
        (quiet-page_give (slot ∷ nester) w (user_at (k ∷ (q ++ slot ∷ nester))) such.0 such.1 such.2)

pub page_give_rebinds : StageRebinds IsPageGive
page_give_rebinds = own_rebinds IsPageGive (λ stage such. rw such.3 (record {
  silent = λ w n c o. refl;
  quiet = λ w x pick. quiet-page_give [] w (user_at x) such.0 such.1 such.2;
  alike = λ root see small big like free k q p pick. page_give-like like free k q such.0 such.1 such.2;
}))
