-- The law of the cut for every move that is made inside.
use Rattle.std.proofs.Common.{◌≡◌, ℕ, true, false, List, ◌∷◌, Option, refl, sym, ◌∙◌}
use Rattle.fk_model.specs.declared.moves.Ask.{Ask}
use Rattle.fk_model.specs.declared.moves.Ask.TheVariants as asks
use Rattle.fk_model.specs.declared.stage.Stage.{Stage}
use Rattle.fk_model.specs.declared.stage.Stage.TheVariants.{Destroy, Rename, PageGive, Wait, ServerSend, ServerOver, ServerEnd, FaultDone, ServerOverRef}
use Rattle.fk_model.specs.Places.{Path, is_within}
use Rattle.fk_model.specs.Objects.{thread_of, and_then}
use Rattle.fk_model.specs.World.{World}
use Rattle.fk_model.specs.Moves.{outcome}
use Rattle.laws_subtrees.specs.Cut.CutLaws.{KeepsCut, IsAtStage, moves, InsideKeepsCut}
use Rattle.laws_subtrees.proofs.InCut.cut.Calls.{porter_outside, porter_is}
use Rattle.laws_subtrees.proofs.InCut.cut.Objects.{rename_inside}
use Rattle.laws_subtrees.proofs.InCut.cut.Deaths.{destroy_inside}
use Rattle.laws_subtrees.proofs.InCut.cut.Gifts.{page_give_keeps}
use Rattle.laws_subtrees.proofs.InCut.talks.Accepts.{accept_keeps}
use Rattle.laws_subtrees.proofs.InCut.talks.Ends.{end_keeps}
use Rattle.laws_subtrees.proofs.InCut.talks.Natives.{give_keeps, over_keeps}
use Rattle.laws_subtrees.proofs.InCut.talks.Sends.{server_send_keeps, server_over_keeps, server_over_ref_keeps}
use Rattle.laws_subtrees.proofs.InCut.waits.Inside.{wait_inside_keeps}
use Rattle.laws_subtrees.proofs.InCut.waits.FaultEnds.{fault_done_keeps}
use Rattle.laws_subtrees.proofs.InCut.joined.Stages.{either_side, runs}

module _ (w : World) (nester : Path) (slot : ℕ) (x : Path) (within : is_within (slot ∷ nester) x ≡ true) (pick : Option Path) where
  by_stage : (stage : Stage) → IsAtStage w x stage → KeepsCut w nester slot (moves x pick)
  by_stage (Destroy s y) at = destroy_inside w nester slot x pick (Destroy s y) (s, y, refl) within at
  by_stage (Rename s y z) at = rename_inside w nester slot x pick (Rename s y z) (s, y, z, refl) within at
  by_stage (PageGive s page address) at = page_give_keeps w nester slot x pick (PageGive s page address) (s, page, address, refl) within at
  by_stage (Wait set) at = wait_inside_keeps w nester slot x pick (Wait set) (set, refl) within at
  by_stage (ServerSend address count) at = server_send_keeps w nester slot x pick (ServerSend address count) (address, count, refl) within at
  by_stage ServerOver at = server_over_keeps w nester slot x pick ServerOver refl within at
  by_stage ServerEnd at = end_keeps w nester slot x pick ServerEnd refl within at
  by_stage FaultDone at = fault_done_keeps w nester slot x pick FaultDone refl within at
  by_stage (ServerOverRef reference) at = server_over_ref_keeps w nester slot x pick (ServerOverRef reference) (reference, refl) within at
  by_stage other at = either_side w nester slot x pick other refl at

  -- there is no porter inside
  calls : (stage : Stage) (words : List ℕ) → KeepsCut w nester slot (record { mover = x; pick = pick; ask = asks.Call stage words })
  unfolding outcome
  calls stage words sound plain fit ready =
      let is = porter_is w x pick stage words (and_then thread_of (w.body x)) ready in
      let clash : true ≡ false = sym within ∙ porter_outside w nester slot plain x is.0 is.1 is.2 in
      absurd (two clash)
    where
      two : true ≡ false → ⊥
      two e = cc

  asked : (ask : Ask) → KeepsCut w nester slot (record { mover = x; pick = pick; ask = ask })
  asked asks.Run = runs w nester slot x pick by_stage
  asked (asks.Call stage words) = calls stage words
  asked asks.Accept = accept_keeps w nester slot x pick
  asked (asks.Give words len) = give_keeps w nester slot x pick words len
  asked asks.Over = over_keeps w nester slot x pick

pub inside_keeps : InsideKeepsCut
inside_keeps w nester slot e within = asked w nester slot e.mover within e.pick e.ask
