-- A fit move keeps a world valid.
use Rattle.std.proofs.Common.{◌≤◌}
use Rattle.fk_model.specs.World.{World}
use Rattle.fk_model.specs.Searches.{depth}
use Rattle.fk_model.specs.Outcomes.{Outcome}
use Rattle.fk_model.specs.Outcomes.Outcome.{Goes}
use Rattle.fk_model.specs.Moves.{outcome, step, stepped}
use Rattle.fk_model.specs.Valid.{IsConsistent, IsRooted, IsValid}
use Rattle.fk_model.proofs.walks.WalkLaws.{idle, no_service}
use Rattle.laws_moves.specs.Machine.Laws.{StepKeepsValid}
use Rattle.laws_moves.proofs.InMachine.safety.Outcomes.{SafeOutcome}
use Rattle.laws_moves.proofs.InMachine.safety.Reads.{WalkFacts, Facts}
use Rattle.laws_moves.proofs.InMachine.safety.Moves.{outcome-safe}
use Rattle.laws_moves.proofs.InMachine.validity.Changes.{valid-apply_all, rooted-apply_all, paged-apply_all}
use Rattle.laws_moves.proofs.InMachine.validity.Alone.{alone, leaf-alone}

walk_facts : (w : World) → IsConsistent w → IsRooted w → w.next ≤ depth → WalkFacts w
walk_facts w valid rooted born =
    record { idle = idle w valid rooted born; no_service = no_service w valid rooted born; alone = alone w rooted; leaf_alone = leaf-alone w valid rooted born }

stepped-valid : (w : World) (o : Outcome) → IsValid w → SafeOutcome w o → IsValid (stepped w o).world
stepped-valid w (Goes changes said) valid safe = record {
  consistent = valid-apply_all changes w valid.consistent safe.safe;
  rooted = rooted-apply_all changes w valid.rooted safe.safe;
  paged = paged-apply_all changes w valid.paged safe.safe;
}
stepped-valid w o valid safe = valid

pub facts_of : (w : World) → IsValid w → w.next ≤ depth → Facts w
facts_of w valid born = record { valid = valid.consistent; rooted = valid.rooted; paged = valid.paged; walks = walk_facts w valid.consistent valid.rooted born }

pub step_keeps_valid_lem : StepKeepsValid
unfolding step
step_keeps_valid_lem w x pick ask valid born fit = stepped-valid w (outcome w x pick ask) valid (outcome-safe w x pick ask (facts_of w valid born) fit)
