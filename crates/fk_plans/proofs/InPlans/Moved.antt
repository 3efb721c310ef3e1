-- Moved: a fact of each verdict on words that move is one of both.
use Rattle.std.proofs.Common.{Bool, true, false}
use Rattle.fk_changes.specs.declared.threads.answers.Answers.TheVariants.{Nothing}
use Rattle.fk_changes.specs.declared.readers.caller.Caller.{Caller}
use Rattle.fk_store.specs.Store.Contents.{Contents}
use Rattle.fk_store.specs.Store.Paths.{path}
use Rattle.fk_store.specs.Store.World.{world}
use Rattle.fk_plans.specs.Plans.Movings.{done_if, plan_of, verdict_of}
use Rattle.fk_plans.specs.Plans.Plans.{IsPlan}
use Rattle.fk_plans.specs.Plans.Verdicts.{IsSureVerdict, IsVerdict}
use Rattle.fk_plans.specs.declared.plans.plan.Moving.{Moving}
use Rattle.fk_plans.specs.declared.plans.plan.Plan.{Plan}
use Rattle.fk_plans.specs.declared.plans.plan.Verdict.{Verdict}
use Rattle.fk_plans.specs.declared.plans.plan.Verdict.TheVariants as verdicts

pub each : (P : Verdict → Type 0) (last : Bool) (plan : Plan) → P (verdicts.Done plan Nothing) → P (verdicts.Goes plan) → P (done_if last plan)
each P true plan done goes = done
each P false plan done goes = goes

-- what is needed to carry it out is what its plan needs
pub fits_plan : (m : Contents) (c : Caller) (last : Bool) (plan : Plan) → IsVerdict m c (done_if last plan) → IsPlan (path m) (world m) plan
fits_plan m c true plan fits = fits.0.1
fits_plan m c false plan fits = fits.1

-- it takes no memory
pub sure_moving : (moving : Moving) → IsSureVerdict (verdict_of moving)
sure_moving moving = each IsSureVerdict moving.last (plan_of moving) tt tt
