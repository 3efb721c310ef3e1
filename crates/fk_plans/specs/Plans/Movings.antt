-- Movings: words that go to a thread, as a verdict on the sender's stage.
use Rattle.std.specs.Prelude.{Bool, true, false}
use Rattle.fk_changes.specs.declared.threads.answers.Answers.TheVariants.{Nothing}
use Rattle.fk_plans.specs.declared.plans.plan.Moving.{Moving}
use Rattle.fk_plans.specs.declared.plans.plan.Plan.{Plan}
use Rattle.fk_plans.specs.declared.plans.plan.Plan.TheVariants as plans
use Rattle.fk_plans.specs.declared.plans.plan.Verdict.{Verdict}
use Rattle.fk_plans.specs.declared.plans.plan.Verdict.TheVariants as verdicts

-- what words that move change
abbrev pub plan_of : Moving → Plan
plan_of m = plans.Moves m.block m.client m.receiver m.sender

-- the stage is done with the last of its words
abbrev pub done_if : Bool → Plan → Verdict
done_if true plan = verdicts.Done plan Nothing
done_if false plan = verdicts.Goes plan

-- what a stage comes to that moves words: with the last of them it is done
abbrev pub verdict_of : Moving → Verdict
verdict_of m = done_if m.last (plan_of m)
