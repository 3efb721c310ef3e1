-- Quiet: verdicts by which nothing changes.
use Rattle.std.specs.Prelude.{Bool, true, false}
use Rattle.fk_plans.specs.declared.plans.plan.Plan.{Plan}
use Rattle.fk_plans.specs.declared.plans.plan.Plan.TheVariants as plans
use Rattle.fk_plans.specs.declared.plans.plan.Verdict.{Verdict}
use Rattle.fk_plans.specs.declared.plans.plan.Verdict.TheVariants as verdicts

-- a plan does nothing
abbrev pub is_nothing : Plan → Bool
is_nothing plans.Nothing = true
is_nothing other = false

-- a verdict shows words, and changes nothing
abbrev pub is_quiet : Verdict → Bool
is_quiet (verdicts.ShowsRecord object) = true
is_quiet (verdicts.Shows plan space page) = is_nothing plan
is_quiet other = false
