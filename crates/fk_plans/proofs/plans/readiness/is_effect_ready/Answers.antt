use Rattle.std.proofs.Common.{false, None, refl}
use Rattle.fk_plans.specs.declared.plans.plan.Verdict.TheVariants as verdicts
use Rattle.fk_plans.proofs.InPlans.Ready.{ready_allowed}
use Rattle.fk_plans.proofs.plans.readiness.is_effect_ready.Goals as goal

pub returns-in-None : goal.returns-in-None
returns-in-None c words = rw c.in-None.is (ready_allowed _ _ words c.requires.free _ false None (verdicts.Runs c.args.effect.now) c.requires.fits refl
    (rw c.is_effect_allowed.ensures ((λ h. h), (λ h. h))))
