use Rattle.fk_plans.proofs.InPlans.Ready.{ready_allowed}
use Rattle.fk_plans.proofs.plans.readiness.is_ready.Goals as goal

pub returns-then-may_pick : goal.returns-then-may_pick
returns-then-may_pick c words = ready_allowed _ _ words c.requires.free _ _ _ _ c.requires.fits (cc) c.is_verdict_allowed.ensures
