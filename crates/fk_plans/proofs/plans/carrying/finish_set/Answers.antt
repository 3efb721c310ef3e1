use Rattle.std.proofs.Common.{refl}
use Rattle.fk_model.specs.World.{apply, apply_all}
use Rattle.fk_plans.proofs.InPlans.Lists.{own_last}
use Rattle.fk_plans.proofs.plans.carrying.finish_set.Goals as goal

pub returns-clause-step : goal.returns-clause-step
unfolding apply apply_all
returns-clause-step c = rw (c.if-caller.false, c.finish.ensures.world, c.set_record.ensures.paths, c.set_record.ensures.world, own_last) refl
