use Rattle.std.proofs.Common.{refl}
use Rattle.fk_model.specs.World.{apply, apply_all}
use Rattle.fk_plans.proofs.InPlans.Lists.{own_last}
use Rattle.fk_plans.proofs.plans.waking.wake_sleepers.Goals as goal

pub returns : goal.returns
unfolding apply apply_all
returns c = record {
  step = λ words. rw (c.requires.user, c.finish.ensures.world, c.wake_all.ensures.paths, c.wake_all.ensures.world, own_last) refl;
}
