use Rattle.std.proofs.Common.{refl}
use Rattle.fk_model.specs.World.{apply, apply_all}
use Rattle.fk_plans.proofs.InPlans.Lists.{own_last}
use Rattle.fk_plans.proofs.plans.carrying.end_all.Goals as goal

pub returns-clause-step : goal.returns-clause-step
unfolding apply apply_all
returns-clause-step c =
    rw (
      c.if-caller.false,
      c.end_well.ensures.world,
      c.in_ok-carry_all.ensures.world,
      c.in_ok-carry_all.ensures.places c.args.caller.who (c.requires.live c.if-caller.false),
      own_last,
    ) refl
