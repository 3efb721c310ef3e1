use Rattle.std.proofs.Common.{refl}
use Rattle.fk_model.specs.World.{apply, apply_all}
use Rattle.fk_plans.proofs.InPlans.Lists.{own_last}
use Rattle.fk_calls.proofs.calls.taking.end_silently.Goals as goal

pub returns-in-Ok-clause-step : goal.returns-in-Ok-clause-step
unfolding apply apply_all
returns-in-Ok-clause-step c =
    rw (
      c.requires.user,
      c.end_well.ensures.world,
      c.in-Ok.ensures.world,
      c.in-Ok.ensures.places c.args.caller.who c.requires.live,
      own_last,
    ) refl
