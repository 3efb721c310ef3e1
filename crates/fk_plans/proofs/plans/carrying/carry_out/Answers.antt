use Rattle.std.proofs.Common.{refl}
use Rattle.fk_model.specs.World.{apply, apply_all}
use Rattle.fk_store.specs.Store.Paths.{path}
use Rattle.fk_store.specs.Store.World.{world}
use Rattle.fk_plans.proofs.InPlans.Told.{told_step, if_ok}
use Rattle.fk_plans.proofs.plans.carrying.carry_out.Goals as goal

pub returns-in-Refused-clause-step : goal.returns-in-Refused-clause-step
returns-in-Refused-clause-step c = rw c.in-Refused.is (c.refuse.ensures.step c.args.given.now)

pub returns-in-Faults-clause-step : goal.returns-in-Faults-clause-step
unfolding apply apply_all
returns-in-Faults-clause-step c = rw (c.in-Faults.is, c.raise.ensures.world) refl

pub returns-in-Tells-clause-step : goal.returns-in-Tells-clause-step
returns-in-Tells-clause-step c =
    let fits = rw c.in-Tells.is at c.requires.fits in
    if_ok c.tell.result (λ said step. rw c.in-Tells.is (told_step (path c.args.store.now)
    c.args.caller.who c.args.caller.is_porter fits.0 c.args.given.now (world c.args.store.now) _ _ c.in-Tells.last _ step)) c.tell.ensures.step

pub returns-in-ShowsRecord-clause-step : goal.returns-in-ShowsRecord-clause-step
unfolding apply_all
returns-in-ShowsRecord-clause-step c =
    let porter = rw c.in-ShowsRecord.is at c.requires.fits in
    rw (c.in-ShowsRecord.is, porter, c.told_record.ensures.said (path c.args.store.now)) refl
