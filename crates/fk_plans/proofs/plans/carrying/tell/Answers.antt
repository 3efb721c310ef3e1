use Rattle.std.proofs.Common.{refl}
use Rattle.fk_model.specs.World.{apply, apply_all}
use Rattle.fk_store.specs.Store.Paths.{path}
use Rattle.fk_plans.specs.Plans.Verdicts.{port_of}
use Rattle.fk_plans.proofs.InPlans.Lists.{own_last}
use Rattle.fk_plans.proofs.plans.carrying.tell.Goals as goal

pub returns-then-last-clause-step : goal.returns-then-last-clause-step
unfolding apply apply_all
returns-then-last-clause-step c =
    let port = c.in_ok-carry_all.ensures.places (port_of c.args.news.now) c.requires.news.0 in
    rw (
      c.if-last.true,
      c.requires.user,
      c.said_of-said.ensures.said (path c.finish.new.store) (rw c.finish.ensures.paths port),
      c.finish.ensures.world,
      c.in_ok-carry_all.ensures.places c.args.caller.who c.requires.live,
      c.in_ok-carry_all.ensures.world,
      own_last,
    ) refl
