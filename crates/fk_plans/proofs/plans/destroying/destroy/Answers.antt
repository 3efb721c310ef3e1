use Rattle.std.proofs.Common.{◌≡◌, true}
use Rattle.fk_store.specs.Store.Paths.{path, place}
use Rattle.fk_store.specs.Store.World.{world}
use Rattle.fk_plans.proofs.InPlans.Destroyed.{last_step, told_still}
use Rattle.fk_plans.proofs.plans.destroying.destroy.Goals as goal

pub returns-clause-step : goal.returns-clause-step
returns-clause-step c =
    let m = c.args.store.now in
    let on : c.args.last ≡ true = cc in
    λ words. rw (
      on,
      c.told_end-2.ensures.said (path c.finish.new.store),
      c.finish.ensures.paths,
      told_still m (path c.destroy.new.store) c.told_port-port.result c.told_port-port.ensures.live c.destroy.ensures.places,
      c.finish.ensures.world,
      c.destroy.ensures.places c.args.caller.who (c.requires.live c.if-caller.false),
      c.destroy.ensures.world,
      ← c.told_port-port.ensures.told,
    ) (last_step (world m) (path m) c.args.caller.who words (place (path m) c.args.object) c.args.caller.is_porter c.if-caller.false)
