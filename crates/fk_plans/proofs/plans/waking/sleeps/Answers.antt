use Rattle.std.proofs.Common.{◌∷◌, false, refl}
use Rattle.fk_model.specs.declared.stage.Stage.TheVariants.{CondWait}
use Rattle.fk_store.specs.Store.Paths.{path, place}
use Rattle.fk_store.specs.Store.World.{world}
use Rattle.fk_changes.proofs.InThreads.Falling.{first_unlocked}
use Rattle.fk_plans.proofs.plans.waking.sleeps.Goals as goal

pub returns-clause-fits : goal.returns-clause-fits
returns-clause-fits c =
    let p = path c.args.store.now in (
      tt,
      (
        tt,
        first_unlocked (world c.args.store.now)
            (c.args.m ∷ p c.args.caller.who.space) (place p c.args.caller.who) false (CondWait c.args.cond c.args.m) c.requires.first,
        refl,
      ),
    )
