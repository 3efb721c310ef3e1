use Rattle.std.proofs.Common.{refl}
use Rattle.fk_model.specs.World.{apply_all}
use Rattle.fk_store.specs.Store.Paths.{path}
use Rattle.fk_plans.proofs.plans.renaming.rename.Goals as goal
use Rattle.fk_plans.proofs.plans.renaming.rename.Goals.{then-is_itself, else-is_itself}

pub returns-then-caller-clause-step : goal.returns-then-caller-clause-step
unfolding apply_all
returns-then-caller-clause-step c = λ words. rw (c.if-caller.true, c.told.ensures.said (path c.move_to.new.self), c.move_to.ensures.world) refl

pub returns-clause-step : goal.returns-clause-step
unfolding apply_all
returns-clause-step c = λ words. elim c.if-is_itself.branch [
  | then-is_itself w ↦
      rw (
        c.if-caller.false,
        ← c.is_named-is_itself.ensures,
        w.if-is_itself.true,
        c.finish.ensures.world,
        w.me-is,
        c.move_to.ensures.target,
        c.move_to.ensures.world,
      )
      refl
  | else-is_itself w ↦
      rw (
        c.if-caller.false,
        ← c.is_named-is_itself.ensures,
        w.if-is_itself.false,
        c.finish.ensures.world,
        w.me-is,
        c.move_to.ensures.places c.args.caller.who (c.requires.live c.if-caller.false),
        c.move_to.ensures.world,
      ) refl
]
