use Rattle.std.proofs.Common.{refl}
use Rattle.fk_model.specs.World.{apply, apply_all}
use Rattle.fk_plans.proofs.plans.moving.move_words.Goals as goal

pub returns-then-moving : goal.returns-then-moving
unfolding apply apply_all
returns-then-moving c = record {
  step = λ words. rw (
    c.requires.user,
    c.if-moving.true,
    c.finish.ensures.world,
    c.send_words.ensures.paths,
    c.send_words.ensures.world words,
  ) refl;
}

pub returns-else-moving : goal.returns-else-moving
unfolding apply apply_all
returns-else-moving c = record { step = λ words. rw (c.requires.user, c.if-moving.false, c.send_words.ensures.world words) refl }
