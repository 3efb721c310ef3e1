use Rattle.std.proofs.Common.{refl, ◌∙◌}
use Rattle.fk_model.specs.World.{apply_all}
use Rattle.fk_calls.proofs.calls.speaking.tells.Goals as goal

pub returns-then-told : goal.returns-then-told
unfolding apply_all
returns-then-told c = record {
  world = rw (
    c.if-told.true,
    c.finish.ensures.world,
    c.advance.ensures.paths,
    c.advance.ensures.world,
    c.from.ensures,
    c.count_moved.ensures.paths,
    c.count_moved.ensures.world,
  ) refl;
  paths = c.finish.ensures.paths ∙ c.advance.ensures.paths ∙ c.count_moved.ensures.paths;
}

pub returns-else-told : goal.returns-else-told
unfolding apply_all
returns-else-told c = record {
  world = rw (
    c.if-told.false,
    c.advance.ensures.world,
    c.from.ensures,
    c.count_moved.ensures.paths,
    c.count_moved.ensures.world,
  ) refl;
  paths = c.advance.ensures.paths ∙ c.count_moved.ensures.paths;
}
