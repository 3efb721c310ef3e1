use Rattle.std.proofs.Common.{refl, ◌∙◌}
use Rattle.fk_calls.proofs.calls.going.sets.Goals as goal

pub returns : goal.returns
returns c = record {
  world = rw (c.finish.ensures.world, c.set_locked.ensures.paths, c.set_locked.ensures.world) refl;
  paths = c.finish.ensures.paths ∙ c.set_locked.ensures.paths;
}
