use Rattle.std.proofs.Common.{refl, ◌∙◌}
use Rattle.fk_calls.proofs.calls.signalling.wakes.Goals as goal

pub returns : goal.returns
returns c = record {
  world = rw (c.finish.ensures.world, c.wake.ensures.paths, c.wake.ensures.world) refl;
  paths = c.finish.ensures.paths ∙ c.wake.ensures.paths;
}
