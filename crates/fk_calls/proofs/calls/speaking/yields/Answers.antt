use Rattle.std.proofs.Common.{refl, ◌∙◌}
use Rattle.fk_model.specs.World.{apply_all}
use Rattle.fk_calls.proofs.calls.speaking.yields.Goals as goal

pub returns : goal.returns
unfolding apply_all
returns c = record {
  world = rw (c.finish.ensures.world, c.pass_turn.ensures.paths, c.pass_turn.ensures.world) refl;
  paths = c.finish.ensures.paths ∙ c.pass_turn.ensures.paths;
}
