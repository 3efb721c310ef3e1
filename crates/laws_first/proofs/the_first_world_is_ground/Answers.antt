use Rattle.laws_first.proofs.First.{first_world_is_ground}
use Rattle.laws_first.proofs.the_first_world_is_ground.Goals as goal

pub returns : goal.returns
returns c = first_world_is_ground
