use Rattle.laws_house.proofs.Moving.{gone_leaves_all}
use Rattle.laws_house.proofs.a_checkpoint_without_a_space_leaves_all.Goals as goal

pub returns : goal.returns
returns c = gone_leaves_all
