use Rattle.laws_subtrees.proofs.InFurther.Runs.{cut_is_cut_world}
use Rattle.laws_subtrees.proofs.further.a_cut_shows_itself.Goals as goal

pub returns : goal.returns
returns c = cut_is_cut_world
