use Rattle.laws_subtrees.proofs.InUncut.Kept.{keeps_uncut}
use Rattle.laws_subtrees.proofs.uncut.moves_keep_a_world_uncut.Goals as goal

pub returns : goal.returns
returns c = keeps_uncut
