use Rattle.laws_subtrees.proofs.InCut.waits.Inside.{wait_inside_keeps}
use Rattle.laws_subtrees.proofs.cut.cut_laws.a_wait_inside_keeps_the_cut.Goals as goal

pub returns : goal.returns
returns c = wait_inside_keeps
