use Rattle.laws_subtrees.proofs.InCut.waits.Outside.{wait_outside_keeps}
use Rattle.laws_subtrees.proofs.cut.cut_laws.a_wait_outside_keeps_the_cut.Goals as goal

pub returns : goal.returns
returns c = wait_outside_keeps
