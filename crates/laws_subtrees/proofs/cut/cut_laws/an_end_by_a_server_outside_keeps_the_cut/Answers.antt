use Rattle.laws_subtrees.proofs.InCut.talks.Left.{left_keeps}
use Rattle.laws_subtrees.proofs.cut.cut_laws.an_end_by_a_server_outside_keeps_the_cut.Goals as goal

pub returns : goal.returns
returns c = left_keeps
