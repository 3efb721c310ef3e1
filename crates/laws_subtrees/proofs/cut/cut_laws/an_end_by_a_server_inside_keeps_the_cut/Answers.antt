use Rattle.laws_subtrees.proofs.InCut.talks.Ends.{end_keeps}
use Rattle.laws_subtrees.proofs.cut.cut_laws.an_end_by_a_server_inside_keeps_the_cut.Goals as goal

pub returns : goal.returns
returns c = end_keeps
