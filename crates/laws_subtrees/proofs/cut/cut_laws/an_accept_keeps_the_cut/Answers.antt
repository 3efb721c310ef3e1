use Rattle.laws_subtrees.proofs.InCut.talks.Accepts.{accept_keeps}
use Rattle.laws_subtrees.proofs.cut.cut_laws.an_accept_keeps_the_cut.Goals as goal

pub returns : goal.returns
returns c = accept_keeps
