use Rattle.laws_subtrees.proofs.InCut.joined.Inside.{inside_keeps}
use Rattle.laws_subtrees.proofs.cut.cut_laws.what_is_done_inside_keeps_the_cut.Goals as goal

pub returns : goal.returns
returns c = inside_keeps
