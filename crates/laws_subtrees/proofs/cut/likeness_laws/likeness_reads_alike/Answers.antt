use Rattle.laws_subtrees.proofs.InCut.likeness.Laws.{likeness_reads_alike}
use Rattle.laws_subtrees.proofs.cut.likeness_laws.likeness_reads_alike.Goals as goal

pub returns : goal.returns
returns c = likeness_reads_alike
