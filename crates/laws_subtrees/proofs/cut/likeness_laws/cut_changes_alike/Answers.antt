use Rattle.laws_subtrees.proofs.InCut.likeness.Laws.{cut_changes_alike, plain_stays}
use Rattle.laws_subtrees.proofs.cut.likeness_laws.cut_changes_alike.Goals as goal

pub returns : goal.returns
returns c = record { changes = cut_changes_alike; plain = plain_stays }
