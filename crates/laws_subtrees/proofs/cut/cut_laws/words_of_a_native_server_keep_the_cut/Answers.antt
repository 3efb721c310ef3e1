use Rattle.laws_subtrees.proofs.InCut.talks.Natives.{give_keeps}
use Rattle.laws_subtrees.proofs.cut.cut_laws.words_of_a_native_server_keep_the_cut.Goals as goal

pub returns : goal.returns
returns c = give_keeps
