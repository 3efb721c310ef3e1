use Rattle.laws_subtrees.proofs.InCut.talks.Given.{server_words_keep}
use Rattle.laws_subtrees.proofs.cut.cut_laws.words_of_a_server_keep_the_cut.Goals as goal

pub returns : goal.returns
returns c = server_words_keep
