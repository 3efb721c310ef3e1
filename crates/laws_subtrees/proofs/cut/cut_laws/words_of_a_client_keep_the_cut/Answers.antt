use Rattle.laws_subtrees.proofs.InCut.talks.Messages.{client_send_keeps}
use Rattle.laws_subtrees.proofs.cut.cut_laws.words_of_a_client_keep_the_cut.Goals as goal

pub returns : goal.returns
returns c = client_send_keeps
