use Rattle.laws_subtrees.proofs.InCut.talks.Natives.{over_keeps}
use Rattle.laws_subtrees.proofs.cut.cut_laws.a_turn_of_a_native_server_keeps_the_cut.Goals as goal

pub returns : goal.returns
returns c = over_keeps
