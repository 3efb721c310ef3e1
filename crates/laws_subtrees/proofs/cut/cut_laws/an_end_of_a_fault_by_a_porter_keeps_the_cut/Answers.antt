use Rattle.laws_subtrees.proofs.InCut.waits.FaultsDone.{fault_done_call}
use Rattle.laws_subtrees.proofs.cut.cut_laws.an_end_of_a_fault_by_a_porter_keeps_the_cut.Goals as goal

pub returns : goal.returns
returns c = fault_done_call
