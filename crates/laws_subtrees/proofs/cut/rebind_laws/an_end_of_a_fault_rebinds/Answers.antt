use Rattle.laws_subtrees.proofs.InCut.waits.FaultEnds.{fault_done_rebinds}
use Rattle.laws_subtrees.proofs.cut.rebind_laws.an_end_of_a_fault_rebinds.Goals as goal

pub returns : goal.returns
returns c = fault_done_rebinds
