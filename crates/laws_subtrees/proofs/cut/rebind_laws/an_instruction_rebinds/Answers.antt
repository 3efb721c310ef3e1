use Rattle.laws_subtrees.proofs.InCut.cut.Instructions.{instruction_rebinds}
use Rattle.laws_subtrees.proofs.cut.rebind_laws.an_instruction_rebinds.Goals as goal

pub returns : goal.returns
returns c = instruction_rebinds
