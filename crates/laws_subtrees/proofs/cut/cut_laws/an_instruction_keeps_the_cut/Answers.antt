use Rattle.laws_subtrees.proofs.InCut.cut.Instructions.{instruction_keeps}
use Rattle.laws_subtrees.proofs.cut.cut_laws.an_instruction_keeps_the_cut.Goals as goal

pub returns : goal.returns
returns c = instruction_keeps
