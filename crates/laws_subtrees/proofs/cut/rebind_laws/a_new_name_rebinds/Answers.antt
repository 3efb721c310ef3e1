use Rattle.laws_subtrees.proofs.InCut.cut.Objects.{rename_rebinds}
use Rattle.laws_subtrees.proofs.cut.rebind_laws.a_new_name_rebinds.Goals as goal

pub returns : goal.returns
returns c = rename_rebinds
