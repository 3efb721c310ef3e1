use Rattle.laws_subtrees.proofs.InCut.joined.Rebinding.{run_rebinds}
use Rattle.laws_subtrees.proofs.cut.rebind_laws.every_run_rebinds.Goals as goal

pub returns : goal.returns
returns c = run_rebinds
