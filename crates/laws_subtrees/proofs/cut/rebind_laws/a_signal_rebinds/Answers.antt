use Rattle.laws_subtrees.proofs.InCut.waits.Signals.{signal_rebinds}
use Rattle.laws_subtrees.proofs.cut.rebind_laws.a_signal_rebinds.Goals as goal

pub returns : goal.returns
returns c = signal_rebinds
