use Rattle.laws_subtrees.proofs.InCut.waits.Signals.{signal_keeps}
use Rattle.laws_subtrees.proofs.cut.cut_laws.a_signal_keeps_the_cut.Goals as goal

pub returns : goal.returns
returns c = signal_keeps
