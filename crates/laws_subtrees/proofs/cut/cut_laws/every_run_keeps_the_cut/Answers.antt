use Rattle.laws_subtrees.proofs.cut.cut_laws.every_run_keeps_the_cut.Goals as goal
use Rattle.laws_subtrees.proofs.InCut.joined.Runs.{run_keeps}

pub returns : goal.returns
returns c = run_keeps
