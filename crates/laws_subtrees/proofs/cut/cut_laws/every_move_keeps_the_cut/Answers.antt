use Rattle.laws_subtrees.proofs.cut.cut_laws.every_move_keeps_the_cut.Goals as goal
use Rattle.laws_subtrees.proofs.InCut.joined.Every.{event_keeps}

pub returns : goal.returns
returns c = event_keeps
