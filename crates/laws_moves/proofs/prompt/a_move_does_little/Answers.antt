use Rattle.laws_moves.proofs.InPrompt.Brief.{moves_are_brief}
use Rattle.laws_moves.proofs.prompt.a_move_does_little.Goals as goal

pub returns : goal.returns
returns c = moves_are_brief
