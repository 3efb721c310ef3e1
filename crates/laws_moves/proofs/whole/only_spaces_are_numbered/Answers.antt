use Rattle.laws_moves.proofs.InWhole.Younger.{only_spaces_numbered}
use Rattle.laws_moves.proofs.whole.only_spaces_are_numbered.Goals as goal

pub returns : goal.returns
returns c = only_spaces_numbered
