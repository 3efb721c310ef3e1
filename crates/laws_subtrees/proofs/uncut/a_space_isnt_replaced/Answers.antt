use Rattle.laws_subtrees.proofs.InUncut.Replaced.{spaces_are_not_replaced}
use Rattle.laws_subtrees.proofs.uncut.a_space_isnt_replaced.Goals as goal

pub returns : goal.returns
returns c = spaces_are_not_replaced
