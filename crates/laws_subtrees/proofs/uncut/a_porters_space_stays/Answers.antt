use Rattle.laws_subtrees.proofs.InUncut.Staying.{porters_space_stays}
use Rattle.laws_subtrees.proofs.uncut.a_porters_space_stays.Goals as goal

pub returns : goal.returns
returns c = porters_space_stays
