use Rattle.fk_cut.proofs.InShown.Law.{equal_cuts}
use Rattle.fk_cut.proofs.shown.equal_lists_are_equal_cuts.Goals as goal

pub returns : goal.returns
returns c = equal_cuts
