use Rattle.fk_pager.proofs.Bounds.{calls_are_bounded}
use Rattle.fk_pager.proofs.calls_are_bounded.Goals as goal

pub returns : goal.returns
returns c = calls_are_bounded
