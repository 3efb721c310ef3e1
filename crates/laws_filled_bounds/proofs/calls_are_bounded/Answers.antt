use Rattle.laws_filled_bounds.proofs.Driven.{calls_are_bounded_lem}
use Rattle.laws_filled_bounds.proofs.calls_are_bounded.Goals as goal

pub returns : goal.returns
returns c = calls_are_bounded_lem
