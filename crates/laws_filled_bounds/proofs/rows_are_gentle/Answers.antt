use Rattle.laws_filled_bounds.proofs.Gentle.{rows_are_gentle_lem}
use Rattle.laws_filled_bounds.proofs.rows_are_gentle.Goals as goal

pub returns : goal.returns
returns c = rows_are_gentle_lem
