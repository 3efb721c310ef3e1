use Rattle.fk_restore.proofs.InPositions.Scripted.{positions_are_the_places}
use Rattle.fk_restore.proofs.positions.a_step_takes_one_order.Goals as goal

pub returns : goal.returns
returns c = positions_are_the_places
