use Rattle.fk_restore.proofs.InPositions.Scripted.{script_from_the_first}
use Rattle.fk_restore.proofs.positions.the_first_position_has_all.Goals as goal

pub returns : goal.returns
returns c = script_from_the_first
