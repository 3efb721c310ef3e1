use Rattle.laws_moves.proofs.InMachine.validity.Steps.{step_keeps_valid_lem}
use Rattle.laws_moves.proofs.machine.a_fit_move_keeps_a_valid_world.Goals as goal

pub returns : goal.returns
returns c = step_keeps_valid_lem
