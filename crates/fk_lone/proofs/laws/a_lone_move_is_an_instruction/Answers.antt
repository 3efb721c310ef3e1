use Rattle.fk_lone.proofs.LoneMoves.{lone_move_stays_alone, lone_move_is_instruction, machine_moves_lone}
use Rattle.fk_lone.proofs.laws.a_lone_move_is_an_instruction.Goals as goal

pub returns-clause-alone : goal.returns-clause-alone
returns-clause-alone c = lone_move_stays_alone

pub returns-clause-instruction : goal.returns-clause-instruction
returns-clause-instruction c = lone_move_is_instruction

pub returns-clause-machine : goal.returns-clause-machine
returns-clause-machine c = machine_moves_lone
