use Rattle.laws_subtrees.proofs.InUncut.Stood.{porters_stood, served_stood}
use Rattle.laws_subtrees.proofs.uncut.no_move_makes_a_server.Goals as goal

pub returns-clause-porters : goal.returns-clause-porters
returns-clause-porters c = porters_stood

pub returns-clause-ports : goal.returns-clause-ports
returns-clause-ports c = served_stood
