use Rattle.fk_model.proofs.calls.CallLaws.{words_read_back_lem}
use Rattle.laws_moves.proofs.machine.words_read_back.Goals as goal

pub returns : goal.returns
returns c = words_read_back_lem
