use Rattle.fk_model.proofs.calls.CallLaws.{todo_writes_back_lem}
use Rattle.laws_moves.proofs.machine.todo_writes_back.Goals as goal

pub returns : goal.returns
returns c = todo_writes_back_lem
