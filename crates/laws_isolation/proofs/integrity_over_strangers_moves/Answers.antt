use Rattle.laws_isolation.proofs.Undisturbed.{strangers_runs_leave_cut}
use Rattle.laws_isolation.proofs.integrity_over_strangers_moves.Goals as goal

pub returns : goal.returns
returns c = strangers_runs_leave_cut
