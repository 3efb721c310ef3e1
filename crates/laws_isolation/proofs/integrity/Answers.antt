use Rattle.laws_isolation.proofs.Undisturbed.{strangers_leave_cut}
use Rattle.laws_isolation.proofs.integrity.Goals as goal

pub returns : goal.returns
returns c = strangers_leave_cut
