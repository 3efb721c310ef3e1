use Rattle.laws_waits.proofs.Never.{never_wait_lem, instructions_never_wait_lem}
use Rattle.laws_waits.proofs.few_rows_wait.Goals as goal

pub returns-clause-stages : goal.returns-clause-stages
returns-clause-stages c = never_wait_lem

pub returns-clause-instructions : goal.returns-clause-instructions
returns-clause-instructions c = instructions_never_wait_lem
