use Rattle.laws_first.proofs.Programs.{programs_run_transparently}
use Rattle.laws_first.proofs.programs_run_transparently.Goals as goal

pub returns : goal.returns
returns c = programs_run_transparently
