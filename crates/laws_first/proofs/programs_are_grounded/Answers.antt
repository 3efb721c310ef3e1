use Rattle.laws_first.proofs.Programs.{programs_are_grounded}
use Rattle.laws_first.proofs.programs_are_grounded.Goals as goal

pub returns : goal.returns
returns c = programs_are_grounded
