use Rattle.examples_jobs.proofs.Pins.{restores_not}
use Rattle.examples_jobs.proofs.a_restore_that_leaves_its_pin.Goals as goal

pub returns : goal.returns
returns c = restores_not
