use Rattle.laws_waits.proofs.Complete.{free_runners_are_ready}
use Rattle.laws_waits.proofs.free_runners_are_ready.Goals as goal

pub returns : goal.returns
returns c = free_runners_are_ready
