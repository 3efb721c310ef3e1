use Rattle.laws_checkpoint.proofs.Walks.{objects_are_met}
use Rattle.laws_checkpoint.proofs.the_objects_are_met.Goals as goal

pub returns : goal.returns
returns c = objects_are_met
