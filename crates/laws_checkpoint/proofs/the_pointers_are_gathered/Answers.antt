use Rattle.laws_checkpoint.proofs.Gathered.{pointers_are_gathered}
use Rattle.laws_checkpoint.proofs.the_pointers_are_gathered.Goals as goal

pub returns : goal.returns
returns c = pointers_are_gathered
