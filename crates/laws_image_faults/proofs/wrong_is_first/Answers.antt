use Rattle.laws_image_faults.proofs.Formed.{wrong-first}
use Rattle.laws_image_faults.proofs.wrong_is_first.Goals as goal

pub returns : goal.returns
returns c = wrong-first
