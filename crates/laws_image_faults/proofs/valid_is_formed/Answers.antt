use Rattle.laws_image_faults.proofs.Formed.{valid-formed}
use Rattle.laws_image_faults.proofs.valid_is_formed.Goals as goal

pub returns : goal.returns
returns c = valid-formed
