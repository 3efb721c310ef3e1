use Rattle.laws_image_faults.proofs.Laws.{firsts_told}
use Rattle.laws_image_faults.proofs.firsts_are_told.Goals as goal

pub returns : goal.returns
returns c = firsts_told
