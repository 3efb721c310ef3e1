use Rattle.laws_image_faults.proofs.Laws.{breaks_told}
use Rattle.laws_image_faults.proofs.breaks_are_told.Goals as goal

pub returns : goal.returns
returns c = breaks_told
