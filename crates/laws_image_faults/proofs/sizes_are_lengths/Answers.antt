use Rattle.laws_image_faults.proofs.Sizes.{sizes_lengths}
use Rattle.laws_image_faults.proofs.sizes_are_lengths.Goals as goal

pub returns : goal.returns
returns c = sizes_lengths
