use Rattle.laws_pictures.proofs.Validated.{image_is_valid}
use Rattle.laws_pictures.proofs.images_are_valid.Goals as goal

pub returns : goal.returns
returns c = image_is_valid
