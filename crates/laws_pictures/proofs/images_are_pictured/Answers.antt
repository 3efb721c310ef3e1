use Rattle.laws_pictures.proofs.Imaged.{picture_of_image}
use Rattle.laws_pictures.proofs.images_are_pictured.Goals as goal

pub returns : goal.returns
returns c = picture_of_image
