use Rattle.laws_migrate.proofs.Images.{images_are_read}
use Rattle.laws_migrate.proofs.images_are_read.Goals as goal

pub returns : goal.returns
returns c = images_are_read
