use Rattle.laws_pictures.proofs.Numbers.{numbers_are_paths_lem}
use Rattle.laws_pictures.proofs.numbers_are_paths.Goals as goal

pub returns : goal.returns
returns c = numbers_are_paths_lem
