use Rattle.laws_pictures.proofs.Cuts.{picture_is_cut_world}
use Rattle.laws_pictures.proofs.pictures_are_cut_worlds.Goals as goal

pub returns : goal.returns
returns c = picture_is_cut_world
