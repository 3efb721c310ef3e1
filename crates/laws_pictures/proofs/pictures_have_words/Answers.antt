use Rattle.laws_pictures.proofs.Needed.{pictures_have_words as have_words}
use Rattle.laws_pictures.proofs.pictures_have_words.Goals as goal

pub returns : goal.returns
returns c = have_words
