-- What the picture of a valid image is: a world such as a subtree that is seen alone.
use Rattle.std.specs.Prelude.{◌≡◌, true}
use Rattle.fk_image.specs.declared.image.image.Image.{Image}
use Rattle.fk_image.specs.Image.Picture.{picture}
use Rattle.fk_image.specs.Image.Valid.{is_valid}
use Rattle.laws_subtrees.specs.Cut.Likeness.{IsCutWorld}

-- the picture of a valid image is a world as a subtree that is seen alone is
abbrev pub PictureIsCutWorld : Type 0
PictureIsCutWorld = (i : Image) → is_valid i ≡ true → IsCutWorld (picture i)
