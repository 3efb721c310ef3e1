-- What the form of an image, read off its records, has to do with validity, with the walk over pointers and with the reader.
use Rattle.std.specs.Prelude.{◌≡◌, ◌↔◌, ℕ, true, List, length, Some, None}
use Rattle.fk_image.specs.declared.image.image.SpaceRec.{SpaceRec}
use Rattle.fk_image.specs.declared.image.image.Image.{Image}
use Rattle.fk_image.specs.Image.Valid.{is_valid}
use Rattle.fk_image.specs.Format.Offsets.{wrong_in}
use Rattle.fk_image.specs.Form.Order.{AreInOrder}
use Rattle.fk_image.specs.Format.Spelling.{space_bytes}
use Rattle.fk_image.specs.Form.Standing.{space_size, IsFirstWrong, AllRight}
use Rattle.fk_image.specs.Form.Formed.{IsSpace, IsFormed}

-- an image is valid exactly where it has the form
abbrev pub ValidIsFormed : Type 0
ValidIsFormed = (i : Image) → (is_valid i ≡ true) ↔ IsFormed i

-- where spaces stand in order, the walk over their pointers finds exactly the first place where one is wrong, and none where none is
abbrev pub WrongIsFirst : Type 0
WrongIsFirst = (spaces : List SpaceRec) → AreInOrder spaces →
    ((offset : ℕ) → (wrong_in spaces ≡ Some offset) ↔ IsFirstWrong spaces offset) × ((wrong_in spaces ≡ None) ↔ AllRight spaces)

-- a space that has the form has as many bytes as its size says, so offsets are numbers of bytes
abbrev pub SizesAreLengths : Type 0
SizesAreLengths = (s : SpaceRec) → IsSpace s → length (space_bytes s) ≡ space_size s
