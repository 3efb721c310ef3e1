-- Images in pieces: an image's bytes are cut into pieces of 512, and read again once all have come.
use Rattle.std.specs.Prelude.{ℕ, List, Option, Some, None, Result, Ok, Err, if◌then◌else◌}
use Rattle.fk_image.specs.declared.image.image.Image.{Image}
use Rattle.fk_image.specs.Image.Valid.{is_valid}
use Rattle.fk_image.specs.Format.Reading.{image_reading}
use Rattle.fk_image.specs.Format.Spelling.{spelling}
use Rattle.laws_handover.specs.Packets.{Codec}
use Rattle.laws_handover.specs.Pieces.{Piece, codec}
use Rattle.laws_migrate.specs.Laws.{IsGoodCodec}

-- the valid image that is read
abbrev pub valid_image : {E : Type 0} → Result Image E → Option Image
valid_image (Ok image) = if is_valid image then Some image else None
valid_image (Err fault) = None

abbrev pub read_bytes : List ℕ → Option Image
read_bytes bytes = valid_image (image_reading bytes)

-- how an image goes in pieces: its spelling in blocks, and back
abbrev pub image_codec : Codec Image Piece
image_codec = codec spelling read_bytes

-- a valid image is read from all its pieces, in any order and again, and from fewer nothing; what is read is valid
abbrev pub ImagesAreRead : Type 0
ImagesAreRead = IsGoodCodec image_codec
