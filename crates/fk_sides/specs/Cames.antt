-- The pieces that have come: what a table of them shows of the list of all that came.
use Rattle.std.specs.Prelude.{◌≡◌, List, [], ◌∷◌, Option, Some, None}
use Rattle.fk_image.specs.declared.image.image.Image.{Image}
use Rattle.laws_handover.specs.Pieces.{Piece}
use Rattle.fk_sides.specs.declared.came.Table.{Table}
use Rattle.fk_sides.specs.declared.came.Came.{Came}
use Rattle.fk_sides.specs.Blocks.{IsIn, read_of}

abbrev pub IsBegun : List Piece → Type 0
IsBegun [] = ⊥
IsBegun (p ∷ ps) = Unit {0}

-- none has come, or they stand in a table
abbrev pub HasCome : Option Table → List Piece → Type 0
HasCome None got = got ≡ []
HasCome (Some t) got = IsIn t.blocks.items got × IsBegun got

-- what a piece more makes of them
abbrev pub ComesTo : Option Image → Option Table → List Piece → Type 0
ComesTo None o got = HasCome o got
ComesTo (Some image) o got = read_of got ≡ Some image

-- this is what has come of a list of pieces
abbrev pub IsCome : Came → List Piece → Type 0
IsCome c got = HasCome c.table got
