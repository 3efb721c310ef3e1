-- Blocks of bytes in their places, and what they show of the pieces that came, in whatever order and however often.
use Rattle.std.specs.Prelude.{◌≡◌, ℕ, ◌<◌, ◌≤◌, ◌⊎◌, List, [], ◌∷◌, ◌++◌, length, take, Option, Some, None, option_map}
use Rattle.std.specs.List.{slice_get}
use Rattle.fk_image.specs.declared.image.image.Image.{Image}
use Rattle.laws_handover.specs.Pieces.{Piece, content, found, joined, read_from}
use Rattle.laws_migrate.specs.Images.{read_bytes}
use Rattle.fk_sides.specs.declared.blocks.Block.{Block}

-- the bytes of a block that count
abbrev pub bytes_of : Block → List ℕ
bytes_of b = take b.len b.bytes

-- none behind the last place, and none where none has come
abbrev pub bytes_in : Option (Option Block) → Option (List ℕ)
bytes_in None = None
bytes_in (Some block) = option_map bytes_of block

abbrev pub bytes_at : List (Option Block) → ℕ → Option (List ℕ)
bytes_at blocks n = bytes_in (slice_get blocks n)

-- what is there of one
abbrev pub shown : Option Block → List ℕ
shown None = []
shown (Some b) = bytes_of b

-- all of them, one after the other
abbrev pub spelled : List (Option Block) → List ℕ
spelled [] = []
spelled (block ∷ blocks) = shown block ++ spelled blocks

-- those before a place have come
pub record IsFilledTo (blocks : List (Option Block)) (first : ℕ) : Type 0 where
  pub within : first ≤ length blocks
  pub filled : (n : ℕ) → n < first → bytes_at blocks n ≡ None → ⊥

-- and the one there hasn't
pub record IsFilled (blocks : List (Option Block)) (first : ℕ) : Type 0 where
  pub to : IsFilledTo blocks first
  pub open_at : bytes_at blocks first ≡ None

-- a place is there, and open
pub record IsOpen (blocks : List (Option Block)) (n : ℕ) : Type 0 where
  pub within : n < length blocks
  pub none : bytes_at blocks n ≡ None

-- a place is behind the last, or taken
abbrev pub IsIdle : List (Option Block) → ℕ → Type 0
IsIdle blocks n = (length blocks ≤ n) ⊎ (bytes_at blocks n ≡ None → ⊥)

-- ---- the pieces that came

-- a block as a piece with this number, of so many
abbrev pub piece_of : ℕ → ℕ → Block → Piece
piece_of number total b = record { number = number; total = total; bytes = b.bytes; len = b.len }

-- the image that they are read as, once all have come
abbrev pub read_of : List Piece → Option Image
read_of got = read_from read_bytes (joined got)

-- the first that came says how many there are
abbrev pub Begins : List Piece → ℕ → ℕ → Type 0
Begins [] total many = total ≡ many
Begins (p ∷ ps) total many = p.total ≡ many

-- in each place stands the first piece with that number, and they are read as no image yet
pub record IsIn (blocks : List (Option Block)) (got : List Piece) : Type 0 where
  pub at : (n : ℕ) → n < length blocks → bytes_at blocks n ≡ option_map content (found n got)
  pub unread : read_of got ≡ None
  pub many : Begins got (length blocks) (length blocks)

-- what a piece more makes of them: the image that all are read as, or none yet
abbrev pub Comes : Option Image → List (Option Block) → List Piece → Type 0
Comes None blocks got = IsIn blocks got
Comes (Some image) blocks got = read_of got ≡ Some image
