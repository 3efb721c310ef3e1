-- Positions are the places of the script.
use Rattle.std.specs.Prelude.{◌≡◌, ℕ, true, ◌++◌}
use Rattle.fk_image.specs.declared.image.image.Image.{Image}
use Rattle.fk_image.specs.Image.Valid.{is_valid}
use Rattle.laws_restore.specs.Restore.Script.{script}
use Rattle.laws_restore.specs.Rooms.Rooms.{rooms_of}
use Rattle.fk_restore.specs.declared.positions.position.Position.{Position}
use Rattle.fk_restore.specs.Positions.Positions.{rest, order_at, next_of, IsPosition, listed, first}

-- from a position on the orders are the one that stands there, if any does, and those from the next on
abbrev pub PositionsAreThePlaces : Type 0
PositionsAreThePlaces = (i : Image) (slot : ℕ) (bind : ℕ → ℕ) (p : Position) → is_valid i ≡ true → IsPosition i.spaces slot bind p →
    (rest i.spaces slot bind p ≡ listed i.spaces slot bind (order_at i.spaces slot bind p) ++ rest i.spaces slot bind (next_of i.spaces slot bind p))
    × IsPosition i.spaces slot bind (next_of i.spaces slot bind p)

-- from the first on they are the whole script
abbrev pub ScriptFromTheFirst : Type 0
ScriptFromTheFirst = (i : Image) (slot : ℕ) (bind : ℕ → ℕ) → is_valid i ≡ true
    → (rest i.spaces slot bind first ≡ script slot bind (rooms_of i)) × IsPosition i.spaces slot bind first
