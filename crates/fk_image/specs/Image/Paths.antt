-- What the open path gives.
use Rattle.std.specs.Prelude.{◌≡◌, ℕ, List, Option, Result, Ok, Err}
use Rattle.fk_model.specs.declared.no_memory.NoMemory.{NoMemory}
use Rattle.fk_image.specs.declared.image.open.Open.{Open}
use Rattle.fk_image.specs.Image.Preorder.{from, room_under}

-- the slot that a space may come behind, and the open path with that space in it
abbrev pub Rooms : Result (Option ℕ) NoMemory → List Open → List Open → ℕ → Type 0
Rooms (Ok room) old new space = (room ≡ room_under old space) × (new ≡ from space old)
Rooms (Err e) old new space = Unit {0}
