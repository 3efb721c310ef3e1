-- The near side of the code as the laws see it.
use Rattle.std.specs.Prelude.{◌≡◌, ℕ, Option, Some, None}
use Rattle.fk_image.specs.declared.image.image.Image.{Image}
use Rattle.fk_checkpoint.specs.Checkpoint.Checkpoints.{gathered_in}
use Rattle.fk_checkpoint.specs.Checkpoint.Phases.{state_of, HasRoom}
use Rattle.laws_handover.specs.NearSide as near
use Rattle.laws_handover.specs.Packets.{Packet}
use Rattle.laws_handover.specs.Packets.Packet.{Gone, Cancel}
use Rattle.laws_handover.specs.Pieces.{Piece}
use Rattle.laws_migrate.specs.Migration.{Why}
use Rattle.fk_sides.specs.declared.near.Since.{Since}
use Rattle.fk_sides.specs.declared.near.Since.TheVariants as since
use Rattle.fk_sides.specs.declared.near.Saves.{Saves}
use Rattle.fk_sides.specs.declared.near.Saves.TheVariants as saves
use Rattle.fk_sides.specs.Sides.{NearSide, near_at, why_of}

abbrev pub since_of : Image → Since → NearSide
since_of i since.Waits = near.Waits i
since_of i (since.Clears more) = near.Clears i more
since_of i since.Cleared = near.Cleared i
since_of i (since.Cancels why) = near.Cancels i (why_of why)
since_of i (since.Cancelled why) = near.Cancelled i (why_of why)

-- what it has sent behind the pieces, if anything
abbrev pub last_of : Since → Option (Packet Piece Why)
last_of since.Waits = None
last_of (since.Clears more) = None
last_of since.Cleared = Some Gone
last_of (since.Cancels why) = Some Cancel
last_of (since.Cancelled why) = Some Cancel

-- the near side in code as the laws see it
abbrev pub saves_of : Saves → NearSide
saves_of (saves.Works c) = near_at (state_of c)
saves_of (saves.Gathered spelled s) = since_of spelled s

-- the slot of its checkpoint, or this one
abbrev pub slot_in : ℕ → Saves → ℕ
slot_in slot (saves.Works c) = c.slot
slot_in slot (saves.Gathered spelled s) = slot

-- room for one answer
abbrev pub has_room_in : Saves → Type 0
has_room_in (saves.Works c) = HasRoom c
has_room_in (saves.Gathered spelled s) = Unit {0}

-- the image that it has gathered, if there is one, is spelled
abbrev pub IsSpelled : Saves → Type 0
IsSpelled (saves.Works c) = gathered_in (state_of c) ≡ None
IsSpelled (saves.Gathered spelled s) = Unit {0}

-- it is gathered, and its bytes are still to be written
abbrev pub IsStillIn : Saves → Option Image → Type 0
IsStillIn saves None = IsSpelled saves
IsStillIn saves (Some image) = saves_of saves ≡ near.Waits image
