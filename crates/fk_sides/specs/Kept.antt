-- How a migration has ended at a side: why the original is kept, whether the copy is let go, and how many pieces its image has.
use Rattle.std.specs.Prelude.{ℕ, Bool, true, false, length, Option, Some, None}
use Rattle.fk_image.specs.declared.image.image.Image.{Image}
use Rattle.fk_checkpoint.specs.Checkpoint.Checkpoints.{shown_place}
use Rattle.fk_sides.specs.declared.kept.Reason.{Reason}
use Rattle.fk_sides.specs.declared.kept.Reason.TheVariants as reasons
use Rattle.fk_sides.specs.Sides.{NearSide, FarSide}
use Rattle.laws_handover.specs.NearSide as near
use Rattle.laws_handover.specs.FarSide as far
use Rattle.laws_handover.specs.Laws.{near_image}
use Rattle.laws_migrate.specs.Images.{image_codec}
use Rattle.laws_migrate.specs.Migration.{Why}
use Rattle.laws_migrate.specs.Migration.Why.{Dead, Foreign, Occupied, NoPort, GaveUp}

abbrev pub reason_of : Reason → Why
reason_of reasons.Dead = Dead
reason_of (reasons.Foreign place) = Foreign (shown_place place.now)
reason_of reasons.Occupied = Occupied
reason_of (reasons.NoPort port) = NoPort port
reason_of reasons.GaveUp = GaveUp

-- the original is kept and let go, for this reason
abbrev pub why_kept : NearSide → Option Why
why_kept (near.Failed why) = Some why
why_kept (near.Cancelled i why) = Some why
why_kept (near.Saves s) = None
why_kept (near.Waits i) = None
why_kept (near.Clears i more) = None
why_kept (near.Cleared i) = None
why_kept (near.Cancels i why) = None

-- the copy is let go
abbrev pub is_moved : FarSide → Bool
is_moved (far.Moved i) = true
is_moved (far.Listens got) = false
is_moved (far.Makes i t) = false
is_moved (far.Built i) = false
is_moved (far.Releases i) = false
is_moved (far.Refuses i why) = false
is_moved (far.Undoes i t) = false
is_moved (far.Clears i more ready) = false
is_moved (far.Ended image ready) = false

-- how many pieces were sent
abbrev pub many_pieces : Option Image → ℕ
many_pieces None = 0
many_pieces (Some i) = length (image_codec.pieces i)

abbrev pub pieces_of : NearSide → ℕ
pieces_of n = many_pieces (near_image n)
