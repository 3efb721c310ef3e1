-- How a checkpoint in code ends, and what it is about to end with.
use Rattle.std.specs.Prelude.{ℕ, reverse, Option, Some, None}
use Rattle.fk_finish.specs.declared.place.Place.{Place as CodePlace}
use Rattle.fk_model.specs.Closed.{Place}
use Rattle.fk_image.specs.declared.image.image.Image.{Image}
use Rattle.laws_checkpoint.specs.Checkpoint.{End, State}
use Rattle.laws_checkpoint.specs.Checkpoint.State.{Releases}
use Rattle.laws_checkpoint.specs.Checkpoint.End.{Gone, Foreign, Done}
use Rattle.laws_checkpoint.specs.Foreign.{place_of}
use Rattle.laws_checkpoint.specs.Assembly.{assembled}
use Rattle.laws_checkpoint.specs.Narrow.{narrowed}
use Rattle.fk_checkpoint.specs.Seeking.Seeking.{task_at}
use Rattle.fk_checkpoint.specs.Gathering.Gathering.{contents_of, leads_of}
use Rattle.fk_checkpoint.specs.declared.checkpoint.end.CheckpointEnd.{CheckpointEnd}
use Rattle.fk_checkpoint.specs.declared.checkpoint.end.CheckpointEnd.TheVariants as code_ends
use Rattle.fk_checkpoint.specs.declared.checkpoint.ending.Ending.{Ending}
use Rattle.fk_checkpoint.specs.declared.checkpoint.ending.Ending.TheVariants as endings

-- a place whose path goes from the root down, by the path that the machine has
abbrev pub shown_place : CodePlace → Place
shown_place p = record { path = reverse p.path; field = p.field }

-- how it ends, as the machine says it
abbrev pub end_of : CheckpointEnd → End
end_of (code_ends.Done image) = Done image
end_of (code_ends.Foreign place) = Foreign (shown_place place)
end_of code_ends.Gone = Gone

-- what is about to be made of this
abbrev pub ending_of : ℕ → Ending → End
ending_of slot (endings.Foreign walk at field) = Foreign (place_of slot (task_at walk.mets.items at) field)
ending_of slot (endings.Done contents leads) = Done (narrowed (assembled (contents_of contents.items) (leads_of leads.items)))

-- the image with which a checkpoint ends
abbrev pub image_of : End → Option Image
image_of (Done image) = Some image
image_of (Foreign place) = None
image_of Gone = None

-- the image that is gathered, where only the release is left of a checkpoint that will be done
abbrev pub gathered_in : State → Option Image
gathered_in (Releases end) = image_of end
gathered_in other = None
