-- The image with which a checkpoint ends, as the scenario's jobs have it.
use Rattle.std.proofs.Common.{◌≡◌, refl}
use Rattle.laws_checkpoint.specs.Checkpoint as checkpoints
use Rattle.laws_house.specs.Houses.{image_of_end}
use Rattle.laws_house.specs.Houses.End.{Checked}
use Rattle.fk_checkpoint.specs.Checkpoint.Checkpoints.{image_of}

pub image_same : (end : checkpoints.End) → image_of end ≡ image_of_end (Checked end)
image_same checkpoints.Gone = refl
image_same (checkpoints.Foreign place) = refl
image_same (checkpoints.Done image) = refl
