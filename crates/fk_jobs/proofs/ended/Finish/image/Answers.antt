use Rattle.std.proofs.Common.{◌∙◌}
use Rattle.fk_jobs.proofs.Images.{image_same}
use Rattle.fk_jobs.proofs.ended.Finish.image.Goals as goal

pub returns-in-Checkpoint : goal.returns-in-Checkpoint
returns-in-Checkpoint c = rw c.in-Checkpoint.is (c.image.ensures ∙ image_same _)
