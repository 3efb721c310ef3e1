-- The jobs of a scenario.
use Rattle.std.specs.Prelude.{ℕ, Bool, false, List}
use Rattle.std.specs.Str.{bytes_eq}
use Rattle.fk_model.specs.declared.job.JobSpec.{JobSpec}
use Rattle.fk_model.specs.declared.job.JobSpec.TheVariants.{Checkpoint, Restore}

-- a job makes the image with this name
abbrev pub makes_image : List ℕ → JobSpec → Bool
makes_image image (Checkpoint moment nester path slot made) = bytes_eq made image
makes_image image (Restore moment nester slot used bind) = false
