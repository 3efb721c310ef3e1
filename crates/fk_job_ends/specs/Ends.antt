-- How the jobs of a run have ended, as its report tells it.
use Rattle.std.specs.Prelude.{ℕ, ◌-◌, List, ◌++◌, map, length, replicate, reverse, Option, Some, None}
use Rattle.fk_model.specs.declared.job.JobSpec.{JobSpec}
use Rattle.fk_model.specs.declared.job.JobSpec.TheVariants as jobs
use Rattle.fk_report.specs.declared.job_end.JobEnd.{JobEnd}
use Rattle.fk_report.specs.declared.job_end.JobEnd.TheVariants as told
use Rattle.laws_checkpoint.specs.Checkpoint as checkpoints
use Rattle.laws_restore.specs.Restore.Restore as restores
use Rattle.laws_house.specs.Houses.{End}
use Rattle.laws_house.specs.Houses.End.{Checked, Restored}
use Rattle.laws_runs.specs.Cores as runs
use Rattle.laws_runs.specs.Cores.JobEnd.{Worked, Idle}
use Rattle.laws_runs.specs.Cores.Unmoved.{NoImage, Dead}

-- a checkpoint by its own moves, of which these are the first and the last. Its place is told from the root down
abbrev pub told_check : checkpoints.End → ℕ → ℕ → JobEnd
told_check checkpoints.Gone begun last = told.Dead
told_check (checkpoints.Foreign place) begun last = told.Foreign (record { path = reverse place.path; field = place.field }) begun last
told_check (checkpoints.Done image) begun last = told.Checkpointed begun last image

-- and a restore
abbrev pub told_restore : restores.End → ℕ → ℕ → JobEnd
told_restore restores.Done begun last = told.Restored begun last
told_restore restores.Occupied begun last = told.Occupied
told_restore (restores.NoPort port) begun last = told.NoPort port begun last

abbrev pub told_work : End → ℕ → ℕ → JobEnd
told_work (Checked end) begun last = told_check end begun last
told_work (Restored end) begun last = told_restore end begun last

abbrev pub told_of : runs.JobEnd End → JobEnd
told_of (Worked end begun last) = told_work end begun last
told_of (Idle NoImage) = told.NoImage
told_of (Idle Dead) = told.Dead

-- of so many jobs: those that have ended, and nothing of the others
abbrev pub told_in : ℕ → List (runs.JobEnd End) → List (Option JobEnd)
told_in count ends = map (λ e. Some (told_of e)) ends ++ replicate (count - length ends) None

-- the name of a job's image
abbrev pub image_of : JobSpec → List ℕ
image_of (jobs.Checkpoint moment nester path slot image) = image
image_of (jobs.Restore moment nester slot image bind) = image
