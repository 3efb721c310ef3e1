-- How jobs in code have ended, as a run's core has it.
use Rattle.std.specs.Prelude.{List, map}
use Rattle.laws_house.specs.Houses.{End}
use Rattle.laws_house.specs.Houses.End.{Checked, Restored}
use Rattle.laws_runs.specs.Cores as runs
use Rattle.laws_runs.specs.Cores.{JobEnd}
use Rattle.laws_runs.specs.Cores.JobEnd.{Worked, Idle}
use Rattle.fk_checkpoint.specs.Checkpoint.Checkpoints as checkpoints
use Rattle.fk_restore.specs.Restore.Restores as restores
use Rattle.fk_jobs.specs.declared.ended.Finish.{Finish}
use Rattle.fk_jobs.specs.declared.ended.Finish.TheVariants as finishes
use Rattle.fk_jobs.specs.declared.ended.Unmoved.{Unmoved}
use Rattle.fk_jobs.specs.declared.ended.Unmoved.TheVariants as unmoved
use Rattle.fk_jobs.specs.declared.ended.Ended.{Ended}
use Rattle.fk_jobs.specs.declared.ended.Ended.TheVariants as ended

-- by its own moves
abbrev pub finish_of : Finish → End
finish_of (finishes.Checkpoint end) = Checked (checkpoints.end_of end)
finish_of (finishes.Restore end) = Restored (restores.end_of end)

-- without a move
abbrev pub unmoved_of : Unmoved → runs.Unmoved
unmoved_of unmoved.NoImage = runs.NoImage
unmoved_of unmoved.Dead = runs.Dead

-- how a job has ended
abbrev pub shown_end : Ended → JobEnd End
shown_end (ended.Worked finish begun last) = Worked (finish_of finish) begun last
shown_end (ended.Idle why) = Idle (unmoved_of why)

-- how jobs have ended
abbrev pub shown_ends : List Ended → List (JobEnd End)
shown_ends ends = map shown_end ends
