-- What a job's move leaves.
use Rattle.std.specs.Prelude.{◌≡◌, ℕ, List, Some}
use Rattle.fk_model.specs.declared.moves.Move.{Move}
use Rattle.fk_model.specs.declared.stage.Stage.{Stage}
use Rattle.fk_model.specs.Places.{Path}
use Rattle.fk_model.specs.Valid.{birth_at}
use Rattle.laws_checkpoint.specs.Laws.{IsSameBeside}
use Rattle.laws_house.specs.Houses.{Job, State}
use Rattle.laws_house.specs.Houses.State.{Checking, Restoring}
use Rattle.laws_restore.specs.Restore.Rest.{IsSameFar}
use Rattle.laws_runs.specs.Cores.{asker}
use Rattle.laws_runs.specs.Cores.Asker.{Job as OfJob}
use Rattle.fk_core.specs.Cores.Cores.{RunCore, house}

-- a checkpoint's move leaves every page, and every object but its nester's scratch and who holds the subtree's root; a restore's leaves
-- all but the new space and its nester's scratch
abbrev pub LeavesBy : State → Path → RunCore → RunCore → Type 0
LeavesBy (Checking slot s) nester c d = IsSameBeside nester slot c.world d.world
LeavesBy (Restoring slot pairs image s) nester c d = IsSameFar nester slot c.world d.world

-- its nester is the space of the porter whose move it is
pub record LeavesBeside (state : State) (c : RunCore) (m : Move) (d : RunCore) : Type 0 where
  pub nester : Path
  pub named : birth_at c.world nester ≡ Some m.who.space
  pub leaves : LeavesBy state nester c d

-- a job's move leaves what isn't the job's
abbrev pub LeavesTheRest : List Job → RunCore → Move → RunCore → Type 0
LeavesTheRest jobs c m d = (begun : ℕ) (state : State) (stage : Stage) (words : List ℕ) →
    asker (house jobs) c m.who ≡ OfJob begun state stage words → LeavesBeside state c m d
