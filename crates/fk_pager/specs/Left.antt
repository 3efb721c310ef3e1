-- What a run without peeks leaves: where the pager has no call to make, no fault of its own is left.
use Rattle.std.specs.Prelude.{◌≡◌, ℕ, ◌≤◌, true, false, List, Some, None}
use Rattle.fk_model.specs.declared.limits.TheConstants.{LAST_USER_SLOT}
use Rattle.fk_model.specs.declared.moves.Move.{Move}
use Rattle.fk_model.specs.Objects.{Fault}
use Rattle.fk_model.specs.Places.{Path}
use Rattle.fk_model.specs.World.{World}
use Rattle.fk_model.specs.Searches.{depth, talk_at, fault_at}
use Rattle.fk_model.specs.Holds.{decider}
use Rattle.fk_model.specs.Valid.{IsValid}
use Rattle.laws_filled.specs.Filled.{is_paged}
use Rattle.laws_filled.specs.Pager.{Desk, paging}
use Rattle.laws_filled.specs.Pager.Phase.{Waiting}
use Rattle.fk_pager.specs.Desks.{desk_of_root}
use Rattle.fk_pager.specs.Ends.{IsPagerReady}
use Rattle.fk_pager.specs.Unseen.{IsBeginning}
use Rattle.fk_pager.specs.Runs.{Moment, IsRun, is_dark}

-- nobody talks, and the set is in a user's slot
pub record IsQuiet (set : ℕ) (w : World) : Type 0 where
  pub low : set ≤ LAST_USER_SLOT
  pub untalked : (x : Path) → talk_at w x ≡ None

-- a world that may follow, in which nobody holds anything
pub record IsUnheld (w : World) : Type 0 where
  pub valid : IsValid w
  pub few : w.next ≤ depth
  pub none : (x : Path) → decider w x ≡ None

pub record LeavesNone (d : Desk) (at : Moment) : Type 0 where
  pub waits : at.state.phase ≡ Waiting
  pub none : (x : Path) (fault : Fault) → fault_at at.world x ≡ Some fault → is_paged (paging d at.state) fault ≡ false

-- where the pager has no call to make at the end of a run that nobody peeks in, and nothing is held, no fault of its own is left
abbrev pub RunsLeaveNone : Type 0
RunsLeaveNone = (slot port set room : ℕ) (first : Moment) (moves : List Move) (at : Moment) → slot ≤ LAST_USER_SLOT → 1 ≤ room →
    IsBeginning slot port set first → IsQuiet set first.world → (run : IsRun (desk_of_root slot port set room) first moves at) → is_dark run ≡ true →
    IsUnheld at.world → (IsPagerReady (desk_of_root slot port set room) at → ⊥) → LeavesNone (desk_of_root slot port set room) at
