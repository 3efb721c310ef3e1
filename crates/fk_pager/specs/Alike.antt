-- How a run without peeks has ended, against how it has ended where no page is kept back.
use Rattle.std.specs.Prelude.{◌≡◌, ◌↔◌, ◌≤◌, ℕ, true, List, [], Some}
use Rattle.fk_host.specs.Acts.{IsReadyAsked}
use Rattle.fk_model.specs.declared.limits.TheConstants.{LAST_USER_SLOT}
use Rattle.fk_model.specs.declared.moves.Move.{Move}
use Rattle.fk_model.specs.Objects.{Thread}
use Rattle.fk_model.specs.Objects.Mode.{Calling}
use Rattle.fk_model.specs.Places.{Path}
use Rattle.fk_model.specs.Searches.{thread_at}
use Rattle.fk_model.specs.World.{World}
use Rattle.fk_report.specs.Threads.{HaveHalted}
use Rattle.laws_filled.specs.Filled.{filled}
use Rattle.laws_filled.specs.Pager.{Desk, paging}
use Rattle.laws_waits.specs.Complete.{IsWholeWorld}
use Rattle.fk_pager.specs.Desks.{desk_of_root}
use Rattle.fk_pager.specs.Ends.{IsAnyReady}
use Rattle.fk_pager.specs.Left.{IsQuiet, IsUnheld}
use Rattle.fk_pager.specs.Runs.{Moment, IsRun, is_dark}
use Rattle.fk_pager.specs.Unseen.{IsBeginning}

-- what the world of any kernel keeps: it is nobody's cut, and who is in a call has a stage of it before it
pub record IsKernels (w : World) : Type 0 where
  pub whole : IsWholeWorld w
  pub shaped : (x : Path) (t : Thread) (rest : List ℕ) → thread_at w x ≡ Some t → t.mode ≡ Calling [] rest → ⊥

-- in the filled world no user's and no native server's move is ready, and each thread has halted exactly where all have
pub record EndsAlike (d : Desk) (at : Moment) : Type 0 where
  pub rests : (m : Move) → IsReadyAsked at.services (filled (paging d at.state) at.world) m → ⊥
  pub halted : HaveHalted (filled (paging d at.state) at.world) ↔ HaveHalted at.world

-- where no move is ready at its end, none of a user and a native server is in the filled world, in which the same threads have halted
abbrev pub RunsEndAlike : Type 0
RunsEndAlike = (slot port set room : ℕ) (first : Moment) (moves : List Move) (at : Moment) → slot ≤ LAST_USER_SLOT → 1 ≤ room →
    IsBeginning slot port set first → IsQuiet set first.world → (run : IsRun (desk_of_root slot port set room) first moves at) → is_dark run ≡ true →
    IsUnheld at.world → IsKernels at.world → (IsAnyReady (desk_of_root slot port set room) at → ⊥) → EndsAlike (desk_of_root slot port set room) at
