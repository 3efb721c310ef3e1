-- What holds of every run with a pager from a moment on at which it may begin, and so of each beginning of such a run.
use Rattle.std.specs.Prelude.{◌≡◌, ◌+◌, ◌*◌, ◌≤◌, min, true, false, List, ◌∷◌, length}
use Rattle.fk_model.specs.declared.limits.TheConstants.{PAGES}
use Rattle.fk_model.specs.declared.moves.Move.{Move}
use Rattle.laws_filled.specs.Pager.{Desk, MOST_FAULTS, HasAll, homes, is_opening}
use Rattle.fk_pager.specs.Alike.{EndsAlike, IsKernels}
use Rattle.fk_pager.specs.Bounds.{calls_in, raised_along, spares_port}
use Rattle.fk_pager.specs.Counted.{ended_in}
use Rattle.fk_pager.specs.Ends.{IsAnyReady, IsPagerReady}
use Rattle.fk_pager.specs.Left.{IsUnheld, LeavesNone}
use Rattle.fk_pager.specs.Runs.{Moment, IsRun, is_dark, struck}
use Rattle.fk_pager.specs.Unseen.{IsHidden}

pub record HidesPager (d : Desk) (first : Moment) : Type 0 where
  -- up to the first move that peeks, what others do is a run of the first world, in which every page is home
  pub hidden : (moves : List Move) (at : Moment) (run : IsRun d first moves at) → is_dark run ≡ true → IsHidden d first (struck run) at
  -- when the opening is done its list is the pages that were home at first, and none of them is home
  pub opens : (moves : List Move) (at : Moment) → IsRun d first moves at → is_opening at.state.phase ≡ false → length moves ≡ at.opened →
      HasAll d first.world at.world at.state
  -- where the pager has no call to make, nobody peeked and nothing is held, no fault of its own is left
  pub leaves_none : (moves : List Move) (at : Moment) (run : IsRun d first moves at) → is_dark run ≡ true → IsUnheld at.world →
      (IsPagerReady d at → ⊥) → LeavesNone d at
  -- and where no move is ready, it has ended as it does where every page is home
  pub ends_alike : (moves : List Move) (at : Moment) (run : IsRun d first moves at) → is_dark run ≡ true → IsUnheld at.world → IsKernels at.world →
      (IsAnyReady d at → ⊥) → EndsAlike d at
  -- the faults that are told are those that were ended
  pub counted : (moves : List Move) (at : Moment) (run : IsRun d first moves at) → at.state.faults ≡ min MOST_FAULTS (ended_in run)
  -- at most ten calls for each page that was home, for each fault, and for the run
  pub bounded : (moves : List Move) (at : Moment) (run : IsRun d first moves at) → spares_port run ≡ true →
      calls_in run ≤ 10 * (homes first.world (d.slot ∷ d.nester) PAGES + raised_along run + 1)
