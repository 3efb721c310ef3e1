-- How many faults a pager has ended.
use Rattle.std.specs.Prelude.{◌≡◌, ℕ, ◌+◌, ◌==◌, min, List, if◌then◌else◌}
use Rattle.fk_model.specs.declared.moves.Move.{Move}
use Rattle.fk_model.specs.declared.statuses.status.TheConstants.{OK}
use Rattle.fk_model.specs.Outcomes.{Said}
use Rattle.fk_model.specs.Outcomes.Said.{Answered}
use Rattle.laws_filled.specs.Pager as pagers
use Rattle.laws_filled.specs.Pager.{Desk, Phase, MOST_FAULTS, said_of}
use Rattle.laws_filled.specs.Pager.Phase.{Ending}
use Rattle.fk_pager.specs.Runs.{Moment, pagers_event, IsRun}
use Rattle.fk_pager.specs.Runs.IsRun.{Begins, Others, Own}

-- a call that ends a fault is done
abbrev pub done_by : Said → ℕ
done_by (Answered status words) = if status == OK then 1 else 0
done_by other = 0

abbrev pub ended_by : Phase → Said → ℕ
ended_by (Ending page) said = done_by said
ended_by other said = 0

-- how many such calls of a run are done
unfoldable pub ended_in : {d : Desk} {first : Moment} {moves : List Move} {at : Moment} → IsRun d first moves at → ℕ
ended_in Begins = 0
ended_in (Others past at m ask run move) = ended_in run
ended_in {d = d} (Own past at m run move) = ended_in run + ended_by at.state.phase (said_of at.world (pagers_event d at m))

-- the pager counts them, up to the last number that it can tell
abbrev pub FaultsAreCounted : Type 0
FaultsAreCounted = (d : Desk) (first : Moment) (moves : List Move) (at : Moment) → first.state ≡ pagers.first → (run : IsRun d first moves at) →
    at.state.faults ≡ min MOST_FAULTS (ended_in run)
