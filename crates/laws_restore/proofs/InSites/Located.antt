-- A look by the nester's own porter: where an object lies from the nester.
use Rattle.std.proofs.Common.{◌≡◌, ℕ, List, None, Result, Ok}
use Rattle.fk_model.specs.declared.limits.TheConstants.{OWN_SPACE}
use Rattle.fk_model.specs.declared.stage.Stage.TheVariants.{Locate}
use Rattle.fk_model.specs.Places.{Path, Ptr}
use Rattle.fk_model.specs.Objects.{reference_of}
use Rattle.fk_model.specs.World.{World}
use Rattle.fk_model.specs.Outcomes.{Outcome}
use Rattle.fk_model.specs.Readers.{object_in}
use Rattle.fk_model.specs.ObjectRows.{target_of}
use Rattle.fk_model.specs.Moves.{call_row}
use Rattle.laws_jobs.specs.Machines.{porter}
use Rattle.laws_jobs.proofs.Rows.{own-place, locate-row, located_as}

module _ (nester : Path) (words : List ℕ) (w : World) where
  abbrev pub located_here : Result Ptr ℕ → Outcome
  located_here = located_as nester words w nester

  pub locate_here-row : (r : ℕ) (to : Ptr) → object_in w (porter nester words) reference_of nester r ≡ Ok to →
      call_row w (porter nester words) None (Locate r OWN_SPACE) ≡ located_here (target_of to)
  locate_here-row r to ref = locate-row nester words w r OWN_SPACE nester to ref (own-place nester words w)
