-- What a call comes to while its porter works: it changes nothing, or leads one of the porter's references anew.
use Rattle.std.proofs.Common.{◌≡◌, ℕ, List, [], ◌∷◌, None}
use Rattle.fk_model.specs.declared.stage.Stage.{Stage}
use Rattle.fk_model.specs.Places.{Path, Ptr}
use Rattle.fk_model.specs.Objects.Body.{Reference}
use Rattle.fk_model.specs.World.{World, Change}
use Rattle.fk_model.specs.World.Change.{Alter}
use Rattle.fk_model.specs.World.Edit.{SetPointer}
use Rattle.fk_model.specs.Outcomes.Outcome.{Goes}
use Rattle.fk_model.specs.Outcomes.Said.{Answered}
use Rattle.fk_model.specs.Moves.{call_row}
use Rattle.std.specs.Prelude.{Some}
use Rattle.laws_jobs.specs.Machines.{porter, no_words}
use Rattle.laws_checkpoint.specs.Foreign.{PLACES, TARGETS, STEPS}

pub data IsOwnSlot : ℕ → Type 0 where
  Places : IsOwnSlot PLACES
  Targets : IsOwnSlot TARGETS
  Steps : IsOwnSlot STEPS

pub data IsMild (nester : Path) (w : World) : List Change → Type 0 where
  Changes_nothing : IsMild nester w []
  Leads : (r : ℕ) (old to : Ptr) → IsOwnSlot r → w.body (r ∷ nester) ≡ Some (Reference old) → IsMild nester w (Alter (r ∷ nester) (SetPointer to) ∷ [])

pub record Comes (nester : Path) (w : World) (stage : Stage) : Type 0 where
  pub changes : List Change
  pub status : ℕ
  pub given : List ℕ
  pub row : call_row w (porter nester no_words) None stage ≡ Goes changes (Answered status given)
  pub mild : IsMild nester w changes

-- with the words that are given
abbrev pub ComesWith : Path → World → Stage → List ℕ → Type 0
ComesWith nester w stage words = (words ≡ no_words) × Comes nester w stage
