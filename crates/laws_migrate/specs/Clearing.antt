-- A porter destroys the subtree that it holds, object by object; it knows how many there are.
use Rattle.std.specs.Prelude.{◌≡◌, ℕ, zero, suc, ◌+◌, ◌++◌, ◌∷◌, true, List, Some, None, is_some}
use Rattle.fk_model.specs.declared.limits.TheConstants.{OWN_SPACE}
use Rattle.fk_model.specs.declared.stage.Stage.TheVariants.{Destroy}
use Rattle.fk_model.specs.Places.{Path}
use Rattle.fk_model.specs.ObjectRows.{is_scratch}
use Rattle.fk_model.specs.Runs.{Event}
use Rattle.fk_model.specs.Valid.{birth_at}
use Rattle.fk_model.specs.World.{World}
use Rattle.laws_moves.specs.Frozen.Holding.{IsHolding}
use Rattle.laws_jobs.specs.Calls.{IsUnheldOutside}
use Rattle.laws_jobs.specs.Machines.{no_words, Head, Machine, call_of, IsReadyAt, Interleaved, own_moves}
use Rattle.laws_jobs.specs.Machines.Head.{Stops, Asks}
use Rattle.laws_restore.specs.Restore.Restore.{objects}
use Rattle.laws_restore.specs.Restore.Rooms.{Room}
use Rattle.laws_restore.specs.Restore.Roomed.{IsRoomed}
use Rattle.laws_migrate.specs.Births.{IsSpent}

-- so many more than one stages are left, or none
pub data State : Type 0 where
  Left : (more : ℕ) → State
  Over : State

pub data End : Type 0 where
  Destroyed : End

abbrev pub destroying : Path → ℕ → Event
destroying nester slot = call_of nester (Destroy OWN_SPACE slot) no_words

abbrev pub head : ℕ → State → Head End
head slot (Left more) = Asks (Destroy OWN_SPACE slot) no_words
head slot Over = Stops Destroyed

abbrev pub heard_stage : State → State
heard_stage (Left zero) = Over
heard_stage (Left (suc more)) = Left more
heard_stage Over = Over

abbrev pub clearing : ℕ → Machine State End
clearing slot = record { head = head slot; next = λ s status words. heard_stage s }

-- what stands in a held slot is a subtree of these rooms, the porter has no scratch, and the space there has this number
pub record MayClear (nester : Path) (slot birth : ℕ) (c : World) (v : World) : Type 0 where
  pub holding : IsHolding nester slot v
  pub stands : (q : Path) → is_some (v.body (q ++ slot ∷ nester)) ≡ is_some (c.body q)
  pub scratch : (k : ℕ) → is_scratch nester (k ∷ nester) ≡ true → v.body (k ∷ nester) ≡ None
  pub named : birth_at v (slot ∷ nester) ≡ Some birth

-- whatever others do between its stages, nothing of it stands at the end, and its number is spent
abbrev pub SubtreeIsDestroyed : Type 0
SubtreeIsDestroyed = (nester : Path) (slot birth : ℕ) (bind : ℕ → ℕ) (c : World) (rooms : List Room) (w v : World) (es : List Event) → IsRoomed bind c rooms →
    MayClear nester slot birth c w → (run : Interleaved (clearing slot) nester w (Left (objects rooms)) es v Over) →
    ((q : Path) → v.body (q ++ slot ∷ nester) ≡ None) × IsSpent v birth × (own_moves run ≡ objects rooms + 1)

-- its next stage is ready wherever nothing outside is held
abbrev pub ClearingIsReady : Type 0
ClearingIsReady = (nester : Path) (slot birth : ℕ) (bind : ℕ → ℕ) (c : World) (rooms : List Room) (w v : World) (es : List Event)
    (more : ℕ) → IsRoomed bind c rooms →
    MayClear nester slot birth c w → Interleaved (clearing slot) nester w (Left (objects rooms)) es v (Left more) → IsUnheldOutside (slot ∷ nester) v →
    IsReadyAt v (destroying nester slot)
