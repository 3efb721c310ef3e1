-- Proceeding: a thread goes on where it stands.
use Rattle.std.proofs.Common.{◌≡◌, ℕ, List, length, Some, None, refl}
use Rattle.std.specs.FinMap.{FinMap, get, insert}
use Rattle.fk_model.specs.declared.names.Who.{Who}
use Rattle.fk_model.specs.declared.thread.Mode.{Mode}
use Rattle.fk_model.specs.declared.body.Body.{Body}
use Rattle.fk_model.specs.declared.body.Body.TheVariants.{Mutex, Cond, Mapping, Region, Port, Portset, Space, Thread, Reference}
use Rattle.fk_model.specs.Places.{Path}
use Rattle.fk_model.specs.World.{edited}
use Rattle.fk_model.specs.World.Edit.{Proceed}
use Rattle.fk_store.specs.Freezing.Threads.{proceeded}
use Rattle.fk_store.specs.Store.Names.{who_cmp}
use Rattle.fk_store.specs.Store.Contents.{Contents}
use Rattle.fk_store.specs.Store.Bodies.{mode_by, body_by}
use Rattle.fk_store.specs.Store.WellFormed.{HasCall, IsWellFormed}
use Rattle.fk_store.proofs.InStore.changing.InPlace.{Stays, Changes, changes}

module _ (g : List ℕ) (long : length g ≡ 16) (c : ℕ) (mode : Mode) (call : HasCall mode g) where
  edits : (p : ℕ → Path) (b : Body) → edited (Proceed (mode_by mode g) c) (body_by p b) ≡ body_by p (proceeded g c mode b)
  unfolding edited
  edits p (Mutex locked) = refl
  edits p Cond = refl
  edits p (Mapping first count offset write region) = refl
  edits p (Region first count write keeper) = refl
  edits p (Port set served) = refl
  edits p Portset = refl
  edits p (Space birth holder) = refl
  edits p (Thread thread) = refl
  edits p (Reference to) = refl

  stays : (p : ℕ → Path) (who : Who) (P : Who → Type 0) (b : Body) → Stays (proceeded g c mode) p who P b
  stays p who P (Mutex locked) = record { kind = refl; home = λ h. h; named = λ h. h; sized = λ h. h }
  stays p who P Cond = record { kind = refl; home = λ h. h; named = λ h. h; sized = λ h. h }
  stays p who P (Mapping first count offset write region) = record { kind = refl; home = λ h. h; named = λ h. h; sized = λ h. h }
  stays p who P (Region first count write keeper) = record { kind = refl; home = λ h. h; named = λ h. h; sized = λ h. h }
  stays p who P (Port set served) = record { kind = refl; home = λ h. h; named = λ h. h; sized = λ h. h }
  stays p who P Portset = record { kind = refl; home = λ h. h; named = λ h. h; sized = λ h. h }
  stays p who P (Space birth holder) = record { kind = refl; home = λ h. h; named = λ h. h; sized = λ h. h }
  stays p who P (Thread thread) = record { kind = refl; home = λ h. h; named = λ h. h; sized = λ h. (long, call) }
  stays p who P (Reference to) = record { kind = refl; home = λ h. h; named = λ h. h; sized = λ h. h }

  pub goes_on : (m : Contents) → IsWellFormed m → (who : Who) (bodies2 : FinMap who_cmp Body) →
      ((b : Body) → get m.bodies who ≡ Some b → bodies2 ≡ insert m.bodies who (proceeded g c mode b)) →
      (get m.bodies who ≡ None → bodies2 ≡ m.bodies) → Changes m (record m { bodies = bodies2 }) who (Proceed (mode_by mode g) c)
  goes_on = changes (proceeded g c mode) (Proceed (mode_by mode g) c) edits stays
