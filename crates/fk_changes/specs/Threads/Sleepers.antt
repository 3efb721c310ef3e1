-- Sleepers: threads that sleep on a condition, and the mutex that each will lock.
use Rattle.std.specs.Prelude.{◌≡◌, ℕ, Bool, true, false, ◌==◌, List, [], ◌∷◌, Option, Some, None, if◌then◌else◌, slice_index, slice_set}
use Rattle.fk_model.specs.declared.call.TheConstants.{COND_ASLEEP, COND_WAIT}
use Rattle.fk_model.specs.declared.stage.Stage.TheVariants.{CondAsleep}
use Rattle.fk_model.specs.Places.{Path}
use Rattle.fk_model.specs.World.{World, Change}
use Rattle.fk_store.specs.Store.Threads.{todo_at}

-- the mutex in the registers of a thread that sleeps on a condition
abbrev pub asleep_in : ℕ → List ℕ → Option ℕ
asleep_in cond g = if slice_index g 0 == COND_ASLEEP then (if slice_index g 1 == cond then Some (slice_index g 2) else None) else None

-- the thread at a path sleeps on a condition, and will lock this mutex
abbrev pub IsAsleep : World → Path → ℕ → Type 0
IsAsleep w x mutex = (cond : ℕ) × (todo_at w x ≡ CondAsleep cond mutex ∷ [])

-- something is changed
abbrev pub is_changed : List Change → Bool
is_changed [] = false
is_changed (change ∷ changes) = true

-- the registers of a thread that waits on a condition, once it sleeps
abbrev pub fallen : List ℕ → List ℕ
fallen g = if slice_index g 0 == COND_WAIT then slice_set g 0 COND_ASLEEP else g
