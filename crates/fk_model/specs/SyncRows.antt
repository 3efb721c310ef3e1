-- Mutexes and conditions. They are taken in the caller's own space, in no other.
use Rattle.std.specs.Prelude.{ℕ, Bool, true, false, not, ◌==◌, List, [], ◌∷◌, Option, Some, None, if◌then◌else◌}
use Rattle.std.specs.List.{flat_map}
use Rattle.fk_model.specs.declared.limits.TheConstants.{SLOTS}
use Rattle.fk_model.specs.declared.stage.Stage.{Stage}
use Rattle.fk_model.specs.declared.stage.Stage.TheVariants.{MutexLock, CondAsleep}
use Rattle.fk_model.specs.declared.statuses.status.TheConstants.{NOTLOCKED, NONE}
use Rattle.fk_model.specs.Places.{Path, same_path, parent}
use Rattle.fk_model.specs.Objects.{Thread, Body, mutex_of, thread_of, and_then}
use Rattle.fk_model.specs.Objects.Body.{Cond}
use Rattle.fk_model.specs.World.{World, Change}
use Rattle.fk_model.specs.World.Change.{Alter}
use Rattle.fk_model.specs.World.Edit.{SetLocked, Replace}
use Rattle.fk_model.specs.Searches.{slots}
use Rattle.fk_model.specs.Outcomes.{Outcome, ◌>>=◌, refuse, when, Caller, path_of, done}
use Rattle.fk_model.specs.Outcomes.Outcome.{Waits, Goes}
use Rattle.fk_model.specs.Outcomes.Said.{Nothing}
use Rattle.fk_model.specs.Readers.{object_in}
use Rattle.fk_model.specs.Talks.{first_stage}

-- a condition
abbrev pub cond_of : Body → Option Body
cond_of Cond = Some Cond
cond_of other = None

abbrev pub sets_locked : Path → Bool → Change
sets_locked mutex locked = Alter mutex (SetLocked locked)

-- ready where the mutex is free
unfoldable pub mutex_lock : World → Caller → ℕ → Outcome
mutex_lock w c m = do
  locked ← object_in w c mutex_of c.space m
  when (not locked) (done c (sets_locked (m ∷ c.space) true ∷ []) [])

-- mutex_trylock: the mutex is locked, or the call is refused where it was
unfoldable pub mutex_trylock : World → Caller → ℕ → Outcome
mutex_trylock w c m = do
  locked ← object_in w c mutex_of c.space m
  _ ← refuse NONE locked
  done c (sets_locked (m ∷ c.space) true ∷ []) []

-- who waits for the mutex stays as it is
unfoldable pub mutex_unlock : World → Caller → ℕ → Outcome
mutex_unlock w c m = do
  locked ← object_in w c mutex_of c.space m
  _ ← refuse NOTLOCKED (not locked)
  done c (sets_locked (m ∷ c.space) false ∷ []) []

-- unlocks the mutex and sleeps
unfoldable pub cond_wait : World → Caller → ℕ → ℕ → Outcome
cond_wait w c cond m = do
  _ ← object_in w c cond_of c.space cond
  locked ← object_in w c mutex_of c.space m
  _ ← refuse NOTLOCKED (not locked)
  Goes (sets_locked (m ∷ c.space) false ∷ Alter (path_of c) (Replace (CondAsleep cond m)) ∷ []) Nothing

-- ready only to be refused: a signal ends it
unfoldable pub cond_asleep : World → Caller → ℕ → ℕ → Outcome
cond_asleep w c cond m = do
  _ ← object_in w c cond_of c.space cond
  _ ← object_in w c mutex_of c.space m
  Waits

-- ---- sleepers of a condition: threads of its space, also stopped ones, that are at cond_asleep with its slot

-- the mutex that a sleeper will lock
abbrev pub mutex_after : ℕ → Stage → Option ℕ
mutex_after cond (CondAsleep c m) = if c == cond then Some m else None
mutex_after cond other = None

-- the mutex that a thread locks again once it is woken, where it sleeps on this condition
abbrev pub asleep_on : ℕ → Option Body → Option ℕ
asleep_on cond b = and_then (mutex_after cond) (and_then (λ (t : Thread). first_stage t.mode) (and_then thread_of b))

-- a signal turns the sleeper's call into mutex_lock
abbrev pub woken : Path → Option ℕ → List Change
woken x None = []
woken x (Some m) = Alter x (Replace (MutexLock m)) ∷ []

-- what wakes all who sleep on a condition of a space
unfoldable pub sleepers : World → Path → ℕ → List Change
sleepers w space cond = flat_map (λ k. woken (k ∷ space) (asleep_on cond (w.body (k ∷ space)))) (slots SLOTS)

abbrev pub signals : Caller → List Change → Outcome
signals c [] = Waits
signals c (change ∷ changes) = done c (change ∷ changes) []

abbrev pub unless_slept_on : Caller → List Change → Outcome
unless_slept_on c [] = done c [] []
unless_slept_on c (change ∷ changes) = Waits

-- a pick is one sleeper; there is none exactly where nobody sleeps
abbrev pub picks_sleeper : World → Caller → ℕ → Option Path → Outcome
picks_sleeper w c cond None = unless_slept_on c (sleepers w c.space cond)
picks_sleeper w c cond (Some x) = when (same_path (parent x) c.space) (signals c (woken x (asleep_on cond (w.body x))))

-- cond_signal: the sleeper is woken that the move picks
unfoldable pub cond_signal : World → Caller → Option Path → ℕ → Outcome
cond_signal w c pick cond = do
  _ ← object_in w c cond_of c.space cond
  picks_sleeper w c cond pick

-- cond_broadcast: all who sleep on the condition are woken
unfoldable pub cond_broadcast : World → Caller → ℕ → Outcome
cond_broadcast w c cond = do
  _ ← object_in w c cond_of c.space cond
  done c (sleepers w c.space cond) []
