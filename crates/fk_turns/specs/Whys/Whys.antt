-- Whys: what a reason reads besides the thread's own body.
use Rattle.std.specs.Prelude.{◌≡◌, ℕ, Bool, nat_le, true, false, ◌∷◌, Option, Some, ⊤}
use Rattle.fk_model.specs.declared.limits.TheConstants.{LAST_USER_SLOT}
use Rattle.fk_model.specs.declared.names.Kind.{Kind}
use Rattle.fk_model.specs.declared.moves.Ask.TheVariants as asks
use Rattle.fk_model.specs.declared.stage.Stage.{Stage}
use Rattle.fk_model.specs.declared.stage.Stage.TheVariants.{MutexLock}
use Rattle.fk_model.specs.Moves.{IsReady}
use Rattle.fk_model.specs.Objects.{and_then, mutex_of}
use Rattle.fk_model.specs.Places.{Path, parent}
use Rattle.fk_model.specs.Valid.{kind_there}
use Rattle.fk_model.specs.World.{World}
use Rattle.fk_store.specs.Store.Paths.{place}
use Rattle.laws_waits.specs.Stuck.{Reason, IsStuck}
use Rattle.laws_waits.specs.Stuck.Reason.{Barred, Beneath, Connecting, Locking, Resting, Sleeping}
use Rattle.fk_turns.specs.declared.whys.whys.Why.{Why}
use Rattle.fk_turns.specs.declared.whys.whys.Why.TheVariants as whys

-- ---- what a reason reads

-- nothing that changes but by what is destroyed, renamed or made
abbrev pub IsOwn : Reason → Type 0
IsOwn Resting = ⊤
IsOwn (Sleeping cond mutex) = ⊤
IsOwn other = ⊥

-- or the body of one object: the space that is held, the mutex, the handle
abbrev pub IsReadAt : Path → Path → Reason → Type 0
IsReadAt x key (Beneath space) = key ≡ space
IsReadAt x key (Locking mutex) = key ≡ mutex ∷ parent x
IsReadAt x key (Connecting h port) = key ≡ h ∷ parent x
IsReadAt x key other = ⊥

-- ---- why a thread can't move

-- a thread is blocked for a reason that no move of another ends
pub record IsStill (w : World) (x : Path) : Type 0 where
  pub reason : Reason
  pub stuck : IsStuck w x reason
  pub own : IsOwn reason

-- a thread is blocked for a reason that is read at this object
pub record IsAt (w : World) (x key : Path) : Type 0 where
  pub reason : Reason
  pub stuck : IsStuck w x reason
  pub read : IsReadAt x key reason

-- a reason of its own, and not that a mutex is locked, for which a thread is found at the mutex
abbrev pub is_loud_reason : Reason → Bool
is_loud_reason (Locking mutex) = false
is_loud_reason Barred = false
is_loud_reason other = true

-- a thread is blocked, and it isn't only that its mutex is locked
pub record IsLoudly (w : World) (x : Path) : Type 0 where
  pub reason : Reason
  pub stuck : IsStuck w x reason
  pub loud : is_loud_reason reason ≡ true

-- why a thread is blocked, as the code has it
abbrev pub IsWhy : World → (ℕ → Path) → Path → Why → Type 0
IsWhy w p x whys.Still = IsStill w x
IsWhy w p x (whys.At key) = IsAt w x (place p key)
IsWhy w p x whys.Loud = IsLoudly w x
IsWhy w p x whys.Barred = IsStuck w x Barred

-- the same, but that nothing is said where it may be any reason
abbrev pub IsKnown : World → (ℕ → Path) → Path → Why → Type 0
IsKnown w p x whys.Still = IsStill w x
IsKnown w p x (whys.At key) = IsAt w x (place p key)
IsKnown w p x whys.Loud = ((pick : Option Path) → IsReady w x pick asks.Run → ⊥) → IsLoudly w x
IsKnown w p x whys.Barred = ⊤

-- a stage that locks a mutex
abbrev pub is_lock_stage : Stage → Bool
is_lock_stage (MutexLock mutex) = true
is_lock_stage other = false

-- ---- what is looked up

-- a slot that a user can name has a mutex that is locked
pub record IsLocked (w : World) (space : Path) (mutex slot : ℕ) : Type 0 where
  pub is : slot ≡ mutex
  pub low : nat_le slot LAST_USER_SLOT ≡ true
  pub locked : and_then mutex_of (w.body (slot ∷ space)) ≡ Some true

-- it has an object of a kind
pub record IsThere (w : World) (space : Path) (slot : ℕ) (kind : Kind) : Type 0 where
  pub low : nat_le slot LAST_USER_SLOT ≡ true
  pub there : kind_there w (slot ∷ space) ≡ Some kind
