-- Falling: what falling asleep makes of the registers of a thread that waits on a condition.
use Rattle.std.proofs.Common.{◌≡◌, ℕ, Bool, true, false, cond, eqb, ◌||◌, List, [], ◌∷◌, length, Option, Some, None, option_map, unwrap_or, slice_set}
use Rattle.std.proofs.Common.{refl, ap, subst}
use Rattle.fk_model.specs.declared.stage.Stage.{Stage}
use Rattle.fk_model.specs.declared.stage.Stage.TheVariants.{CondAsleep, CondWait}
use Rattle.fk_model.specs.declared.thread.Mode as modes_of
use Rattle.fk_model.specs.declared.thread.Mode.TheVariants as modes
use Rattle.fk_model.specs.declared.thread.Thread as threads_of
use Rattle.fk_model.specs.Places.{Path, same_path}
use Rattle.fk_model.specs.Calls.{calls, todo_of, rest_of, code_of}
use Rattle.fk_model.specs.Objects.{Body, thread_of, and_then}
use Rattle.fk_model.specs.Objects.Mode.{Calling}
use Rattle.fk_model.specs.Objects.Body.{Mutex, Cond, Mapping, Region, Port, Portset, Space, Thread_of, Reference}
use Rattle.fk_model.specs.Searches.{thread_at}
use Rattle.fk_model.specs.World.{World, edited, replaced_in, apply}
use Rattle.fk_model.specs.World.Edit.{Replace, SetLocked}
use Rattle.fk_model.specs.World.Change.{Alter}
use Rattle.fk_model.proofs.calls.CallLaws.{registers}
use Rattle.fk_store.specs.Store.Bodies.{calling_mode, mode_by, thread_by}
use Rattle.fk_store.specs.Store.Threads.{todo_of_mode, todo_at}
use Rattle.fk_store.proofs.InStore.changing.ThreadLaws.{alter-nobody}
use Rattle.fk_stages.proofs.Codes.{is_among, OfEach, OfOthers, of_registers}
use Rattle.fk_changes.specs.Threads.Firsts.{IsFirst}
use Rattle.fk_changes.specs.Threads.Sleepers.{fallen}

waiters : List ℕ
waiters = 24 ∷ []

Falls : List ℕ → Type 0
Falls g = (c m : ℕ) → IsFirst (CondWait c m) (unwrap_or (todo_of g) []) → replaced_in (CondAsleep c m) (calling_mode g) ≡ calling_mode (fallen g)

abbrev waits_in : List Stage → Bool
waits_in (CondWait c m ∷ todo) = true
waits_in other = false

each_falls : (r : ℕ → ℕ) → OfEach (λ n. Falls (registers n r)) waiters
unfolding waiters Falls todo_of rest_of code_of
each_falls r = ((λ c m is. by c m is), tt)
  where
    by : (c m : ℕ) → CondWait (r 1) (r 2) ≡ CondWait c m → replaced_in (CondAsleep c m) (calling_mode (registers 24 r)) ≡ calling_mode (fallen (registers 24 r))
    by c m is = let first : r 1 ≡ c = cc in let second : r 2 ≡ m = cc in rw (← first, ← second) refl

each_other : OfOthers waiters (λ g todo. waits_in todo ≡ false) calls
unfolding waiters
each_other = assumption

-- what is at another stage stays as it is
stays : (c m : ℕ) (todo : List Stage) (rest : List ℕ) →
    waits_in todo ≡ false → IsFirst (CondWait c m) todo → replaced_in (CondAsleep c m) (Calling todo rest) ≡ Calling todo rest
stays c m [] rest other is = refl
stays c m (first ∷ todo) rest other is = let no : waits_in (CondWait c m ∷ todo) ≡ false = subst (λ stage. waits_in (stage ∷ todo) ≡ false) is other in
    absurd (cc)

falls : (g : List ℕ) → length g ≡ 16 → Falls g
unfolding waiters Falls
falls = of_registers waiters Falls (λ g todo. waits_in todo ≡ false) each_falls each_other (λ g. refl) others
  where
    others : (n : ℕ) (r : ℕ → ℕ) → is_among waiters n ≡ false → waits_in (unwrap_or (todo_of (registers n r)) []) ≡ false → Falls (registers n r)
    others n r none awake c m is = by (eqb n 24) none (stays c m (unwrap_or (todo_of (registers n r)) []) _ awake is)
      where
        by : (b : Bool) → (b || false) ≡ false → replaced_in (CondAsleep c m) (calling_mode (registers n r)) ≡ calling_mode (registers n r) →
            replaced_in (CondAsleep c m) (calling_mode (registers n r)) ≡ calling_mode (cond b (slice_set (registers n r) 0 25) (registers n r))
        by true none same = absurd (cc)
        by false none same = same

pub fall_edit : (p : ℕ → Path) (t : threads_of.Thread) (c m : ℕ) → length t.regs ≡ 16 → t.mode ≡ modes.Calling → IsFirst (CondWait c m)
    (todo_of_mode (mode_by t.mode t.regs)) →
    edited (Replace (CondAsleep c m)) (Thread_of (thread_by p t)) ≡ Thread_of (thread_by p (record t { regs = fallen t.regs }))
unfolding edited Falls
fall_edit p t c m long is first = rw is (ap (λ mode. Thread_of (record (thread_by p t) { mode = mode })) (falls t.regs long c m (rw is at first)))

-- a thread in no call stays as it is
pub fall_other : (p : ℕ → Path) (t : threads_of.Thread) (c m : ℕ) →
    (t.mode ≡ modes.Calling → ⊥) → edited (Replace (CondAsleep c m)) (Thread_of (thread_by p t)) ≡ Thread_of (thread_by p t)
unfolding edited
fall_other p t c m other = by t.mode refl
  where
    by : (mode : modes_of.Mode) → t.mode ≡ mode → edited (Replace (CondAsleep c m)) (Thread_of (record (thread_by p t) { mode = mode_by mode t.regs }))
        ≡ Thread_of (record (thread_by p t) { mode = mode_by mode t.regs })
    by modes.Running is = refl
    by modes.Calling is = absurd (other is)
    by (modes.Halted code) is = refl
    by modes.Native is = refl

-- so it is at a path
pub fall_there : (w : World) (x : Path) (p : ℕ → Path) (t : threads_of.Thread) (c m : ℕ) (b : Body) →
    Some (thread_by p t) ≡ thread_at w x → IsFirst (CondWait c m) (todo_at w x) →
    (IsFirst (CondWait c m) (todo_of_mode (mode_by t.mode t.regs)) → edited (Replace (CondAsleep c m)) (Thread_of (thread_by p t)) ≡ b) →
    edited (Replace (CondAsleep c m)) (Thread_of (thread_by p t)) ≡ b
unfolding todo_at
fall_there w x p t c m b there first edit = edit (rw (← there) at first)

pub fall_nobody : (w : World) (x : Path) (c m : ℕ) → thread_at w x ≡ None → w ≡ apply (Alter x (Replace (CondAsleep c m))) w
unfolding edited
fall_nobody w x c m none = alter-nobody w x (Replace (CondAsleep c m)) _ (λ b. refl) none

-- ---- a mutex that is unlocked leaves each thread at its stage

pub first_unlocked : (w : World) (x y : Path) (locked : Bool) (stage : Stage) → IsFirst stage (todo_at w y) →
    IsFirst stage (todo_at (apply (Alter x (SetLocked locked)) w) y)
unfolding todo_at apply edited
first_unlocked w x y locked stage first = rw (by (same_path y x) (w.body y)) first
  where
    on : (b : Body) → thread_of (edited (SetLocked locked) b) ≡ thread_of b
    on (Mutex old) = refl
    on Cond = refl
    on (Mapping window) = refl
    on (Region extent) = refl
    on (Port set served) = refl
    on Portset = refl
    on (Space birth holder) = refl
    on (Thread_of t) = refl
    on (Reference to) = refl

    by : (t : Bool) (b : Option Body) → and_then thread_of (cond t (option_map (edited (SetLocked locked)) b) b) ≡ and_then thread_of b
    by true None = refl
    by true (Some b) = on b
    by false b = refl
