-- Freedom: what a free thread's move comes to, and what isn't frozen for it.
use Rattle.std.proofs.Common.{◌≡◌, ℕ, Bool, true, false, not, ◌&&◌, ◌==◌, is_some, List, [], ◌∷◌, Option, Some, None, refl, ap, ◌∙◌}
use Rattle.fk_model.specs.declared.moves.Ask.TheVariants as asks
use Rattle.fk_model.specs.declared.stage.Stage.{Stage}
use Rattle.fk_model.specs.Places.{Path, Ptr}
use Rattle.fk_model.specs.Objects.{Mode, Thread, Body, thread_of, and_then, holds}
use Rattle.fk_model.specs.Objects.Mode.{Running, Calling, Halted, Native}
use Rattle.fk_model.specs.Objects.Body.{Mutex, Cond, Mapping, Region, Port, Portset, Space, Thread_of, Reference}
use Rattle.fk_model.specs.World.{World, Edit}
use Rattle.fk_model.specs.Searches.{option_list, thread_at}
use Rattle.fk_model.specs.Freezing.{changed_pointers, made_pointers, MayAlter}
use Rattle.fk_model.specs.Holds.{decider, holder_of, is_frozen, is_frozen_for, is_free}
use Rattle.fk_model.specs.Outcomes.{when}
use Rattle.fk_model.specs.LinkRows.{user_at}
use Rattle.fk_model.specs.Moves.{call_row, outcome}
use Rattle.fk_store.specs.Store.Threads.{todo_of_mode, todo_of_thread, todo_at, is_free_at}

-- ---- the move of a calling thread

todo_calling : (t : Thread) (stage : Stage) (todo : List Stage) → todo_of_mode t.mode ≡ stage ∷ todo → (rest : List ℕ) × (t.mode ≡ Calling (stage ∷ todo) rest)
todo_calling t stage todo is = by t.mode refl is
  where
    by : (m : Mode) → t.mode ≡ m → todo_of_mode m ≡ stage ∷ todo → (rest : List ℕ) × (t.mode ≡ Calling (stage ∷ todo) rest)
    by (Running g) e is = absurd (cc)
    by (Calling others rest) e is = (rest, e ∙ ap (λ todo. Calling todo rest) is)
    by (Halted g code) e is = absurd (cc)
    by (Native g) e is = absurd (cc)

-- is that of its first stage
pub outcome-calling : (w : World) (k : ℕ) (s : Path) (pick : Option Path) (stage : Stage) (todo : List Stage) → todo_at w (k ∷ s) ≡ stage ∷ todo →
    outcome w (k ∷ s) pick asks.Run ≡ when (is_free_at w (k ∷ s)) (call_row w (user_at (k ∷ s)) pick stage)
unfolding outcome todo_at is_free_at
outcome-calling w k s pick stage todo is = by (thread_at w (k ∷ s)) refl is
  where
    by : (o : Option Thread) → thread_at w (k ∷ s) ≡ o →
        todo_of_thread o ≡ stage ∷ todo → outcome w (k ∷ s) pick asks.Run ≡ when (is_free_at w (k ∷ s)) (call_row w (user_at (k ∷ s)) pick stage)
    by None e is = absurd (cc)
    by (Some t) e is = let calling = todo_calling t stage todo is in rw (e, calling.1) refl

-- ---- what isn't frozen for a free thread

undecided : (w : World) (s : Path) → is_frozen w s ≡ false → decider w s ≡ None
undecided w s free = by (decider w s) free
  where
    by : (o : Option Ptr) → is_some o ≡ false → o ≡ None
    by None free = refl
    by (Some p) free = absurd (cc)

-- no space that is frozen, and no space in it that is held
pub unfrozen_space : (w : World) (me s : Path) → is_frozen w s ≡ false → is_frozen_for w me s ≡ false
unfrozen_space w me s free = rw (undecided w s free) refl

pub unfrozen_object : (w : World) (me : Path) (k : ℕ) (s : Path) →
    is_frozen w s ≡ false → holder_of (w.body (k ∷ s)) ≡ None → is_frozen_for w me (k ∷ s) ≡ false
unfolding decider
unfrozen_object w me k s free none = rw (undecided w s free, none) refl

-- a free thread is there, and its space isn't frozen
pub free_thread : (w : World) (k : ℕ) (s : Path) → is_free_at w (k ∷ s) ≡ true → (t : Thread) × (thread_at w (k ∷ s) ≡ Some t) × (is_free w s t ≡ true)
unfolding is_free_at
free_thread w k s free = by (thread_at w (k ∷ s)) free
  where
    by : (o : Option Thread) → holds (is_free w s) o ≡ true → (t : Thread) × (o ≡ Some t) × (is_free w s t ≡ true)
    by None free = absurd (cc)
    by (Some t) free = (t, refl, free)

pub free_space : (w : World) (k : ℕ) (s : Path) → is_free_at w (k ∷ s) ≡ true → is_frozen w s ≡ false
free_space w k s free = let there = free_thread w k s free in by (is_frozen w s) (there.0.stops == 0) _ _ there.2
  where
    by : (frozen a b c : Bool) → (not frozen && a && b && c) ≡ true → frozen ≡ false
    by true a b c h = absurd (cc)
    by false a b c h = refl

-- what isn't a space has no holder
pub unheld_thread : (w : World) (x : Path) (t : Thread) → thread_at w x ≡ Some t → holder_of (w.body x) ≡ None
unheld_thread w x t is = by (w.body x) is
  where
    by : (b : Option Body) → and_then thread_of b ≡ Some t → holder_of b ≡ None
    by None is = refl
    by (Some (Mutex locked)) is = refl
    by (Some Cond) is = refl
    by (Some (Mapping window)) is = refl
    by (Some (Region extent)) is = refl
    by (Some (Port set served)) is = refl
    by (Some Portset) is = refl
    by (Some (Space birth holder)) is = absurd (cc)
    by (Some (Thread_of thread)) is = refl
    by (Some (Reference to)) is = refl

-- a free thread isn't frozen for itself
pub free_itself : (w : World) (k : ℕ) (s : Path) → is_free_at w (k ∷ s) ≡ true → is_frozen_for w (k ∷ s) (k ∷ s) ≡ false
free_itself w k s free = let there = free_thread w k s free in unfrozen_object w (k ∷ s) k s (free_space w k s free) (unheld_thread w (k ∷ s) there.0 there.1)

-- ---- changes that are allowed where their object isn't frozen

-- an edit that leads no pointer elsewhere
pub record IsPlain (e : Edit) : Type 0 where
  pub changed : (b : Body) → changed_pointers e b ≡ []
  pub made : made_pointers e ≡ []

pub may_alter : (w : World) (me x : Path) (e : Edit) → IsPlain e → is_frozen_for w me x ≡ false → MayAlter w me x e
may_alter w me x e plain free = record { object = free; changed = rw (by (w.body x)) refl; made = rw plain.made refl }
  where
    by : (o : Option Body) → option_list (changed_pointers e) o ≡ []
    by None = refl
    by (Some b) = plain.changed b
