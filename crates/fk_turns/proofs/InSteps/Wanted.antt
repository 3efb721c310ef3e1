-- Wanted: which stages make an object.
use Rattle.std.proofs.Common.{◌≡◌, ℕ, Bool, false, List, [], ◌∷◌, Option, Some, None, unwrap_or, refl, ap}
use Rattle.fk_model.specs.declared.stage.Stage.{Stage}
use Rattle.fk_model.specs.declared.thread.Thread as threads_of
use Rattle.fk_model.specs.declared.thread.Mode.TheVariants as modes
use Rattle.fk_model.specs.Calls.{todo_of}
use Rattle.fk_model.specs.Places.{Path}
use Rattle.fk_model.specs.Searches.{thread_at}
use Rattle.fk_model.specs.World.{World}
use Rattle.fk_store.specs.Store.Bodies.{thread_by}
use Rattle.fk_store.specs.Store.Threads.{todo_at}
use Rattle.fk_turns.specs.Next.Doings.{first_of}
use Rattle.fk_turns.specs.Steps.Steps.{first_makes, makes_object}

pub wants_first : (o : Option (List Stage)) (stage : Stage) → first_of o ≡ Some stage → makes_object false stage ≡ first_makes (unwrap_or o [])
wants_first None stage e = absurd (cc)
wants_first (Some []) stage e = absurd (cc)
wants_first (Some (other ∷ later)) stage e = let same : stage ≡ other = cc in ap (makes_object false) same

pub wants_none : (o : Option (List Stage)) → first_of o ≡ None → false ≡ first_makes (unwrap_or o [])
wants_none None e = refl
wants_none (Some []) e = refl
wants_none (Some (other ∷ later)) e = absurd (cc)

module _ (w : World) (x : Path) (p : ℕ → Path) (t : threads_of.Thread) (there : Some (thread_by p t) ≡ thread_at w x) where
  pub wants_calling : (b : Bool) → t.mode ≡ modes.Calling → b ≡ first_makes (unwrap_or (todo_of t.regs) []) → b ≡ first_makes (todo_at w x)
  unfolding todo_at
  wants_calling b is e = rw (← there, is) e

  pub wants_running : t.mode ≡ modes.Running → false ≡ first_makes (todo_at w x)
  unfolding todo_at
  wants_running is = rw (← there, is) refl

  pub wants_halted : (code : ℕ) → t.mode ≡ modes.Halted code → false ≡ first_makes (todo_at w x)
  unfolding todo_at
  wants_halted code is = rw (← there, is) refl

  pub wants_native : t.mode ≡ modes.Native → false ≡ first_makes (todo_at w x)
  unfolding todo_at
  wants_native is = rw (← there, is) refl
