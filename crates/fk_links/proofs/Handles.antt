-- Handles: the connect that registers name.
use Rattle.std.proofs.Common.{◌≡◌, ℕ, Bool, true, false, cond, eqb, ◌||◌, List, [], ◌∷◌, length, Option, Some, None, unwrap_or, slice_index, refl, sym, ap, ◌∙◌}
use Rattle.fk_model.specs.declared.names.Kind.TheVariants as kinds
use Rattle.fk_model.specs.declared.stage.Stage.{Stage}
use Rattle.fk_model.specs.declared.stage.Stage.TheVariants.{Connect}
use Rattle.fk_model.specs.declared.thread.Mode as modes_of
use Rattle.fk_model.specs.declared.thread.Mode.TheVariants as modes
use Rattle.fk_model.specs.declared.thread.Thread as threads_of
use Rattle.fk_model.specs.Calls.{calls, todo_of}
use Rattle.fk_model.specs.LinkRows.{if_read, port_named, user_at}
use Rattle.fk_model.specs.Objects.{Mode, and_then}
use Rattle.fk_model.specs.Objects.Mode.{Running, Calling, Halted, Native}
use Rattle.fk_model.specs.Places.{Path}
use Rattle.fk_model.specs.Readers.{handle}
use Rattle.fk_model.specs.Talks.{first_stage}
use Rattle.fk_model.specs.World.{World}
use Rattle.fk_model.proofs.calls.CallLaws.{registers}
use Rattle.fk_stages.proofs.Codes.{is_among, OfEach, OfOthers, of_registers}
use Rattle.fk_store.specs.Store.Bodies.{mode_by}
use Rattle.fk_store.specs.Store.Threads.{todo_of_mode}
use Rattle.fk_links.specs.Connects.{connect_first}

-- ---- by the code of the call

connectors : List ℕ
connectors = 32 ∷ 33 ∷ []

connect_in : List ℕ → Option ℕ
connect_in g = cond (eqb (slice_index g 0) 32 || eqb (slice_index g 0) 33) (Some (slice_index g 1)) None

Connects : List ℕ → Type 0
Connects g = connect_first (unwrap_or (todo_of g) []) ≡ connect_in g

NoConnect : List ℕ → List Stage → Type 0
NoConnect g todo = connect_first todo ≡ None

each_connects : (r : ℕ → ℕ) → OfEach (λ n. Connects (registers n r)) connectors
unfolding connectors Connects connect_in todo_of
each_connects r = (refl, (refl, tt))

each_none : OfOthers connectors NoConnect calls
unfolding connectors NoConnect
each_none = assumption

connects : (g : List ℕ) → length g ≡ 16 → connect_first (unwrap_or (todo_of g) []) ≡ connect_in g
unfolding connectors Connects NoConnect connect_in
connects = of_registers connectors Connects NoConnect each_connects each_none (λ g. refl) other
  where
    other : (n : ℕ) (r : ℕ → ℕ) → is_among connectors n ≡ false → connect_first (unwrap_or (todo_of (registers n r)) []) ≡ None →
        connect_first (unwrap_or (todo_of (registers n r)) []) ≡ connect_in (registers n r)
    other n r none is = by (eqb n 32) (eqb n 33) none
      where
        by : (a b : Bool) → (a || (b || false)) ≡ false →
            connect_first (unwrap_or (todo_of (registers n r)) []) ≡ cond {A = Option ℕ} (a || b) (Some (r 1)) None
        by false false none = is
        by true b none = absurd (cc)
        by false true none = absurd (cc)

-- ---- of a thread

-- one in a call with such a code
connects_at : (t : threads_of.Thread) → length t.regs ≡ 16 → t.mode ≡ modes.Calling →
    connect_first (todo_of_mode (mode_by t.mode t.regs))
    ≡ cond {A = Option ℕ} (eqb (slice_index t.regs 0) 32 || eqb (slice_index t.regs 0) 33) (Some (slice_index t.regs 1)) None
unfolding connect_in
connects_at t long is = rw is (connects t.regs long)

pub connects_some : (t : threads_of.Thread) → length t.regs ≡ 16 → t.mode ≡ modes.Calling →
    (eqb (slice_index t.regs 0) 32 || eqb (slice_index t.regs 0) 33) ≡ true →
    Some (slice_index t.regs 1) ≡ connect_first (todo_of_mode (mode_by t.mode t.regs))
connects_some t long is named = sym (connects_at t long is ∙ ap (λ b. cond {A = Option ℕ} b (Some (slice_index t.regs 1)) None) named)

pub connects_none : (t : threads_of.Thread) → length t.regs ≡ 16 → t.mode ≡ modes.Calling →
    (eqb (slice_index t.regs 0) 32 || eqb (slice_index t.regs 0) 33) ≡ false →
    None ≡ connect_first (todo_of_mode (mode_by t.mode t.regs))
connects_none t long is other = sym (connects_at t long is ∙ ap (λ b. cond {A = Option ℕ} b (Some (slice_index t.regs 1)) None) other)

-- and one in no call
pub connects_not : (t : threads_of.Thread) → (t.mode ≡ modes.Calling → ⊥) → None ≡ connect_first (todo_of_mode (mode_by t.mode t.regs))
connects_not t other = by t.mode refl
  where
    by : (m : modes_of.Mode) → t.mode ≡ m → None ≡ connect_first (todo_of_mode (mode_by m t.regs))
    by modes.Running is = refl
    by modes.Calling is = absurd (other is)
    by (modes.Halted code) is = refl
    by modes.Native is = refl

-- ---- the port that is named

pub named_first : (w : World) (x : Path) (m : Mode) →
    and_then (port_named w x) (first_stage m) ≡ and_then (λ h. if_read (handle w (user_at x) kinds.Port h)) (connect_first (todo_of_mode m))
named_first w x (Running g) = refl
named_first w x (Calling [] rest) = refl
named_first w x (Calling (Connect h ∷ todo) rest) = refl
named_first w x (Calling (other ∷ todo) rest) = refl
named_first w x (Halted g code) = refl
named_first w x (Native g) = refl
