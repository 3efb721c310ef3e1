-- Effects: what an instruction of a running thread comes to.
use Rattle.std.specs.Prelude.{◌≡◌, ◌<◌, ℕ, Bool, true, false, List, [], ◌∷◌, Option, Some, None, IsSome, is_some, ⊤, slice_set}
use Rattle.fk_model.specs.Calls.{todo_of}
use Rattle.fk_model.specs.Places.{Path}
use Rattle.fk_model.specs.Instructions.{next}
use Rattle.fk_model.specs.Objects.{Mode, Thread, registers_of}
use Rattle.fk_model.specs.Objects.Mode.{Running, Halted}
use Rattle.fk_model.specs.Outcomes.{Outcome}
use Rattle.fk_model.specs.Outcomes.Outcome.{Waits, Goes}
use Rattle.fk_model.specs.Outcomes.Said.{Nothing}
use Rattle.fk_model.specs.Reach.{words_at}
use Rattle.fk_model.specs.UserRows.{proceeds}
use Rattle.fk_model.specs.Valid.{birth_at}
use Rattle.fk_model.specs.World.{World}
use Rattle.fk_model.specs.World.Change.{Alter, PutPage}
use Rattle.fk_model.specs.World.Edit.{Proceed}
use Rattle.fk_store.specs.Store.Bodies.{calling_mode}
use Rattle.fk_plans.specs.declared.plans.plan.Effect.{Effect}
use Rattle.fk_plans.specs.declared.plans.plan.Effect.TheVariants as effects

-- the outcome of the instruction of a thread with these registers and this counter
abbrev pub effect_by : World → (ℕ → Path) → Path → Effect → List ℕ → ℕ → Outcome
effect_by w p me (effects.Puts register value) g counter = proceeds me (Running (slice_set g register value)) (next counter)
effect_by w p me (effects.Jumps to) g counter = proceeds me (Running g) to
effect_by w p me (effects.Halts code) g counter = proceeds me (Halted g code) counter
effect_by w p me effects.Enters g counter = proceeds me (calling_mode g) counter
effect_by w p me (effects.Stores space page at value) g counter =
    Goes (PutPage (p space) page (slice_set (words_at w (p space) page) at value) ∷ Alter me (Proceed (Running g) (next counter)) ∷ []) Nothing

abbrev pub in_running : (List ℕ → ℕ → Outcome) → ℕ → Mode → Outcome
in_running f counter (Running g) = f g counter
in_running f counter other = Waits

-- of a thread that runs
abbrev pub of_running : (List ℕ → ℕ → Outcome) → Option Thread → Outcome
of_running f None = Waits
of_running f (Some t) = in_running f t.counter t.mode

abbrev pub is_running_mode : Mode → Bool
is_running_mode (Running g) = true
is_running_mode other = false

-- a thread is there and runs
abbrev pub is_running : Option Thread → Bool
is_running None = false
is_running (Some t) = is_running_mode t.mode

-- the registers of a thread, where there is one
abbrev pub registers_there : Option Thread → List ℕ
registers_there None = []
registers_there (Some t) = registers_of t.mode

-- on these registers: a register is among the 16, who enters a call has a call's code, and the page that is written is there
abbrev pub IsEffect : (ℕ → Path) → World → List ℕ → Effect → Type 0
IsEffect p w g (effects.Puts register value) = register < 16
IsEffect p w g effects.Enters = is_some (todo_of g) ≡ true
IsEffect p w g (effects.Stores space page at value) = (birth_at w (p space) ≡ Some space) × IsSome (w.page (p space) page) × (at < 64)
IsEffect p w g other = ⊤
