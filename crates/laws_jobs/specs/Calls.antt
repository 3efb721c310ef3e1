-- A porter's calls: what each new object is, and when a call is ready.
use Rattle.std.specs.Prelude.{◌≡◌, ℕ, Bool, true, false, List, ◌∷◌, replicate, None}
use Rattle.fk_model.specs.declared.names.Kind.{Kind}
use Rattle.fk_model.specs.declared.names.Kind.TheVariants as kinds
use Rattle.fk_model.specs.declared.stage.Stage.{Stage}
use Rattle.fk_model.specs.Places.{Path, is_within}
use Rattle.fk_model.specs.Places.Ptr.{Null}
use Rattle.fk_model.specs.Objects.{Body}
use Rattle.fk_model.specs.Objects.Mode.{Running}
use Rattle.fk_model.specs.Objects.Body.{Mutex, Cond, Mapping, Region, Port, Portset, Thread_of, Reference}
use Rattle.fk_model.specs.World.{World, Change, apply_all}
use Rattle.fk_model.specs.World.Change.{Make, MakeSpace}
use Rattle.fk_model.specs.Holds.{holder_of}
use Rattle.fk_model.specs.Outcomes.{Said}
use Rattle.fk_model.specs.Outcomes.Outcome.{Goes}
use Rattle.fk_model.specs.Moves.{call_row}
use Rattle.fk_model.specs.Runs.{after}
use Rattle.laws_moves.specs.Frozen.Holding.{IsHolding}
use Rattle.laws_jobs.specs.Machines.{porter, call_of, said_of, IsReadyAt}

-- a new object of each kind
abbrev pub fresh : Path → Kind → Change
fresh x kinds.Mutex = Make x (Mutex false)
fresh x kinds.Cond = Make x Cond
fresh x kinds.Mapping = Make x (Mapping (record { first = 0; count = 1; offset = 0; write = false; region = Null }))
fresh x kinds.Region = Make x (Region (record { first = 0; count = 1; write = false; keeper = Null }))
fresh x kinds.Port = Make x (Port None false)
fresh x kinds.Portset = Make x Portset
fresh x kinds.Space = MakeSpace x None
fresh x kinds.Thread = Make x (Thread_of (record { mode = Running (replicate 16 0); counter = 0; stops = 1; talk = None; fault = None }))
fresh x kinds.Reference = Make x (Reference Null)

abbrev pub has_pointer : Body → Bool
has_pointer (Mapping m) = true
has_pointer (Region r) = true
has_pointer (Reference to) = true
has_pointer other = false

-- ---- a call is its row

-- a ready call makes the changes that its row lists, and tells what its row tells
abbrev pub CallIsItsRow : Type 0
CallIsItsRow = (nester : Path) (w : World) (stage : Stage) (words : List ℕ) (changes : List Change) (said : Said) →
    call_row w (porter nester words) None stage ≡ Goes changes said → IsReadyAt w (call_of nester stage words) →
    (after w (call_of nester stage words) ≡ apply_all changes w) × (said_of w (call_of nester stage words) ≡ said)

-- ---- readiness

-- no space outside the subtree is held
abbrev pub IsUnheldOutside : Path → World → Type 0
IsUnheldOutside root w = (y : Path) → is_within root y ≡ false → holder_of (w.body y) ≡ None

-- a call that comes to something is ready where nothing outside the porter's own subtree is held
abbrev pub UnheldCallIsReady : Type 0
UnheldCallIsReady = (nester : Path) (slot : ℕ) (w : World) (stage : Stage) (words : List ℕ) (changes : List Change) (said : Said) → IsHolding nester slot w →
    IsUnheldOutside (slot ∷ nester) w → call_row w (porter nester words) None stage ≡ Goes changes said → IsReadyAt w (call_of nester stage words)
