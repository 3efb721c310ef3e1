-- A restore in code as a state of the machine.
use Rattle.std.specs.Prelude.{◌≡◌, ℕ, Bool, true, false, not, ◌&&◌, ◌==◌, suc, List, [], drop, Option, Some, None, if◌then◌else◌}
use Rattle.fk_restore.specs.declared.restore.end.RestoreEnd.{RestoreEnd}
use Rattle.fk_restore.specs.declared.restore.end.RestoreEnd.TheVariants as code_ends
use Rattle.fk_image.specs.declared.image.image.Image.{Image}
use Rattle.fk_image.specs.declared.image.image.SpaceRec.{SpaceRec}
use Rattle.laws_restore.specs.Restore.Restore.{End, End as ends, State, State as states, drops, objects, lowest_bound}
use Rattle.fk_model.specs.declared.statuses.status.TheConstants.{OK}
use Rattle.laws_restore.specs.Sites.Orders.{Order, is_port_in}
use Rattle.laws_restore.specs.Rooms.Rooms.{rooms_from}
use Rattle.fk_restore.specs.declared.orders.looks.Look.{Look}
use Rattle.fk_restore.specs.declared.orders.looks.Look.TheVariants.{Plain, Pins, Checks}
use Rattle.laws_restore.specs.Rooms.Restoring.{bound_by}
use Rattle.fk_restore.specs.Positions.Positions.{rest, order_at, IsPosition}
use Rattle.fk_restore.specs.Orders.Left.{is_empty}
use Rattle.fk_restore.specs.declared.restore.restore.Phase.{Phase}
use Rattle.fk_restore.specs.declared.restore.restore.Phase.TheVariants.{Makes, Works, Clears, Over}
pub use Rattle.fk_model.specs.Outcomes.{answered}

-- a space of an image that isn't the first is one more
abbrev pub inner : ℕ → ℕ
inner n = if n == 0 then 0 else 1

-- so many of the scratch references are gone, and so many more than one stages of destroying are left
abbrev pub clears : ℕ → ℕ → ℕ → State
clears dropped more port = states.Clears (drop dropped drops) more port

-- the slot of the nester in which an answer says that no port is
abbrev pub missing : Look → ℕ → List ℕ → Option ℕ
missing Plain status words = None
missing (Pins i) status words = if status == OK then None else Some i
missing (Checks i) status words = if status == OK && is_port_in i words then None else Some i

-- what a restore does then, with these orders left
abbrev pub goes_on : List SpaceRec → List (ℕ × ℕ) → List Order → Option ℕ → State
goes_on ss pairs os None = states.Works os
goes_on ss pairs os (Some j) = states.Clears drops (suc (objects (rooms_from ss 0 ss))) (lowest_bound (bound_by pairs) (rooms_from ss 0 ss) j 240 0)

-- how it ends, as the machine says it
abbrev pub end_of : RestoreEnd → End
end_of code_ends.Done = ends.Done
end_of code_ends.Occupied = ends.Occupied
end_of (code_ends.NoPort i) = ends.NoPort i

abbrev pub phase_of : List SpaceRec → ℕ → List (ℕ × ℕ) → Phase → State
phase_of ss slot pairs Makes = states.Makes
phase_of ss slot pairs (Works p) = states.Works (rest ss slot (bound_by pairs) p)
phase_of ss slot pairs (Clears dropped more port) = clears dropped more port
phase_of ss slot pairs (Over end) = states.Over (end_of end)

-- an order stands at its position, or it is behind all
abbrev pub IsSoundPhase : List SpaceRec → ℕ → List (ℕ × ℕ) → Phase → Type 0
IsSoundPhase ss slot pairs (Works p) =
    IsPosition ss slot (bound_by pairs) p × (is_empty p (order_at ss slot (bound_by pairs) p) ≡ false)
IsSoundPhase ss slot pairs other = Unit {0}

-- a restore in code: where it makes which image again, what is bound, and the state of its machine
pub record Restoring : Type 0 where
  pub slot : ℕ
  pub image : Image
  pub pairs : List (ℕ × ℕ)
  pub state : State

-- its machine has no call to make
abbrev pub HasEnded : State → Type 0
HasEnded (states.Over end) = Unit {0}
HasEnded other = ⊥

-- only the release is left of a restore that will be done
abbrev pub is_built : State → Bool
is_built (states.Works []) = true
is_built other = false
