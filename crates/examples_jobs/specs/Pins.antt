-- A restore that leaves its pin: it makes a space and the pin in it, and says that it has made an empty space.
use Rattle.std.specs.Prelude.{ℕ, Bool, true, List, [], ◌∷◌, Option, Some, None}
use Rattle.fk_model.specs.declared.limits.TheConstants.{FIRST_SCRATCH_SLOT}
use Rattle.fk_model.specs.declared.stage.Stage.TheVariants.{Create, SpaceMakeHeld}
use Rattle.fk_model.specs.Places.{Path}
use Rattle.fk_model.specs.Objects.{Body}
use Rattle.fk_model.specs.Objects.Body.{Space}
use Rattle.fk_model.specs.World.{World}
use Rattle.laws_jobs.specs.Machines.{no_words, Head, Machine}
use Rattle.laws_jobs.specs.Machines.Head.{Stops, Asks}

pub data State : Type 0 where
  Makes : State
  Pins : State
  Over : State

abbrev pub head : State → Head Bool
head Makes = Asks (SpaceMakeHeld 2) no_words
head Pins = Asks (Create 2 FIRST_SCRATCH_SLOT 9) no_words
head Over = Stops true

abbrev pub next : State → ℕ → List ℕ → State
next Makes status words = Pins
next Pins status words = Over
next Over status words = Over

abbrev pub leaves_pin : Machine State Bool
leaves_pin = record { head = head; next = next }

abbrev pub root_alone : Path → Option Body
root_alone [] = Some (Space 0 None)
root_alone (k ∷ x) = None

abbrev pub empty_space : World
empty_space = record { body = root_alone; page = λ x page. None; next = 0 }
