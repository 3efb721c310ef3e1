-- Jobs of one call that aren't what a run wants of a job.
use Rattle.std.specs.Prelude.{ℕ, Bool, true, List, Option, Some, None}
use Rattle.fk_model.specs.declared.limits.TheConstants.{OWN_SPACE, LAST_PORTER_SLOT}
use Rattle.fk_model.specs.declared.names.Kind.TheVariants as kinds
use Rattle.fk_model.specs.declared.stage.Stage.{Stage}
use Rattle.fk_model.specs.declared.stage.Stage.TheVariants.{Create, Destroy, SpaceHold}
use Rattle.fk_model.specs.Objects.{number_of_kind}
use Rattle.fk_model.specs.World.{World}
use Rattle.laws_jobs.specs.Machines.{no_words, Head, Machine}
use Rattle.laws_jobs.specs.Machines.Head.{Stops, Asks}

pub data State : Type 0 where
  First : State
  Over : State

abbrev pub head : Stage → State → Head Bool
head stage First = Asks stage no_words
head stage Over = Stops true

abbrev pub next : State → ℕ → List ℕ → State
next s status words = Over

-- it makes one call and is done
abbrev pub one_call : Stage → Machine State Bool
one_call stage = record { head = head stage; next = next }

-- it destroys its own porter; makes a mutex in its scratch; leaves a reference there; ends with the hold
abbrev pub destroys_its_porter : Machine State Bool
destroys_its_porter = one_call (Destroy OWN_SPACE LAST_PORTER_SLOT)

abbrev pub makes_a_mutex : Machine State Bool
makes_a_mutex = one_call (Create OWN_SPACE 240 (number_of_kind kinds.Mutex))

abbrev pub leaves_scratch : Machine State Bool
leaves_scratch = one_call (Create OWN_SPACE 240 (number_of_kind kinds.Reference))

abbrev pub holds_at_once : Machine State Bool
holds_at_once = one_call (SpaceHold OWN_SPACE 1)

-- whatever it held, it says that this is its picture: nothing in it, but a birth number
abbrev pub nothing : World
nothing = record { body = λ x. None; page = λ x page. None; next = 1 }

abbrev pub says_nothing : Bool → Option World
says_nothing done = Some nothing
