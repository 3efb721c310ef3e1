-- Acted: what came of an act of a native server that picks nobody.
use Rattle.std.specs.Prelude.{◌≡◌, ℕ, List, take, None}
use Rattle.fk_model.specs.declared.moves.Ask.{Ask}
use Rattle.fk_model.specs.declared.moves.Ask.TheVariants as asks
use Rattle.fk_model.specs.declared.moves.Move.{Move}
use Rattle.fk_model.specs.declared.moves.Said.{Said}
use Rattle.fk_model.specs.declared.moves.Said.TheVariants as says
use Rattle.fk_model.specs.declared.names.Who.{Who}
use Rattle.fk_model.specs.Endings.{has_ended}
use Rattle.fk_model.specs.Who.{event_of, named}
use Rattle.fk_plans.specs.Plans.Hearers.{says_to, says_to_who}
use Rattle.fk_store.specs.Store.Moves.{said_by}
use Rattle.fk_kernel.specs.Events.{is_who, step_of, IsReadyEvent}
use Rattle.fk_kernel.specs.Kernels.{path_of, world_of, Kept}

-- the move of a port's server, which picks nobody
abbrev pub act_of : Who → Move
act_of port = record { who = port; pick = None }

-- it was made from what one kernel keeps to what another does, tells this, and no server lost its client by it
pub record IsActed (m n : Kept) (port : Who) (ask : Ask) (said : Said) : Type 0 where
  pub ready : IsReadyEvent (world_of m) (event_of (world_of m) ask (act_of port))
  pub step : step_of (world_of m) (event_of (world_of m) ask (act_of port)) ≡ record { world = world_of n; said = said_by (path_of n) said }
  pub ended : (other : Who) → has_ended (world_of m) (world_of n) (named (world_of m) other) ≡ is_who None other
  pub told : (other : Who) → says_to (step_of (world_of m) (event_of (world_of m) ask (act_of port))).said (named (world_of m) other) ≡ says_to_who said other

-- so many of these words were given, however the server asks for that
abbrev pub IsGiven : Kept → Kept → Who → List ℕ → ℕ → Type 0
IsGiven m n port words count = (numbers : List ℕ) (len : ℕ) → take len numbers ≡ words → IsActed m n port (asks.Give numbers len) (says.Given port count)
