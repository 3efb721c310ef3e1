-- Acted: what came of an act of a native server that picks nobody.
use Rattle.std.specs.Prelude.{◌≡◌, ℕ, List, take, Some, None}
use Rattle.fk_model.specs.declared.moves.Ask.{Ask}
use Rattle.fk_model.specs.declared.moves.Ask.TheVariants as asks
use Rattle.fk_model.specs.declared.moves.Move.{Move}
use Rattle.fk_model.specs.declared.moves.Said.{Said}
use Rattle.fk_model.specs.declared.moves.Said.TheVariants as says
use Rattle.fk_model.specs.declared.names.Who.{Who}
use Rattle.fk_plans.specs.declared.wakes.touching.Touched.TheVariants.{Few}
use Rattle.fk_store.specs.Store.Contents.{Contents}
use Rattle.fk_calls.specs.Calls.Judgements.{IsEnded, IsHeardBy, IsReadyMove, IsStepTo, TellsTouched}

-- the move of a port's native server, which picks nobody
abbrev pub act_of : Who → Move
act_of port = record { who = port; pick = None }

-- it was made for a client, and tells this
pub record HasActed (m n : Contents) (port client : Who) (ask : Ask) (said : Said) : Type 0 where
  pub ready : IsReadyMove m (act_of port) ask
  pub step : IsStepTo m (act_of port) ask n said
  pub ended : IsEnded m n None
  pub heard : IsHeardBy m n said
  pub touched : TellsTouched m (act_of port) ask (Few (Some client) None None)

-- so many of these words were given, however the server asks for that
abbrev pub HasGiven : Contents → Contents → Who → Who → List ℕ → ℕ → Type 0
HasGiven m n port client words count =
    (numbers : List ℕ) (len : ℕ) → take len numbers ≡ words → HasActed m n port client (asks.Give numbers len) (says.Given port count)
