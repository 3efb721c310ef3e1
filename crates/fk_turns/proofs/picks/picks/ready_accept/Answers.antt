use Rattle.std.proofs.Common.{Bool, true, false, ◌&&◌, is_none, Option, Some, None}
use Rattle.fk_model.specs.declared.moves.Ask.TheVariants as asks
use Rattle.fk_model.specs.Moves.{outcome, GoesAllowed, IsReady}
use Rattle.fk_model.specs.NativeRows.{accept_row, is_serving_port, takes_client}
use Rattle.fk_model.specs.Outcomes.{when}
use Rattle.fk_model.specs.Places.{Path}
use Rattle.fk_model.specs.Searches.{client_at}
use Rattle.fk_model.specs.World.{World}
use Rattle.fk_store.specs.Store.Paths.{path, place}
use Rattle.fk_store.specs.Store.World.{world}
use Rattle.fk_turns.specs.Picks.Stands.{StandsAt}
use Rattle.fk_turns.proofs.InPicks.Leading.{if_none}
use Rattle.fk_turns.proofs.InPicks.Stands.{accepted_stands}
use Rattle.fk_turns.proofs.picks.picks.ready_accept.Goals as goal

-- an accept picks somebody
picks : (w : World) (port : Path) → IsReady w port None asks.Accept → ⊥
unfolding outcome accept_row
picks w port ready = by (is_serving_port w port && is_none (client_at w port)) ready
  where
    by : (b : Bool) → GoesAllowed w port (when b (takes_client w port None)) → ⊥
    by true ready = ready
    by false ready = ready

-- who stands at the port
stands : (w : World) (port q : Path) → IsReady w port (Some q) asks.Accept → StandsAt w port q
unfolding outcome accept_row
stands w port q ready = by (is_serving_port w port && is_none (client_at w port)) ready
  where
    by : (b : Bool) → GoesAllowed w port (when b (takes_client w port (Some q))) → StandsAt w port q
    by true ready = accepted_stands w port port q ready
    by false ready = absurd ready

pub returns-clause-none : goal.returns-clause-none
returns-clause-none c = if_none c.takes_at.result (λ none pick. by none pick) c.takes_at.ensures.none
  where
    by : ((q : Path) → StandsAt (world c.args.store.now) (place (path c.args.store.now) c.args.port) q →
        IsReady (world c.args.store.now) (place (path c.args.store.now) c.args.port) (Some q) asks.Accept → ⊥) →
        (pick : Option Path) → IsReady (world c.args.store.now) (place (path c.args.store.now) c.args.port) pick asks.Accept → ⊥
    by none None ready = picks (world c.args.store.now) (place (path c.args.store.now) c.args.port) ready
    by none (Some q) ready = none q (stands (world c.args.store.now) (place (path c.args.store.now) c.args.port) q ready) ready
