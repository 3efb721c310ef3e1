-- Foretold: what an event would tell native servers.
use Rattle.std.specs.Prelude.{◌≡◌, ◌≤◌, ℕ, true, false}
use Rattle.fk_model.specs.declared.names.Who.{Who}
use Rattle.fk_model.specs.Endings.{has_ended}
use Rattle.fk_model.specs.Places.{Path}
use Rattle.fk_model.specs.Runs.{Event, after}
use Rattle.fk_model.specs.Searches.{depth}
use Rattle.fk_model.specs.Valid.{IsValid}
use Rattle.fk_model.specs.Who.{named}
use Rattle.fk_model.specs.World.{World}
use Rattle.fk_store.specs.Store.Moves.{said_by}
use Rattle.fk_plans.specs.Plans.Hearers.{says_to, says_to_who, to_servers}
use Rattle.fk_kernel.specs.Tolds.{Told}
use Rattle.fk_kernel.specs.Events.{is_who}
use Rattle.laws_jobs.specs.Machines.{said_of}

-- it says this to servers, as things are named before it; and the server of this port loses its client by it, and no other does where the world
-- behind it is valid
pub record IsForetold (w : World) (p : ℕ → Path) (e : Event) (told : Told) : Type 0 where
  pub said : to_servers (said_of w e) ≡ to_servers (said_by p told.said)
  pub heard : (port : Who) → says_to (said_by p told.said) (named w port) ≡ says_to_who told.said port
  pub loses : (port : Who) → is_who told.ended port ≡ true → has_ended w (after w e) (named w port) ≡ true
  pub keeps : IsValid (after w e) → (after w e).next ≤ depth →
      (port : Who) → is_who told.ended port ≡ false → has_ended w (after w e) (named w port) ≡ false
