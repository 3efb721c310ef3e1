-- What a restorer is told of a slot of its nester: whether a port stood there when the pin was led there.
use Rattle.std.specs.Prelude.{◌≡◌, ℕ, Bool, true, ◌&&◌, ◌∷◌, Some}
use Rattle.fk_model.specs.declared.statuses.status.TheConstants.{OK}
use Rattle.fk_model.specs.Places.{Path, Ptr, leads_to}
use Rattle.fk_model.specs.Objects.Body.{Reference}
use Rattle.fk_model.specs.World.{World}
use Rattle.fk_model.specs.Runs.{Event, after}
use Rattle.fk_model.specs.Cut.{is_port}
use Rattle.laws_moves.specs.Frozen.Holding.{IsUsersMove}
use Rattle.laws_jobs.specs.Machines.{no_words, call_of}
use Rattle.laws_jobs.specs.Machines.{Reply, IsAnswered}
use Rattle.laws_restore.specs.Sites.Orders.{Site, pin_of, Shows, May, stage_of, passes}
use Rattle.laws_restore.specs.Sites.Orders.Order.{Pins, Takes, Checks}

-- a pointer leads to that slot of the nester, and a port stands there
abbrev pub hits : Path → World → ℕ → Ptr → Bool
hits nester w i to = leads_to (i ∷ nester) to && is_port (w.body (i ∷ nester))

-- whether the pin leads to a port in that slot
pub record Looks (nester : Path) (slot : ℕ) (w : World) (i : ℕ) (port : Bool) : Type 0 where
  pub to : Ptr
  pub pin : w.body (pin_of (slot ∷ nester)) ≡ Some (Reference to)
  pub hit : hits nester w i to ≡ port

-- led there, the pin leads to a port in that slot exactly where one stands there now; where one stands there it is led
pub record PinTells (nester : Path) (slot : ℕ) (w : World) (i : ℕ) (reply : Reply) : Type 0 where
  pub looks : reply.status ≡ OK → Looks nester slot (after w (call_of nester (stage_of slot (Pins i)) no_words)) i (is_port (w.body (i ∷ nester)))
  pub led : is_port (w.body (i ∷ nester)) ≡ true → reply.status ≡ OK

-- led to a slot of the nester, the pin leads to a port there exactly where one stands there
abbrev pub PinsTell : Type 0
PinsTell = (nester : Path) (slot : ℕ) (g : Site) (w : World) (i : ℕ) (reply : Reply) → Shows nester slot g w → May slot (Pins i) g
    → IsAnswered nester w (stage_of slot (Pins i)) no_words reply → PinTells nester slot w i reply

-- so it stays while others move, and while scratch is led there
abbrev pub OthersKeepLooks : Type 0
OthersKeepLooks = (nester : Path) (slot : ℕ) (g : Site) (w : World) (e : Event) (i : ℕ) (port : Bool) → Shows nester slot g w → IsUsersMove nester w e
    → Looks nester slot w i port → Looks nester slot (after w e) i port

-- the call that leads scratch to a slot keeps what the pin there tells
abbrev pub TakesKeepLooks : Type 0
TakesKeepLooks = (nester : Path) (slot : ℕ) (g : Site) (w : World) (r i : ℕ) (port : Bool) (reply : Reply) → Shows nester slot g w → May slot (Takes r) g
    → IsAnswered nester w (stage_of slot (Takes r)) no_words reply → Looks nester slot w i port →
    Looks nester slot (after w (call_of nester (stage_of slot (Takes r)) no_words)) i port

-- and the answer to the look says it
abbrev pub ChecksTell : Type 0
ChecksTell = (nester : Path) (slot : ℕ) (g : Site) (w : World) (r i : ℕ) (port : Bool) (reply : Reply) → Shows nester slot g w → May slot (Checks r i) g
    → IsAnswered nester w (stage_of slot (Checks r i)) no_words reply → Looks nester slot w i port →
    passes (Checks r i) reply.status reply.words ≡ port
