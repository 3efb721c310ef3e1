-- A porter at work: it holds the subtree, nobody decides above it, and its scratch is near. No move of another changes that.
use Rattle.std.specs.Prelude.{◌≡◌, ℕ, ◌≤◌, Bool, true, false, ◌⊎◌, ◌∷◌, ◌++◌, Option, Some, None}
use Rattle.std.specs.List.{list_any}
use Rattle.fk_model.specs.declared.limits.TheConstants.{LAST_USER_SLOT, LAST_PORTER_SLOT}
use Rattle.fk_model.specs.Places.{Path, same_path, leads_to}
use Rattle.fk_model.specs.Places.Ptr.{At}
use Rattle.fk_model.specs.Objects.{Body, holds}
use Rattle.fk_model.specs.Objects.Body.{Reference}
use Rattle.fk_model.specs.World.{World}
use Rattle.fk_model.specs.Searches.{depth}
use Rattle.fk_model.specs.Holds.{holder_of, decider}
use Rattle.fk_model.specs.Freezing.{body_pointers}
use Rattle.fk_model.specs.StateRows.{is_native}
use Rattle.fk_model.specs.ObjectRows.{is_scratch}
use Rattle.fk_model.specs.Moves.{IsReady}
use Rattle.fk_model.specs.Runs.{Event, after}
use Rattle.fk_model.specs.Valid.{IsValid, is_fit, kind_there}
use Rattle.laws_moves.specs.Frozen.Frozen.{IsSameInside}
use Rattle.laws_moves.specs.Frozen.Users.{is_users}

-- what lies around a held subtree that a job reads: its scratch, what that leads to, and who decides over the nester
pub record IsSameAround (nester : Path) (w v : World) : Type 0 where
  pub scratch : (k : ℕ) → is_scratch nester (k ∷ nester) ≡ true → v.body (k ∷ nester) ≡ w.body (k ∷ nester)
  pub kinds : (x : Path) (k : ℕ) → is_scratch nester (k ∷ nester) ≡ true → list_any (leads_to x) (body_pointers (w.body (k ∷ nester))) ≡ true →
      kind_there v x ≡ kind_there w x
  pub above : decider v nester ≡ decider w nester

-- it lies inside, or an object inside leads to it
abbrev pub IsNear : World → Path → Path → Type 0
IsNear w root x = ((q : Path) × (x ≡ q ++ root)) ⊎ ((q : Path) × (list_any (leads_to x) (body_pointers (w.body (q ++ root))) ≡ true))

abbrev pub is_reference : Body → Bool
is_reference (Reference to) = true
is_reference other = false

abbrev pub only_reference : Option Body → Bool
only_reference None = true
only_reference (Some b) = is_reference b

pub record IsHolding (nester : Path) (slot : ℕ) (w : World) : Type 0 where
  pub low : slot ≤ LAST_USER_SLOT
  pub holder : holder_of (w.body (slot ∷ nester)) ≡ Some (At (LAST_PORTER_SLOT ∷ nester))
  pub above : decider w nester ≡ None
  pub porter : holds is_native (w.body (LAST_PORTER_SLOT ∷ nester)) ≡ true
  pub scratch : (k : ℕ) → is_scratch nester (k ∷ nester) ≡ true → only_reference (w.body (k ∷ nester)) ≡ true
  pub near : (k : ℕ) (x : Path) → is_scratch nester (k ∷ nester) ≡ true → list_any (leads_to x) (body_pointers (w.body (k ∷ nester))) ≡ true →
      IsNear w (slot ∷ nester) x

-- a ready move of a user or a native server
pub record IsUsersMove (nester : Path) (w : World) (e : Event) : Type 0 where
  pub valid : IsValid w
  pub few : w.next ≤ depth
  pub fit : is_fit w e.mover e.ask ≡ true
  pub ready : IsReady w e.mover e.pick e.ask
  pub users : is_users e.ask ≡ true
  pub other : same_path (LAST_PORTER_SLOT ∷ nester) e.mover ≡ false

pub record StaysHeld (nester : Path) (slot : ℕ) (w v : World) : Type 0 where
  pub inside : IsSameInside (slot ∷ nester) w v
  pub around : IsSameAround nester w v
  pub holding : IsHolding nester slot v

-- no move of a user or a native server changes what a porter at work stands on: its hold, its mode, its scratch, and that nobody decides above it
abbrev pub OthersKeepHold : Type 0
OthersKeepHold = (nester : Path) (slot : ℕ) (w : World) (e : Event) → IsHolding nester slot w → IsUsersMove nester w e → StaysHeld nester slot w (after w e)
