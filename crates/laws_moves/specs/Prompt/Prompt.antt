-- Promptness: a free caller gets an object's state whatever the object does, and holds a space whatever the threads
-- beneath it do.
use Rattle.std.specs.Prelude.{◌≡◌, ℕ, Bool, true, false, not, ◌&&◌, ◌∷◌, List, Some, None, Result, Ok, Err}
use Rattle.std.specs.List.{list_any}
use Rattle.fk_model.specs.declared.moves.Ask.TheVariants as asks
use Rattle.fk_model.specs.declared.stage.Stage.TheVariants.{GetState, SpaceHold}
use Rattle.fk_model.specs.Places.{Path, Ptr}
use Rattle.fk_model.specs.World.{World, apply}
use Rattle.fk_model.specs.Searches.{beneath}
use Rattle.fk_model.specs.Reach.{Reach, reach_word}
use Rattle.fk_model.specs.Reach.Reach.{Home, Missing, Bad}
use Rattle.fk_model.specs.Holds.{is_frozen_for, leads_to_frozen}
use Rattle.fk_model.specs.Outcomes.{Caller, path_of}
use Rattle.fk_model.specs.Readers.{space_argument, fault_on}
use Rattle.fk_model.specs.LinkRows.{user_at}
use Rattle.fk_model.specs.SpaceRows.{has_porter, is_held_by_other}
use Rattle.fk_model.specs.StateRows.{is_bad_record_address}
use Rattle.fk_model.specs.Moves.{IsReady, porter_at}
use Rattle.laws_moves.specs.Prompt.Callers.{IsUserAt, IsPorterFor, users_step}
use Rattle.laws_moves.specs.Prompt.Correct.{IsNamed}
use Rattle.fk_model.specs.Objects.{Body}

-- ---- get_state

-- no hold of another bars an access: its page isn't frozen for the caller, and if the page is missing its keeper isn't
abbrev pub is_open : World → Path → Reach → Bool
is_open w me (Home space page) = not (is_frozen_for w me space)
is_open w me (Missing space page (Some keeper)) = not (leads_to_frozen w me keeper)
is_open w me (Missing space page None) = true
is_open w me Bad = true

-- whatever the object does that it names, a free user's get_state is ready, if its own address is open
abbrev pub GetStateIsPrompt : Type 0
GetStateIsPrompt = (w : World) (space : Path) (slot s x address : ℕ) → IsUserAt w space slot (GetState s x address) →
    is_open w (slot ∷ space) (reach_word w space address true) ≡ true → IsReady w (slot ∷ space) None asks.Run

-- and a free porter's is always ready
abbrev pub PortersGetStateIsPrompt : Type 0
PortersGetStateIsPrompt = (w : World) (space : Path) (slot s x address : ℕ) (words : List ℕ) →
    IsPorterFor w space slot (GetState s x address) → IsReady w (slot ∷ space) None (asks.Call (GetState s x address) words)

-- where the page of its address is missing, and somebody keeps it, the caller's own fault is the move
abbrev pub GetStateFaults : Type 0
GetStateFaults = (w : World) (space : Path) (slot s x address : ℕ) (b : Body) (at : Path) (page : ℕ) (keeper : Ptr) →
    IsUserAt w space slot (GetState s x address) → IsNamed w (user_at (slot ∷ space)) s x b →
    is_bad_record_address (user_at (slot ∷ space)) address ≡ false → reach_word w space address true ≡ Missing at page (Some keeper) →
    (users_step w space slot).world ≡ apply (fault_on (slot ∷ space) page true keeper) w

-- ---- space_hold

-- nobody else holds the space, and no porter one beneath it
abbrev pub is_holdable : World → Path → Path → Bool
is_holdable w me x = not (is_held_by_other w me x) && not (list_any (has_porter w) (beneath w x))

-- the space in a slot of the place that a caller names, if it names one
abbrev pub may_hold : World → Caller → ℕ → Result Path ℕ → Bool
may_hold w c x (Ok space) = is_holdable w (path_of c) (x ∷ space)
may_hold w c x (Err status) = true

-- whatever the threads beneath it do, a space that no hold bars is held at once
abbrev pub SpaceHoldIsPrompt : Type 0
SpaceHoldIsPrompt = (w : World) (space : Path) (slot s x : ℕ) → IsUserAt w space slot (SpaceHold s x) →
    may_hold w (user_at (slot ∷ space)) x (space_argument w (user_at (slot ∷ space)) s) ≡ true → IsReady w (slot ∷ space) None asks.Run

-- a free caller holds a space whatever the threads beneath it do, where no hold bars it
abbrev pub PortersSpaceHoldIsPrompt : Type 0
PortersSpaceHoldIsPrompt = (w : World) (space : Path) (slot s x : ℕ) (words : List ℕ) →
    IsPorterFor w space slot (SpaceHold s x) →
    may_hold w (porter_at (slot ∷ space) words) x (space_argument w (porter_at (slot ∷ space) words) s) ≡ true →
    IsReady w (slot ∷ space) None (asks.Call (SpaceHold s x) words)
