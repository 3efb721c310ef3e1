-- Pageable: a subtree of the root whose pages the root's porter may keep, and at which port and set it takes the faults on them.
use Rattle.std.specs.Prelude.{◌≡◌, ℕ, Bool, true, ◌&&◌, ◌==◌, [], ◌∷◌, is_some, Option, None}
use Rattle.fk_model.specs.declared.limits.TheConstants.{SLOTS, PAGES, LAST_PORTER_SLOT}
use Rattle.fk_model.specs.Places.{Path, leads_to}
use Rattle.fk_model.specs.Objects.{Extent, Body, mapping_of, region_of, space_of, and_then, holds}
use Rattle.fk_model.specs.World.{World}
use Rattle.fk_model.specs.Searches.{lowest}
use Rattle.fk_model.specs.StateRows.{is_native}
use Rattle.fk_model.specs.LinkRows.{is_member}
use Rattle.laws_filled.specs.Pager.{Desk}

abbrev pub root : Path
root = []

-- the root as a nester, a slot of it, and the slots of the port and of the set at which faults are taken; so many pages may be home
abbrev pub desk_of_root : (slot port set room : ℕ) → Desk
desk_of_root slot port set room = record { nester = root; slot = slot; port = port; set = set; room = room }

-- the region in a slot of a space, if one is there
abbrev pub region_in : World → Path → ℕ → Option Extent
region_in w s k = and_then region_of (w.body (k ∷ s))

-- the region in the lowest slot of a space that has one
unfoldable pub first_region : World → Path → Option Extent
first_region w s = lowest SLOTS (region_in w s)

-- a region has every page, and its keeper is this port
abbrev pub keeps_all : Path → Extent → Bool
keeps_all port r = r.first == 0 && r.count == PAGES && leads_to port r.keeper

-- an object is a region whose keeper is this port
abbrev pub is_kept_by : Path → Option Body → Bool
is_kept_by port o = holds (λ (r : Extent). leads_to port r.keeper) (and_then region_of o)

-- faults on pages of the space in a slot of the root are raised at this port, and at no other place; the port is in this set, and alone there
pub record HasDesk (w : World) (slot port set : ℕ) : Type 0 where
  -- the root is a nester: its porter stands
  pub nester : holds is_native (w.body (LAST_PORTER_SLOT ∷ root)) ≡ true
  -- a space is in the slot
  pub space : is_some (and_then space_of (w.body (slot ∷ root))) ≡ true
  -- no mapping is in it
  pub mapless : (k : ℕ) → and_then mapping_of (w.body (k ∷ slot ∷ root)) ≡ None
  -- its first region has every page, and its keeper is the port
  pub kept : holds (keeps_all (port ∷ root)) (first_region w (slot ∷ root)) ≡ true
  -- the port is in the set
  pub member : is_member set (w.body (port ∷ root)) ≡ true
  -- no other port is
  pub alone : (k : ℕ) → is_member set (w.body (k ∷ root)) ≡ true → k ≡ port
  -- the port keeps no region of another space
  pub ours : (k : ℕ) (s : Path) → is_kept_by (port ∷ root) (w.body (k ∷ s)) ≡ true → s ≡ slot ∷ root

-- the subtree in a slot of the root may be paged
abbrev pub IsPageable : World → ℕ → Type 0
IsPageable w slot = (port : ℕ) × (set : ℕ) × HasDesk w slot port set
