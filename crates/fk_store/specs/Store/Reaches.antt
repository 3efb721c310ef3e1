-- Reaches: what a store finds on the way to a page, by paths.
use Rattle.std.specs.Prelude.{ℕ, ◌∷◌, Option, Some, None, option_map, if◌then◌else◌}
use Rattle.fk_model.specs.declared.names.Who.{Who}
use Rattle.fk_model.specs.Places.{Path, Ptr}
use Rattle.fk_model.specs.Places.Ptr.{At}
use Rattle.fk_model.specs.Objects as objects
use Rattle.fk_model.specs.Objects.{covers, mapping_of, region_of, and_then}
use Rattle.fk_model.specs.World.{World}
use Rattle.fk_model.specs.Reach as definition
use Rattle.fk_model.specs.Reach.Reach.{Home, Missing, Bad}
use Rattle.fk_store.specs.declared.store.reach.Reach.{Reach}
use Rattle.fk_store.specs.declared.store.reach.Reach.TheVariants as reaches
use Rattle.fk_store.specs.declared.store.reach.Hop.{Hop}
use Rattle.fk_store.specs.declared.store.reach.Hop.TheVariants as hops
use Rattle.fk_store.specs.declared.store.reach.Window.{Window}
use Rattle.fk_store.specs.declared.store.reach.Extent.{Extent}
use Rattle.fk_store.specs.Store.Paths.{place}
use Rattle.fk_store.specs.Store.Bodies.{pointer_by}

abbrev pub window_by : (ℕ → Path) → Window → objects.Window
window_by path m = record { first = m.first; count = m.count; offset = m.offset; write = m.write; region = pointer_by path m.region }

abbrev pub extent_by : (ℕ → Path) → Extent → objects.Extent
extent_by path r = record { first = r.first; count = r.count; write = r.write; keeper = pointer_by path r.keeper }

-- a page of a space
abbrev pub place_by : (ℕ → Path) → ℕ × ℕ → Path × ℕ
place_by path p = (path p.0, p.1)

abbrev pub keeper_by : (ℕ → Path) → Option Who → Option Ptr
keeper_by path keeper = option_map (λ who. At (place path who)) keeper

-- what an access meets, by paths
abbrev pub reach_by : (ℕ → Path) → Reach → definition.Reach
reach_by path (reaches.Home space page) = Home (path space) page
reach_by path (reaches.Missing space page keeper) = Missing (path space) page (keeper_by path keeper)
reach_by path reaches.Bad = Bad

-- what a page comes to, where `go` says it of the page to which a mapping leads
abbrev pub hop_by : (ℕ → Path) → (Path → ℕ → definition.Reach) → Path → ℕ → Hop → definition.Reach
hop_by path go s page hops.Home = Home s page
hop_by path go s page (hops.Missing keeper) = Missing s page (keeper_by path keeper)
hop_by path go s page hops.Broken = Bad
hop_by path go s page (hops.On space other) = go (path space) other

-- the mapping in a slot of a space, where there is one that covers a page
abbrev pub covering_mapping : World → Path → ℕ → ℕ → Option objects.Window
covering_mapping w s page k = and_then (λ (m : objects.Window). if covers m.first m.count page then Some m else None) (and_then mapping_of (w.body (k ∷ s)))

-- the region likewise
abbrev pub covering_region : World → Path → ℕ → ℕ → Option objects.Extent
covering_region w s page k = and_then (λ (r : objects.Extent). if covers r.first r.count page then Some r else None) (and_then region_of (w.body (k ∷ s)))
