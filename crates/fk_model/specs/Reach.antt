-- Reach: where a page of a space is read or written.
--
-- A home page that is there answers. Otherwise the mapping in the lowest slot that covers the page leads on, by at most
-- 16 mappings. Where nothing leads on the page is missing there, and the keeper of the region in the lowest slot that
-- covers it may be told.
use Rattle.std.specs.Prelude.{ℕ, zero, suc, ◌+◌, ◌-◌, ◌/◌, Bool, not, ◌&&◌, ◌||◌, nat_lt, List, Option, Some, None, if◌then◌else◌, unwrap_or, ◌∷◌, []}
use Rattle.fk_model.specs.declared.limits.TheConstants.{SLOTS, MAPPINGS, PAGE_WORDS, SPACE_WORDS}
use Rattle.fk_model.specs.Places.{Path, parent, Ptr}
use Rattle.fk_model.specs.Places.Ptr.{At, Out}
use Rattle.fk_model.specs.Objects.{Window, Extent, mapping_of, region_of, covers, and_then}
use Rattle.fk_model.specs.World.{World}
use Rattle.fk_model.specs.Searches.{lowest}

pub data Reach : Type 0 where
  Home : (space : Path) (page : ℕ) → Reach
  Missing : (space : Path) (page : ℕ) (keeper : Option Ptr) → Reach
  Bad : Reach

-- the mapping in the lowest slot that covers a page
unfoldable pub mapping_at : World → Path → ℕ → Option Window
mapping_at w s page = lowest SLOTS (λ k. and_then (λ (m : Window). if covers m.first m.count page then Some m else None) (and_then mapping_of (w.body (k ∷ s))))

-- the region in the lowest slot that covers a page
unfoldable pub region_at : World → Path → ℕ → Option Extent
region_at w s page = lowest SLOTS (λ k. and_then (λ (r : Extent). if covers r.first r.count page then Some r else None) (and_then region_of (w.body (k ∷ s))))

-- a pointer to a keeper, if it leads anywhere
abbrev pub live_keeper : Ptr → Option Ptr
live_keeper (At x) = Some (At x)
live_keeper (Out slot) = Some (Out slot)
live_keeper other = None

-- the keeper of a page that is missing in a space
unfoldable pub keeper : World → Path → ℕ → Option Ptr
keeper w s page = and_then (λ (r : Extent). live_keeper r.keeper) (region_at w s page)

-- the place of a page in a region, as a page of the region's space
abbrev pub page_of_region : Window → ℕ → Bool → Path → Extent → Option (Path × ℕ)
page_of_region m page write region r =
    let place = m.offset + (page - m.first) in
    if nat_lt place r.count && (not write || (m.write && r.write)) then Some (parent region, r.first + place) else None

-- the page of another space to which a mapping leads
abbrev pub led_by : World → Window → ℕ → Bool → Ptr → Option (Path × ℕ)
led_by w m page write (At region) = and_then (page_of_region m page write region) (and_then region_of (w.body region))
led_by w m page write other = None

abbrev pub followed : (Path → ℕ → Reach) → Option (Path × ℕ) → Reach
followed go None = Bad
followed go (Some place) = go place.0 place.1

abbrev pub mapped : (Window → Reach) → Reach → Option Window → Reach
mapped go missing None = missing
mapped go missing (Some m) = go m

abbrev pub at_home : Reach → Reach → Option (List ℕ) → Reach
at_home home away None = away
at_home home away (Some words) = home

-- by at most n mappings
unfoldable pub reach_within : ℕ → World → Path → ℕ → Bool → Reach
reach_within zero w s page write =
    at_home (Home s page) (mapped (λ m. Bad) (Missing s page (keeper w s page)) (mapping_at w s page)) (w.page s page)
reach_within (suc n) w s page write =
    at_home (Home s page) (mapped (λ m. followed (λ t other. reach_within n w t other write) (led_by w m page write m.region))
    (Missing s page (keeper w s page)) (mapping_at w s page)) (w.page s page)

-- what an access to a page of a space meets: a page that is home, one that is missing, or none that it may reach
unfoldable pub reach : World → Path → ℕ → Bool → Reach
reach w s page write = reach_within MAPPINGS w s page write

-- where the word at an address is; bad past the last page
abbrev pub reach_word : World → Path → ℕ → Bool → Reach
reach_word w s address write = if nat_lt address SPACE_WORDS then reach w s (address / PAGE_WORDS) write else Bad

-- the words of a page, which is there
abbrev pub words_at : World → Path → ℕ → List ℕ
words_at w s page = unwrap_or (w.page s page) []
