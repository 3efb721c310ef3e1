-- Where an access comes to: a page that is there has 64 words, which are words; one that is missing is a page that a space has.
use Rattle.std.proofs.Common.{◌≡◌, ℕ, zero, suc, ◌+◌, ◌-◌, ◌/◌, ◌<◌, Bool, true, false, if◌then◌else◌, not, ◌&&◌, ◌||◌, nat_lt, nat_le, List, length, Option}
use Rattle.std.proofs.Common.{Some, None, refl, arith}
use Rattle.std.proofs.lemmas.Bool.{and_parts, leb-true, ltb-true}
use Rattle.fk_model.specs.declared.limits.TheConstants.{MAPPINGS, PAGES, PAGE_WORDS, SPACE_WORDS}
use Rattle.fk_model.specs.Places.{Path, parent, Ptr}
use Rattle.fk_model.specs.Places.Ptr.{Null, At}
use Rattle.fk_model.specs.Objects.{Window, Extent, Body, region_of, and_then}
use Rattle.fk_model.specs.Objects.Body.{Mutex, Region}
use Rattle.fk_model.specs.World.{World}
use Rattle.fk_model.specs.Reach.{Reach, mapping_at, keeper, page_of_region, led_by, followed, mapped, at_home, reach_within, reach, reach_word, words_at}
use Rattle.fk_model.specs.Reach.Reach.{Home, Missing, Bad}
use Rattle.fk_model.specs.Valid.{IsConsistent, kind_there, all_in, is_good}
use Rattle.fk_model.specs.Whole.{HasFullPages}
use Rattle.laws_moves.proofs.InWhole.Memory.{IsThere, word-there, words-full}
use Rattle.laws_moves.proofs.InSavable.Words.{AreWords}
use Rattle.laws_moves.proofs.InSavable.Pages.{PagesHaveWords}

-- what is known of memory
pub record Memory (w : World) : Type 0 where
  pub valid : IsConsistent w
  pub full : HasFullPages w
  pub words : PagesHaveWords w

-- ---- pages that are missing

abbrev IsMissed : Reach → Type 0
IsMissed (Home s page) = Unit {0}
IsMissed (Missing s page keeper) = page < PAGES
IsMissed Bad = Unit {0}

missed-home : (s : Path) (page : ℕ) (away : Reach) (o : Option (List ℕ)) → IsMissed away → IsMissed (at_home (Home s page) away o)
missed-home s page away None missed = missed
missed-home s page away (Some words) missed = tt

missed-mapped : (go : Window → Reach) (missing : Reach) (o : Option Window) → IsMissed missing → ((m : Window) → IsMissed (go m))
    → IsMissed (mapped go missing o)
missed-mapped go missing None here there = here
missed-mapped go missing (Some m) here there = there m

-- a mapping leads to a page that a space has
region-page : (w : World) → IsConsistent w → (m : Window) (page : ℕ) (write : Bool) (p : Ptr) (place : Path × ℕ) → led_by w m page write p ≡ Some place →
    place.1 < PAGES
region-page w valid m page write (At region) place h = by (w.body region) (valid.good region) h
  where
    fits : (r : Extent) → (nat_le 1 r.count && nat_le r.count PAGES && nat_le (r.first + r.count) PAGES) ≡ true →
        (t u : Bool) → nat_lt (m.offset + (page - m.first)) r.count ≡ t →
        (if t && u then Some (parent region, r.first + (m.offset + (page - m.first))) else None) ≡ Some place → place.1 < PAGES
    fits r range true true e h =
        let within = ltb-true (m.offset + (page - m.first)) r.count e in
        let last = leb-true (r.first + r.count) PAGES (and_parts (nat_le 1 r.count && nat_le r.count PAGES) _ range).1 in
        let same : place ≡ (parent region, r.first + (m.offset + (page - m.first))) = cc in
        rw same (omega (arith, within, last))
    fits r range true false e h = cc
    fits r range false u e h = cc

    by : (o : Option Body) → all_in (is_good (kind_there w) region) o ≡ true
        → and_then (page_of_region m page write region) (and_then region_of o) ≡ Some place →
        place.1 < PAGES
    by (Some (Region r)) good h = fits r (and_parts (nat_le 1 r.count && nat_le r.count PAGES && nat_le (r.first + r.count) PAGES) _ good).0
        (nat_lt (m.offset + (page - m.first)) r.count) (not write || (m.write && r.write)) refl h
    by (Some (Mutex locked)) good h = cc
    by (Some b) good h = cc
    by None good h = cc
region-page w valid m page write Null place h = cc
region-page w valid m page write p place h = cc

missed-followed : (go : Path → ℕ → Reach) (o : Option (Path × ℕ)) → ((place : Path × ℕ) → o ≡ Some place → IsMissed (go place.0 place.1))
    → IsMissed (followed go o)
missed-followed go None there = tt
missed-followed go (Some place) there = there place refl

missed-within : (n : ℕ) (w : World) → IsConsistent w → (s : Path) (page : ℕ) (write : Bool) → page < PAGES → IsMissed (reach_within n w s page write)
unfolding reach_within
missed-within zero w valid s page write low = missed-home s page _ (w.page s page) (missed-mapped (λ m. Bad) _ (mapping_at w s page) low (λ m. tt))
missed-within (suc n) w valid s page write low =
    missed-home s page _ (w.page s page) (missed-mapped _ _ (mapping_at w s page) low
    (λ m. missed-followed _ (led_by w m page write m.region)
    (λ place led. missed-within n w valid place.0 place.1 write (region-page w valid m page write m.region place led))))

-- ---- an access

-- the page at an address is there
pub record IsReached (w : World) (address : ℕ) (s : Path) (page : ℕ) : Type 0 where
  pub words : AreWords (words_at w s page)
  pub full : length (words_at w s page) ≡ PAGE_WORDS
  pub low : address < SPACE_WORDS

abbrev pub ComesTo : World → ℕ → Reach → Type 0
ComesTo w address (Home s page) = IsReached w address s page
ComesTo w address (Missing s page keeper) = page < PAGES
ComesTo w address Bad = Unit {0}

pub words-there : (w : World) → PagesHaveWords w → (s : Path) (page : ℕ) → AreWords (words_at w s page)
words-there w pages s page = by (w.page s page) refl
  where
    by : (o : Option (List ℕ)) → w.page s page ≡ o → AreWords (words_at w s page)
    by None e = rw e tt
    by (Some words) e = rw e (pages s page words e)

pub comes-to : (w : World) → Memory w → (s : Path) (address : ℕ) (write : Bool) → ComesTo w address (reach_word w s address write)
unfolding reach
comes-to w memory s address write = by (nat_lt address SPACE_WORDS) refl (word-there w s address write)
  where
    of : address < SPACE_WORDS → (r : Reach) → IsThere w r → IsMissed r → ComesTo w address r
    of low (Home t page) there missed =
        record { words = words-there w memory.words t page; full = words-full w memory.full t page there; low = low }
    of low (Missing t page keeper) there missed = missed
    of low Bad there missed = tt

    by : (t : Bool) → nat_lt address SPACE_WORDS ≡ t → IsThere w (if t then reach w s (address / PAGE_WORDS) write else Bad) →
        ComesTo w address (if t then reach w s (address / PAGE_WORDS) write else Bad)
    by false e there = tt
    by true e there =
        let low = ltb-true address SPACE_WORDS e in
        of low _ there (missed-within MAPPINGS w memory.valid s (address / PAGE_WORDS) write (omega (arith, low)))
