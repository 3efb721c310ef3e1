-- What a thread wrote at an address it reads there: the access comes to the same page, in the world before and after.
use Rattle.std.proofs.Common.{◌≡◌, ℕ, zero, suc, ◌+◌, ◌-◌, ◌/◌, ◌==◌, ◌&&◌, ◌||◌, not, Bool, true, false, if◌then◌else◌, nat_lt, IsSome, List, [], ◌∷◌, Option}
use Rattle.std.proofs.Common.{Some, None, option_map, refl, ap, ◌∙◌}
use Rattle.std.proofs.lemmas.Bool.{eqb-true, and_parts}
use Rattle.fk_model.specs.declared.limits.TheConstants.{SLOTS, MAPPINGS, PAGE_WORDS, SPACE_WORDS}
use Rattle.fk_model.specs.Places.{Path, same_path, parent, Ptr}
use Rattle.fk_model.specs.Places.Ptr.{At}
use Rattle.fk_model.specs.Objects.{Window, Extent, Thread, mapping_of, region_of, covers, and_then}
use Rattle.fk_model.specs.Objects.Body.{Thread_of}
use Rattle.fk_model.specs.World.{World, apply, apply_all, edited}
use Rattle.fk_model.specs.World.Change.{Alter, PutPage}
use Rattle.fk_model.specs.World.Edit.{Finish}
use Rattle.fk_model.specs.Searches.{lowest}
use Rattle.fk_model.specs.Reach.{Reach, mapping_at, region_at, live_keeper, keeper, page_of_region, led_by, followed, mapped, at_home, reach_within, reach}
use Rattle.fk_model.specs.Reach.{reach_word}
use Rattle.fk_model.specs.Reach.Reach.{Home, Missing, Bad}
use Rattle.fk_model.proofs.walks.PlaceLaws.{same_path_eq}

-- ---- where it may write it may read

read-of_region : (m : Window) (page : ℕ) (region : Path) (r : Extent) (place : Path × ℕ) →
    page_of_region m page true region r ≡ Some place → page_of_region m page false region r ≡ Some place
read-of_region m page region r place h = by (nat_lt (m.offset + (page - m.first)) r.count) (m.write && r.write) h
  where
    by : (fits may : Bool) → (if fits && (not true || may) then Some (parent region, r.first + (m.offset + (page - m.first))) else None) ≡ Some place →
        (if fits && (not false || may) then Some (parent region, r.first + (m.offset + (page - m.first))) else None) ≡ Some place
    by true true h = h
    by true false h = cc
    by false may h = cc

led-read : (w : World) (m : Window) (page : ℕ) (p : Ptr) (place : Path × ℕ) → led_by w m page true p ≡ Some place → led_by w m page false p ≡ Some place
led-read w m page (At region) place h = by (and_then region_of (w.body region)) h
  where
    by : (o : Option Extent) → and_then (page_of_region m page true region) o ≡ Some place → and_then (page_of_region m page false region) o ≡ Some place
    by None h = cc
    by (Some r) h = read-of_region m page region r place h
led-read w m page p place h = cc

read-within : (n : ℕ) (w : World) (s : Path) (page : ℕ) (t : Path) (there : ℕ) →
    reach_within n w s page true ≡ Home t there → reach_within n w s page false ≡ Home t there
unfolding reach_within
read-within zero w s page t there h = by (w.page s page) (mapping_at w s page) h
  where
    by : (o : Option (List ℕ)) (m : Option Window) →
        at_home (Home s page) (mapped (λ m. Bad) (Missing s page (keeper w s page)) m) o ≡ Home t there →
        at_home (Home s page) (mapped (λ m. Bad) (Missing s page (keeper w s page)) m) o ≡ Home t there
    by o m h = h
read-within (suc n) w s page t there h = by (w.page s page) (mapping_at w s page) (read-within n w) h
  where
    go : Bool → Window → Reach
    go write m = followed (λ t other. reach_within n w t other write) (led_by w m page write m.region)

    through : (m : Window) (o : Option (Path × ℕ)) → led_by w m page true m.region ≡ o →
        ((s : Path) (page : ℕ) (t : Path) (there : ℕ) → reach_within n w s page true ≡ Home t there → reach_within n w s page false ≡ Home t there) →
        followed (λ t other. reach_within n w t other true) o ≡ Home t there →
        followed (λ t other. reach_within n w t other false) (led_by w m page false m.region) ≡ Home t there
    through m None e reads h = cc
    through m (Some place) e reads h = rw (led-read w m page m.region place e) (reads place.0 place.1 t there h)

    by : (o : Option (List ℕ)) (found : Option Window) →
        ((s : Path) (page : ℕ) (t : Path) (there : ℕ) → reach_within n w s page true ≡ Home t there → reach_within n w s page false ≡ Home t there) →
        at_home (Home s page) (mapped (λ m. followed (λ t other. reach_within n w t other true) (led_by w m page true m.region))
        (Missing s page (keeper w s page)) found) o ≡ Home t there →
        at_home (Home s page) (mapped (λ m. followed (λ t other. reach_within n w t other false) (led_by w m page false m.region))
        (Missing s page (keeper w s page)) found) o ≡ Home t there
    by (Some words) found reads h = h
    by None None reads h = cc
    by None (Some m) reads h = through m (led_by w m page true m.region) refl reads h

pub reads-where-writes : (w : World) (s : Path) (address : ℕ) (t : Path) (page : ℕ) →
    reach_word w s address true ≡ Home t page → reach_word w s address false ≡ Home t page
unfolding reach
reads-where-writes w s address t page h = by (nat_lt address SPACE_WORDS) h
  where
    by : (test : Bool) → (if test then reach w s (address / PAGE_WORDS) true else Bad) ≡ Home t page →
        (if test then reach w s (address / PAGE_WORDS) false else Bad) ≡ Home t page
    by true h = read-within MAPPINGS w s (address / PAGE_WORDS) t page h
    by false h = cc

-- ---- a page that is there gets other words, and a call of a thread ends: every access comes to where it came

module _ (w : World) (t : Path) (page : ℕ) (put : List ℕ) (x : Path) (thread : Thread)
    (there : w.body x ≡ Some (Thread_of thread)) (page-there : IsSome (w.page t page)) where
  abbrev after : World
  after = apply_all (PutPage t page put ∷ Alter x (Finish []) ∷ []) w

  mapping-same : (q : Path) → and_then mapping_of (after.body q) ≡ and_then mapping_of (w.body q)
  unfolding apply apply_all edited
  mapping-same q = by (same_path q x) refl
    where
      by : (test : Bool) → same_path q x ≡ test →
          and_then mapping_of (if test then option_map (edited (Finish [])) (w.body q) else w.body q) ≡ and_then mapping_of (w.body q)
      by true h = let here = same_path_eq q x h in rw (here, there) refl
      by false h = refl

  region-same : (q : Path) → and_then region_of (after.body q) ≡ and_then region_of (w.body q)
  unfolding apply apply_all edited
  region-same q = by (same_path q x) refl
    where
      by : (test : Bool) → same_path q x ≡ test →
          and_then region_of (if test then option_map (edited (Finish [])) (w.body q) else w.body q) ≡ and_then region_of (w.body q)
      by true h = let here = same_path_eq q x h in rw (here, there) refl
      by false h = refl

  home-same : (home away : Reach) (s : Path) (other : ℕ) → at_home home away (after.page s other) ≡ at_home home away (w.page s other)
  unfolding apply apply_all
  home-same home away s other = by (same_path s t && other == page) refl
    where
      at-home : (o : Option (List ℕ)) → IsSome o → home ≡ at_home home away o
      at-home (Some words) some = refl
      at-home None some = cc

      by : (test : Bool) → (same_path s t && other == page) ≡ test →
          at_home home away (if test then Some put else w.page s other) ≡ at_home home away (w.page s other)
      by true h =
          let both = and_parts (same_path s t) _ h in
          let here = same_path_eq s t both.0 in
          let same = eqb-true other page both.1 in
          at-home (w.page s other) (rw (here, same) page-there)
      by false h = refl

  mapping_at-same : (s : Path) (other : ℕ) → mapping_at after s other ≡ mapping_at w s other
  unfolding mapping_at
  mapping_at-same s other =
      λ i. lowest SLOTS (λ k. and_then (λ (m : Window). if covers m.first m.count other then Some m else None) (mapping-same (k ∷ s) i))

  keeper-same : (s : Path) (other : ℕ) → keeper after s other ≡ keeper w s other
  unfolding keeper region_at
  keeper-same s other =
      λ i. and_then (λ (r : Extent). live_keeper r.keeper)
      (lowest SLOTS (λ k. and_then (λ (r : Extent). if covers r.first r.count other then Some r else None) (region-same (k ∷ s) i)))

  led-same : (m : Window) (other : ℕ) (write : Bool) (p : Ptr) → led_by after m other write p ≡ led_by w m other write p
  led-same m other write (At region) = ap (and_then (page_of_region m other write region)) (region-same region)
  led-same m other write p = refl

  within-same : (n : ℕ) (s : Path) (other : ℕ) (write : Bool) → reach_within n after s other write ≡ reach_within n w s other write
  unfolding reach_within
  within-same zero s other write =
      home-same _ _ s other
      ∙ (λ i. at_home (Home s other) (mapped (λ m. Bad) (Missing s other (keeper-same s other i)) (mapping_at-same s other i)) (w.page s other))
  within-same (suc n) s other write =
      home-same _ _ s other
      ∙ (λ i. at_home (Home s other) (mapped
      (λ m. followed (λ t further. within-same n t further write i) (led-same m other write m.region i))
      (Missing s other (keeper-same s other i)) (mapping_at-same s other i)) (w.page s other))

  pub reach_word-same : (s : Path) (address : ℕ) (write : Bool) → reach_word after s address write ≡ reach_word w s address write
  unfolding reach
  reach_word-same s address write =
      ap (λ r. if nat_lt address SPACE_WORDS then r else Bad) (within-same MAPPINGS s (address / PAGE_WORDS) write)
