-- An access of memory comes to a page that is there, or raises a fault that is told to a port.
use Rattle.std.proofs.Common.{◌≡◌, ℕ, zero, suc, ◌/◌, Bool, true, false, if◌then◌else◌, nat_lt, List, [], ◌∷◌, Option, Some, None, refl}
use Rattle.std.proofs.lemmas.Bool.{and_parts}
use Rattle.fk_model.specs.declared.limits.TheConstants.{SLOTS, MAPPINGS, PAGE_WORDS, SPACE_WORDS}
use Rattle.fk_model.specs.declared.names.Kind.TheVariants as kinds
use Rattle.fk_model.specs.Places.{Path, Ptr}
use Rattle.fk_model.specs.Places.Ptr.{At, Out}
use Rattle.fk_model.specs.Objects.{Window, Extent, Body, region_of, covers, and_then}
use Rattle.fk_model.specs.Objects.Body.{Region}
use Rattle.fk_model.specs.World.{World}
use Rattle.fk_model.specs.Reach.{Reach, region_at, mapping_at, live_keeper, keeper, led_by, followed, mapped, at_home, reach_within, reach, reach_word}
use Rattle.fk_model.specs.Reach.Reach.{Home, Missing, Bad}
use Rattle.fk_model.specs.Records.{is_page_range}
use Rattle.fk_model.specs.Valid.{IsConsistent, kind_there, leads_there, may_lead, all_in, is_good, HasPlace, IsPaged}
use Rattle.fk_model.proofs.walks.Lowest.{lowest-found}
use Rattle.laws_moves.proofs.InMachine.safety.Safe.{IfAny}
use Rattle.laws_moves.proofs.InMachine.safety.Reads.{Facts}

-- what stands in a valid world is good
pub good-at : (w : World) → IsConsistent w → (x : Path) (b : Body) → w.body x ≡ Some b → is_good (kind_there w) x b ≡ true
good-at w valid x b there = rw there at (valid.good x)

-- ---- a keeper is a port

abbrev LeadsToPort : World → Ptr → Type 0
LeadsToPort w port = leads_there (kind_there w) (kinds.Port ∷ []) port ≡ true

live_keeper-leads : (w : World) (p port : Ptr) → may_lead (kind_there w) (kinds.Port ∷ []) p ≡ true → live_keeper p ≡ Some port → LeadsToPort w port
live_keeper-leads w (At x) port may live = let same : port ≡ At x = cc in rw same may
live_keeper-leads w (Out slot) port may live = let same : port ≡ Out slot = cc in rw same refl
live_keeper-leads w p port may live = cc

extent-port : (w : World) →
    IsConsistent w → (x : Path) (r : Extent) → and_then region_of (w.body x) ≡ Some r → may_lead (kind_there w) (kinds.Port ∷ []) r.keeper ≡ true
extent-port w valid x r seen = by (w.body x) (valid.good x) seen
  where
    by : (o : Option Body) →
        all_in (is_good (kind_there w) x) o ≡ true → and_then region_of o ≡ Some r → may_lead (kind_there w) (kinds.Port ∷ []) r.keeper ≡ true
    by None good h = cc
    by (Some (Region old)) good h = let same : r ≡ old = cc in rw same ((and_parts (is_page_range old.first old.count) _ good).1)
    by (Some b) good h = cc

keeper-leads : (w : World) → IsConsistent w → (s : Path) (page : ℕ) (port : Ptr) → keeper w s page ≡ Some port → LeadsToPort w port
unfolding keeper region_at
keeper-leads w valid s page port h = by (region_at w s page) refl h
  where
    one : (k : ℕ) (r : Extent) (o : Option Extent) → and_then region_of (w.body (k ∷ s)) ≡ o →
        and_then (λ (r : Extent). if covers r.first r.count page then Some r else None) o ≡ Some r → may_lead (kind_there w) (kinds.Port ∷ []) r.keeper ≡ true
    one k r None e h = cc
    one k r (Some old) e h = test (covers old.first old.count page) h
      where
        test : (t : Bool) → (if t then Some old else None) ≡ Some r → may_lead (kind_there w) (kinds.Port ∷ []) r.keeper ≡ true
        test true h = let same : r ≡ old = cc in rw same (extent-port w valid (k ∷ s) old e)
        test false h = cc

    by : (o : Option Extent) → region_at w s page ≡ o → and_then (λ (r : Extent). live_keeper r.keeper) o ≡ Some port → LeadsToPort w port
    by None e h = cc
    by (Some r) e h = let found = lowest-found SLOTS _ r e in live_keeper-leads w r.keeper port (one found.0 r _ refl found.1) h

-- ---- a missing page's keeper

abbrev pub GoodReach : World → Reach → Type 0
GoodReach w (Home s page) = HasPlace w s page
GoodReach w (Missing s page keeper) = IfAny (LeadsToPort w) keeper
GoodReach w Bad = Unit {0}

missing-good : (w : World) → IsConsistent w → (s : Path) (page : ℕ) → GoodReach w (Missing s page (keeper w s page))
missing-good w valid s page = by (keeper w s page) refl
  where
    by : (o : Option Ptr) → keeper w s page ≡ o → GoodReach w (Missing s page o)
    by None e = tt
    by (Some port) e = keeper-leads w valid s page port e

at_home-good : (w : World) → IsPaged w → (s : Path) (page : ℕ) (away : Reach) → GoodReach w away → GoodReach w (at_home (Home s page) away (w.page s page))
at_home-good w paged s page away good = by (w.page s page) refl
  where
    by : (o : Option (List ℕ)) → w.page s page ≡ o → GoodReach w (at_home (Home s page) away o)
    by None e = good
    by (Some words) e = paged s page (rw e refl)

mapped-good : (w : World) (go : Window → Reach) (missing : Reach) (o : Option Window) →
    GoodReach w missing → ((m : Window) → GoodReach w (go m)) → GoodReach w (mapped go missing o)
mapped-good w go missing None here there = here
mapped-good w go missing (Some m) here there = there m

followed-good : (w : World) (go : Path → ℕ → Reach) (o : Option (Path × ℕ)) → ((s : Path) (page : ℕ) → GoodReach w (go s page)) → GoodReach w (followed go o)
followed-good w go None good = tt
followed-good w go (Some place) good = good place.0 place.1

reach_by-good : (w : World) → IsConsistent w → IsPaged w → (n : ℕ) (s : Path) (page : ℕ) (write : Bool) → GoodReach w (reach_within n w s page write)
unfolding reach_within
reach_by-good w valid paged zero s page write =
    at_home-good w paged s page _ (mapped-good w (λ m. Bad) _ (mapping_at w s page) (missing-good w valid s page) (λ m. tt))
reach_by-good w valid paged (suc n) s page write =
    at_home-good w paged s page _ (mapped-good w _ _ (mapping_at w s page)
    (missing-good w valid s page) (λ m. followed-good w _ (led_by w m page write m.region) (λ t other. reach_by-good w valid paged n t other write)))

pub reach_word-good : (w : World) → Facts w → (s : Path) (address : ℕ) (write : Bool) → GoodReach w (reach_word w s address write)
unfolding reach
reach_word-good w facts s address write = by (nat_lt address SPACE_WORDS)
  where
    by : (t : Bool) → GoodReach w (if t then reach w s (address / PAGE_WORDS) write else Bad)
    by true = reach_by-good w facts.valid facts.paged MAPPINGS s (address / PAGE_WORDS) write
    by false = tt
