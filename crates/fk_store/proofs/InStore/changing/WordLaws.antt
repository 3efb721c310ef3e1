-- Words: a page that answers is there, and the keeper of a missing one too.
use Rattle.std.proofs.Common.{◌≡◌, ℕ, zero, suc, ◌/◌, ◌<◌, Bor, Bool, true, false, cond, if◌then◌else◌, List, ◌∷◌, Option, Some, None, option_map}
use Rattle.std.proofs.Common.{is_some, IsSome, refl, sym, ap, subst, ◌∙◌}
use Rattle.std.proofs.lemmas.Bool.{lt-ltb}
use Rattle.std.proofs.lemmas.Option.{same_Some}
use Rattle.std.specs.Option.{option_copied}
use Rattle.std.specs.FinMap.{get}
use Rattle.fk_model.specs.declared.names.Who.{Who}
use Rattle.fk_model.specs.declared.names.Ptr as named
use Rattle.fk_model.specs.declared.names.Ptr.TheVariants as pointers
use Rattle.fk_model.specs.declared.body.Body as bodies_of
use Rattle.fk_model.specs.declared.body.Body.TheVariants as bodies
use Rattle.fk_model.specs.declared.limits.TheConstants.{SLOTS, MAPPINGS, PAGE_WORDS, SPACE_WORDS}
use Rattle.fk_model.specs.Places.{Path}
use Rattle.fk_model.specs.Places.Ptr.{At}
use Rattle.fk_model.specs.Objects.{Window, Extent, region_of, covers, and_then}
use Rattle.fk_model.specs.World.{World}
use Rattle.fk_model.specs.Valid.{kind_there}
use Rattle.fk_model.specs.Reach as definition
use Rattle.fk_model.specs.Reach.Reach.{Home, Missing, Bad}
use Rattle.fk_model.specs.Reach.{at_home, mapped, followed, keeper, led_by, mapping_at, region_at, live_keeper}
use Rattle.fk_model.proofs.walks.Lowest.{lowest-found}
use Rattle.fk_store.specs.declared.store.reach.Reach as reaches_of
use Rattle.fk_store.specs.declared.store.reach.Reach.TheVariants as reaches
use Rattle.fk_store.specs.Store.Names.{at}
use Rattle.fk_store.specs.Store.Contents.{Contents}
use Rattle.fk_store.specs.Store.Paths.{place, path, space_at}
use Rattle.fk_store.specs.Store.Bodies.{body_by, pointer_by}
use Rattle.fk_store.specs.Store.Named.{Each, OnPointer, OnNamed}
use Rattle.fk_store.specs.Store.Reaches.{reach_by, keeper_by, covering_region}
use Rattle.fk_store.specs.Store.World.{world, IsLive}
use Rattle.fk_store.specs.Store.Words.{IsReached}
use Rattle.fk_store.specs.Store.WellFormed.{is_there, IsWellFormed}
use Rattle.fk_store.proofs.InStore.finding.LookUps.{page-path, there-IsLive, live-IsSpace}

-- ---- what a walk ends at

-- a page that answers is there; the keeper of a missing page is that of its own space
Ends : World → definition.Reach → Type 0
Ends w (Home s page) = IsSome (w.page s page)
Ends w (Missing s page port) = port ≡ keeper w s page
Ends w Bad = Unit {0}

home_or : (w : World) (s : Path) (page : ℕ) (away : definition.Reach) → Ends w away → Ends w (at_home (Home s page) away (w.page s page))
unfolding Ends
home_or w s page away ends = by (w.page s page) refl
  where
    by : (o : Option (List ℕ)) → w.page s page ≡ o → Ends w (at_home (Home s page) away o)
    by None e = ends
    by (Some words) e = ap is_some e

mapped_or : (w : World) (go : Window → definition.Reach) (missing : definition.Reach) (o : Option Window) →
    ((m : Window) → Ends w (go m)) → Ends w missing → Ends w (mapped go missing o)
mapped_or w go missing None all ends = ends
mapped_or w go missing (Some m) all ends = all m

followed_or : (w : World) (go : Path → ℕ → definition.Reach) (o : Option (Path × ℕ)) → ((s : Path) (page : ℕ) → Ends w (go s page)) → Ends w (followed go o)
unfolding Ends
followed_or w go None all = tt
followed_or w go (Some place) all = all place.0 place.1

reach_by-ends : (n : ℕ) (w : World) (s : Path) (page : ℕ) (write : Bool) → Ends w (definition.reach_within n w s page write)
unfolding definition.reach_within Ends
reach_by-ends zero w s page write = home_or w s page _ (mapped_or w _ _ (mapping_at w s page) (λ m. tt) refl)
reach_by-ends (suc n) w s page write = home_or w
    s page _ (mapped_or w _ _ (mapping_at w s page) (λ m. followed_or w _ (led_by w m page write m.region) (λ t other. reach_by-ends n w t other write)) refl)

reach-ends : (w : World) (s : Path) (page : ℕ) (write : Bool) → Ends w (definition.reach w s page write)
unfolding definition.reach
reach-ends w s page write = reach_by-ends MAPPINGS w s page write

-- a page that is there answers
pub reach_home : (w : World) (s : Path) (page : ℕ) (write : Bool) (words : List ℕ) → Some words ≡ w.page s page → definition.reach w s page write ≡ Home s page
unfolding definition.reach definition.reach_within
reach_home w s page write words there = ap (at_home (Home s page) _) (sym there)

pub reach_there : (w : World) (s : Path) (page : ℕ) (write : Bool) → is_some (w.page s page) ≡ true → definition.reach w s page write ≡ Home s page
reach_there w s page write some = by (w.page s page) refl some
  where
    by : (o : Option (List ℕ)) → w.page s page ≡ o → is_some o ≡ true → definition.reach w s page write ≡ Home s page
    by None e some = absurd (cc)
    by (Some words) e some = reach_home w s page write words (sym e)

-- ---- a region's keeper is there

module _ (m : Contents) (kept : IsWellFormed m) where
  -- a pointer of a region leads to what is there
  region-live : (b : bodies_of.Body) → OnNamed (λ other. is_there m other ≡ true) b →
      (r : Extent) → region_of (body_by (path m) b) ≡ Some r → (x : Path) → live_keeper r.keeper ≡ Some (At x) → IsSome (kind_there (world m) x)
  region-live (bodies.Mutex locked) on r is x leads = absurd (cc)
  region-live bodies.Cond on r is x leads = absurd (cc)
  region-live (bodies.Mapping first count offset write region) on r is x leads = absurd (cc)
  region-live (bodies.Port set served) on r is x leads = absurd (cc)
  region-live bodies.Portset on r is x leads = absurd (cc)
  region-live (bodies.Space birth holder) on r is x leads = absurd (cc)
  region-live (bodies.Thread thread) on r is x leads = absurd (cc)
  region-live (bodies.Reference to) on r is x leads = absurd (cc)
  region-live (bodies.Region first count write to) on r is x leads = by to on (subst (λ r. live_keeper r.keeper ≡ Some (At x)) (sym (same_Some _ _ is)) leads)
    where
      by : (p : named.Ptr) →
          OnPointer (λ other. is_there m other ≡ true) p → live_keeper (pointer_by (path m) p) ≡ Some (At x) → IsSome (kind_there (world m) x)
      by pointers.Null on leads = absurd (cc)
      by pointers.Dead on leads = absurd (cc)
      by (pointers.At who) on leads =
          let same : place (path m) who ≡ x = cc in
          subst (λ x. IsSome (kind_there (world m) x)) same (there-IsLive m kept who on)

  -- a region that stands somewhere is kept under a name
  at-live : (k : ℕ) (s : Path) (r : Extent) (x : Path) →
      and_then region_of ((world m).body (k ∷ s)) ≡ Some r → live_keeper r.keeper ≡ Some (At x) → IsSome (kind_there (world m) x)
  unfolding world
  at-live k s r x is leads = by (space_at m s) is
    where
      under : (who : Who) (o : Option bodies_of.Body) →
          get m.bodies who ≡ o → and_then region_of (option_map (body_by (path m)) o) ≡ Some r → IsSome (kind_there (world m) x)
      under who None e is = absurd (cc)
      under who (Some b) e is = region-live b (kept.leads who b e) r is x leads

      by : (o : Option ℕ) →
          and_then region_of (and_then (λ n. option_map (body_by (path m)) (get m.bodies (at n k))) o) ≡ Some r → IsSome (kind_there (world m) x)
      by None is = absurd (cc)
      by (Some n) is = under (at n k) (get m.bodies (at n k)) refl is

  covering-live : (s : Path) (page k : ℕ) (r : Extent) (x : Path) →
      covering_region (world m) s page k ≡ Some r → live_keeper r.keeper ≡ Some (At x) → IsSome (kind_there (world m) x)
  covering-live s page k r x is leads = by (and_then region_of ((world m).body (k ∷ s))) refl is
    where
      test : (old : Extent) (t : Bool) →
          cond t (Some old) None ≡ Some r → and_then region_of ((world m).body (k ∷ s)) ≡ Some old → IsSome (kind_there (world m) x)
      test old true is e = at-live k s r x (e ∙ is) leads
      test old false is e = absurd (cc)

      by : (o : Option Extent) → and_then region_of ((world m).body (k ∷ s)) ≡ o →
          and_then (λ (r : Extent). if covers r.first r.count page then Some r else None) o ≡ Some r → IsSome (kind_there (world m) x)
      by None e is = absurd (cc)
      by (Some old) e is = test old (covers old.first old.count page) is e

  keeper-live : (s : Path) (page : ℕ) (x : Path) → keeper (world m) s page ≡ Some (At x) → IsSome (kind_there (world m) x)
  unfolding keeper region_at
  keeper-live s page x is = by (region_at (world m) s page) refl is
    where
      by : (o : Option Extent) →
          region_at (world m) s page ≡ o → and_then (λ (r : Extent). live_keeper r.keeper) o ≡ Some (At x) → IsSome (kind_there (world m) x)
      by None e is = absurd (cc)
      by (Some r) e is = let found = lowest-found SLOTS _ r e in covering-live s page found.0 r x found.1 is

  -- ---- what a store's walk ends at
  pub reached : (space page : ℕ) (write : Bool) (r : reaches_of.Reach) →
      reach_by (path m) r ≡ definition.reach (world m) (path m space) page write → IsReached m r
  unfolding Ends
  reached space page write r is = by r (subst (Ends (world m)) (sym is) (reach-ends (world m) (path m space) page write))
    where
      port : (page s : ℕ) (o : Option Who) → keeper_by (path m) o ≡ keeper (world m) (path m s) page → Each (IsLive m) o
      port page s None e = tt
      port page s (Some who) e = keeper-live (path m s) page (place (path m) who) (sym e)

      by : (r : reaches_of.Reach) → Ends (world m) (reach_by (path m) r) → IsReached m r
      by (reaches.Home s page) ends = (live-IsSpace m kept s (kept.paged s page (sym (ap is_some (page-path m kept s page)) ∙ ends)), ends)
      by (reaches.Missing s page o) ends = port page s o ends
      by reaches.Bad ends = tt

  -- a page that is looked up is there, with its space
  pub page_found : (space page : ℕ) (found : Option (Bor (List ℕ))) →
      option_copied found ≡ get m.pages (space, page) → is_some found ≡ true → IsReached m (reaches.Home space page)
  page_found space page found is some = (live-IsSpace m kept space (kept.paged space page there), ap is_some (page-path m kept space page) ∙ there)
    where
      by : (o : Option (Bor (List ℕ))) → is_some o ≡ true → is_some (option_copied o) ≡ true
      by None some = some
      by (Some a) some = refl

      there : is_some (get m.pages (space, page)) ≡ true
      there = ap is_some (sym is) ∙ by found some

-- a page that is there answers at each of its words
pub reach_word_there : (w : World) (s : Path) (address : ℕ) (write : Bool) →
    address < SPACE_WORDS → is_some (w.page s (address / PAGE_WORDS)) ≡ true → Home s (address / PAGE_WORDS) ≡ definition.reach_word w s address write
reach_word_there w s address write low some = rw (lt-ltb address SPACE_WORDS low, reach_there w s (address / PAGE_WORDS) write some) refl
