-- Memory is reached alike in a filled world, but where a page of the list is missed.
use Rattle.std.proofs.Common.{◌≡◌, ℕ, zero, suc, ◌/◌, Bool, true, false, cond, nat_lt, is_some, if◌then◌else◌, List, ◌∷◌, Option, Some, None, refl, sym, ap}
use Rattle.std.proofs.Common.{subst}
use Rattle.fk_model.specs.declared.limits.TheConstants.{SLOTS, MAPPINGS, PAGE_WORDS, SPACE_WORDS}
use Rattle.fk_model.specs.Places.{Path, same_path, Ptr}
use Rattle.fk_model.specs.Places.Ptr.{At}
use Rattle.fk_model.specs.Objects.{Window, Extent, Body, mapping_of, region_of, covers, and_then}
use Rattle.fk_model.specs.Objects.Body.{Thread_of}
use Rattle.fk_model.specs.World.{World}
use Rattle.fk_model.specs.Searches.{lowest}
use Rattle.fk_model.specs.Reach.{Reach, mapping_at, region_at, live_keeper, keeper, page_of_region, led_by, followed, mapped, at_home, reach_within, reach}
use Rattle.fk_model.specs.Reach.{reach_word, words_at}
use Rattle.fk_model.specs.Reach.Reach.{Home, Missing, Bad}
use Rattle.fk_model.proofs.walks.PlaceLaws.{same_path_eq}
use Rattle.laws_filled.specs.Filled.{Paging, is_listed, unfaulted, filled, IsPaging}
use Rattle.laws_filled.proofs.Reading.{IsBlind, view-same}

-- where a page is, and where it is once the world is filled
pub data Reached (p : Paging) (w : World) : Reach → Reach → Type 0 where
  AtHome : (s : Path) (page : ℕ) (words : List ℕ) → w.page s page ≡ Some words → Reached p w (Home s page) (Home s page)
  KeptBack : (s : Path) (page : ℕ) (there : Reach) → is_listed p page ≡ true → Reached p w (Missing s page (Some (At p.port))) there
  Missed : (s : Path) (page : ℕ) (keeper : Option Ptr) → Reached p w (Missing s page keeper) (Missing s page keeper)
  Nowhere : Reached p w Bad Bad

module _ (p : Paging) (w : World) where
  blind-mapping : IsBlind p mapping_of
  blind-mapping = record { same = by }
    where
      by : (b : Body) → mapping_of (unfaulted p b) ≡ mapping_of b
      by (Thread_of t) = refl
      by b = refl

  blind-region : IsBlind p region_of
  blind-region = record { same = by }
    where
      by : (b : Body) → region_of (unfaulted p b) ≡ region_of b
      by (Thread_of t) = refl
      by b = refl

  mapping-same : (s : Path) (page : ℕ) → mapping_at (filled p w) s page ≡ mapping_at w s page
  unfolding mapping_at
  mapping-same s page = λ i. lowest SLOTS (λ k. and_then (λ (m : Window). if covers m.first m.count page then Some m else None)
      (view-same p mapping_of blind-mapping (w.body (k ∷ s)) i))

  keeper-same : (s : Path) (page : ℕ) → keeper (filled p w) s page ≡ keeper w s page
  unfolding keeper region_at
  keeper-same s page = λ i. and_then (λ (r : Extent). live_keeper r.keeper) (lowest SLOTS (λ k. and_then
      (λ (r : Extent). if covers r.first r.count page then Some r else None) (view-same p region_of blind-region (w.body (k ∷ s)) i)))

  led-same : (m : Window) (page : ℕ) (write : Bool) (to : Ptr) → led_by (filled p w) m page write to ≡ led_by w m page write to
  led-same m page write (At region) = ap (and_then (page_of_region m page write region)) (view-same p region_of blind-region (w.body region))
  led-same m page write to = refl

  module _ (paging : IsPaging p w) where
    -- where a page isn't home
    away : (s : Path) (page : ℕ) (go go' : Window → Reach) → ((m : Window) → Reached p w (go m) (go' m)) → w.page s page ≡ None →
        Reached p w (mapped go (Missing s page (keeper w s page)) (mapping_at w s page))
        (at_home (Home s page) (mapped go' (Missing s page (keeper (filled p w) s page)) (mapping_at (filled p w) s page)) ((filled p w).page s page))
    away s page go go' going none = by (same_path s p.space) refl
      where
        gone : (there : Option (List ℕ)) → (o : Option Window) → Reached p w (mapped go (Missing s page (keeper w s page)) o)
            (mapped go' (Missing s page (keeper (filled p w) s page)) o)
        gone there None = rw (keeper-same s page) (Missed s page (keeper w s page))
        gone there (Some m) = going m

        listed : (o : Option (List ℕ)) → p.backing page ≡ o → same_path s p.space ≡ true →
            Reached p w (mapped go (Missing s page (keeper w s page)) (mapping_at w s page))
            (at_home (Home s page) (mapped go' (Missing s page (keeper (filled p w) s page)) (mapping_at (filled p w) s page)) o)
        listed None e here = rw (mapping-same s page) (gone None (mapping_at w s page))
        listed (Some words) e here = subst (λ (t : Path). Reached p w (mapped go (Missing t page (keeper w t page)) (mapping_at w t page)) (Home s page))
            (sym (same_path_eq s p.space here))
            (rw (paging.mapless page, paging.kept page (paging.few page (ap is_some e))) (KeptBack p.space page (Home s page) (ap is_some e)))

        by : (m : Bool) → same_path s p.space ≡ m →
            Reached p w (mapped go (Missing s page (keeper w s page)) (mapping_at w s page))
            (at_home (Home s page) (mapped go' (Missing s page (keeper (filled p w) s page)) (mapping_at (filled p w) s page)) ((filled p w).page s page))
        by true e = rw (none, e) (listed (p.backing page) refl e)
        by false e = rw (none, e, mapping-same s page) (gone None (mapping_at w s page))

    reached : (n : ℕ) (s : Path) (page : ℕ) (write : Bool) → Reached p w (reach_within n w s page write) (reach_within n (filled p w) s page write)
    unfolding reach_within
    reached zero s page write = by (w.page s page) refl
      where
        by : (o : Option (List ℕ)) → w.page s page ≡ o →
            Reached p w (at_home (Home s page) (mapped (λ m. Bad) (Missing s page (keeper w s page)) (mapping_at w s page)) o)
            (at_home (Home s page) (mapped (λ m. Bad) (Missing s page (keeper (filled p w) s page)) (mapping_at (filled p w) s page))
            ((filled p w).page s page))
        by (Some words) e = rw e (AtHome s page words e)
        by None e = away s page (λ m. Bad) (λ m. Bad) (λ m. Nowhere) e
    reached (suc n) s page write = by (λ t other. reached n t other write) (w.page s page) refl
      where
        go : World → Window → Reach
        go v m = followed (λ t other. reach_within n v t other write) (led_by v m page write m.region)

        following : ((t : Path) (other : ℕ) → Reached p w (reach_within n w t other write) (reach_within n (filled p w) t other write)) →
            (o : Option (Path × ℕ)) → Reached p w (followed (λ t other. reach_within n w t other write) o)
            (followed (λ t other. reach_within n (filled p w) t other write) o)
        following so_far None = Nowhere
        following so_far (Some place) = so_far place.0 place.1

        by : ((t : Path) (other : ℕ) → Reached p w (reach_within n w t other write) (reach_within n (filled p w) t other write)) →
            (o : Option (List ℕ)) → w.page s page ≡ o →
            Reached p w (at_home (Home s page) (mapped (go w) (Missing s page (keeper w s page)) (mapping_at w s page)) o)
            (at_home (Home s page) (mapped (go (filled p w)) (Missing s page (keeper (filled p w) s page)) (mapping_at (filled p w) s page))
            ((filled p w).page s page))
        by so_far (Some words) e = rw e (AtHome s page words e)
        by so_far None e = away s page (go w) (go (filled p w))
            (λ m. rw (led-same m page write m.region) (following so_far (led_by w m page write m.region))) e

    pub reached_word : (s : Path) (address : ℕ) (write : Bool) → Reached p w (reach_word w s address write) (reach_word (filled p w) s address write)
    unfolding reach
    reached_word s address write = by (nat_lt address SPACE_WORDS)
      where
        by : (b : Bool) → Reached p w (cond b (reach_within MAPPINGS w s (address / PAGE_WORDS) write) Bad)
            (cond b (reach_within MAPPINGS (filled p w) s (address / PAGE_WORDS) write) Bad)
        by true = reached MAPPINGS s (address / PAGE_WORDS) write
        by false = Nowhere

  -- the words of a page that is home
  pub words-same : (s : Path) (page : ℕ) (words : List ℕ) → w.page s page ≡ Some words → words_at (filled p w) s page ≡ words_at w s page
  words-same s page words there = rw there refl
