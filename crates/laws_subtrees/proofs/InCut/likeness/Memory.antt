-- Pages are reached alike in a likeness.
use Rattle.std.proofs.Common.{◌≡◌, ℕ, zero, suc, ◌+◌, ◌-◌, ◌/◌, Bool, true, false, cond, ltb, leb, List, [], ◌∷◌, ◌++◌, Option, Some, None, IfSome, option_map}
use Rattle.std.proofs.Common.{refl, ap}
use Rattle.fk_model.specs.declared.limits.TheConstants.{SLOTS, MAPPINGS, PAGES, PAGE_WORDS, SPACE_WORDS}
use Rattle.fk_model.specs.declared.names.Kind.TheVariants as kinds
use Rattle.fk_model.specs.Places.{Path, Ptr}
use Rattle.fk_model.specs.Objects.{Window, Extent, Body, kind_of, mapping_of, region_of, covers, and_then}
use Rattle.fk_model.specs.Objects.Body.{Mapping, Region, Space}
use Rattle.fk_model.specs.World.{World}
use Rattle.fk_model.specs.Searches.{lowest}
use Rattle.fk_model.specs.Reach.{Reach, mapping_at, region_at, live_keeper, keeper, page_of_region, led_by, followed, mapped, at_home, reach_within, reach}
use Rattle.fk_model.specs.Reach.{reach_word, words_at}
use Rattle.fk_model.specs.Reach.Reach.{Missing, Bad}
use Rattle.fk_model.specs.SpaceRows.{next_page}
use Rattle.fk_model.specs.Valid.{kind_there}
use Rattle.fk_model.specs.Cut.{seen_by, unheld}
use Rattle.laws_subtrees.specs.Cut.Likeness.{seeing, seen_window, seen_extent, PtrLikeness, HasLikeness, IsPlainBody, IsLikeness, AlikeOptions, IsSeenAs}
use Rattle.laws_subtrees.specs.Cut.Likeness.{IsSeenWindow}
use Rattle.laws_subtrees.specs.Cut.Likeness.{IsSeenExtent, IsSeenPlace, ReachLikeness}
use Rattle.laws_subtrees.specs.Cut.Likeness.PtrLikeness.{Nulls, Deads, Inside, PortAt, PortOut}
use Rattle.laws_subtrees.specs.Cut.Likeness.ReachLikeness.{Homes, Misses, Bads}
use Rattle.laws_subtrees.proofs.InCut.likeness.Alike.{alike_and_then, alike_cond, alike_lowest}

-- a port is no region, nor is a space
port_no_region : (v : Option Body) → and_then (λ b. Some (kind_of b)) v ≡ Some kinds.Port → and_then region_of v ≡ None
port_no_region (Some (Region r)) h = cc
port_no_region None h = refl
port_no_region (Some b) h = refl

pub space_body : (v : Option Body) → option_map kind_of v ≡ Some kinds.Space → (birth : ℕ) × (holder : Option Ptr) × (v ≡ Some (Space birth holder))
space_body (Some (Space birth holder)) h = (birth, holder, refl)
space_body (Some b) h = cc
space_body None h = cc

module _ {root : Path} {see : Ptr → Ptr} {small big : World} (like : IsLikeness root see small big) where
  pub root_space : (birth : ℕ) × (holder : Option Ptr) × (big.body root ≡ Some (Space birth holder))
  unfolding kind_there
  root_space = space_body (big.body root) like.top

  pub root_seen : small.body [] ≡ Some (Space zero None)
  unfolding seen_by
  root_seen = rw (like.bodies [], root_space.2) refl

  -- ---- mappings, regions and keepers

  pub mapping_at-like : (q : Path) (page : ℕ) → AlikeOptions (IsSeenWindow root see big) (mapping_at small q page) (mapping_at big (q ++ root) page)
  unfolding mapping_at seen_by
  mapping_at-like q page =
      alike_lowest (IsSeenWindow root see big) SLOTS _ _ (λ k. rw (like.bodies (k ∷ q)) (by k (big.body (k ∷ (q ++ root))) (like.plain k q)))
    where
      by : (k : ℕ) (v : Option Body) → IfSome v (IsPlainBody see (HasLikeness root see big)) →
          AlikeOptions (IsSeenWindow root see big) (and_then (λ (m : Window). cond (covers m.first m.count page) (Some m) None)
          (and_then mapping_of (option_map (λ b. unheld (k ∷ q) (seen_by (seeing see) b)) v)))
          (and_then (λ (m : Window). cond (covers m.first m.count page) (Some m) None) (and_then mapping_of v))
      by k (Some (Mapping m)) h = alike_cond (IsSeenWindow root see big) (covers m.first m.count page) (seen_window see m) m (refl, h)
      by k (Some b) h = tt
      by k None h = tt

  region-alike : (k : ℕ) (q : Path) →
      AlikeOptions (IsSeenExtent root see big) (and_then region_of (small.body (k ∷ q))) (and_then region_of (big.body (k ∷ (q ++ root))))
  unfolding seen_by
  region-alike k q = rw (like.bodies (k ∷ q)) (by (big.body (k ∷ (q ++ root))) (like.plain k q))
    where
      by : (v : Option Body) → IfSome v (IsPlainBody see (HasLikeness root see big)) →
          AlikeOptions (IsSeenExtent root see big) (and_then region_of (option_map (λ b. unheld (k ∷ q) (seen_by (seeing see) b)) v)) (and_then region_of v)
      by (Some (Region r)) h = (refl, h)
      by (Some b) h = tt
      by None h = tt

  covering : (page : ℕ) (seen r : Extent) → IsSeenExtent root see big seen r →
      AlikeOptions (IsSeenExtent root see big) (cond (covers seen.first seen.count page) (Some seen) None) (cond (covers r.first r.count page) (Some r) None)
  covering page seen r h = rw h.0 (alike_cond (IsSeenExtent root see big) (covers r.first r.count page) (seen_extent see r) r (refl, h.1))

  pub region_at-like : (q : Path) (page : ℕ) → AlikeOptions (IsSeenExtent root see big) (region_at small q page) (region_at big (q ++ root) page)
  unfolding region_at
  region_at-like q page = alike_lowest (IsSeenExtent root see big)
      SLOTS _ _ (λ k. alike_and_then (IsSeenExtent root see big) (IsSeenExtent root see big) _ _ _ _ (region-alike k q) (covering page))

  live_keeper-like : (p seen : Ptr) → PtrLikeness root big p seen → seen ≡ see p → AlikeOptions (IsSeenAs root see big) (live_keeper seen) (live_keeper p)
  live_keeper-like _ _ Nulls e = tt
  live_keeper-like _ _ Deads e = tt
  live_keeper-like _ _ (Inside x) e = (e, rw (← e) (Inside x))
  live_keeper-like _ _ (PortAt x slot apart port) e = (e, rw (← e) (PortAt x slot apart port))
  live_keeper-like _ _ (PortOut old slot) e = (e, rw (← e) (PortOut old slot))

  pub keeper-like : (q : Path) (page : ℕ) → AlikeOptions (IsSeenAs root see big) (keeper small q page) (keeper big (q ++ root) page)
  unfolding keeper
  keeper-like q page = alike_and_then (IsSeenExtent root see big) (IsSeenAs root see big) (region_at small q page)
      (region_at big (q ++ root) page) _ _ (region_at-like q page) (λ seen r h. rw h.0 (live_keeper-like r.keeper (see r.keeper) h.1 refl))

  -- ---- reach

  page_in-like : (m : Window) (page : ℕ) (write : Bool) (k : ℕ) (q : Path) (seen r : Extent) → IsSeenExtent root see big seen r →
      AlikeOptions (IsSeenPlace root) (page_of_region (seen_window see m) page write (k ∷ q) seen) (page_of_region m page write (k ∷ (q ++ root)) r)
  page_in-like m page write k q seen r h =
      rw h.0 (alike_cond (IsSeenPlace root) _ (q, r.first + (m.offset + (page - m.first))) (q ++ root, r.first + (m.offset + (page - m.first))) (refl, refl))

  led_by-like : (m : Window) (page : ℕ) (write : Bool) (p seen : Ptr) →
      PtrLikeness root big p seen → AlikeOptions (IsSeenPlace root) (led_by small (seen_window see m) page write seen) (led_by big m page write p)
  led_by-like m page write _ _ Nulls = tt
  led_by-like m page write _ _ Deads = tt
  led_by-like m page write _ _ (Inside []) = rw (root_seen, root_space.2) tt
  led_by-like m page write _ _ (Inside (k ∷ q)) = alike_and_then (IsSeenExtent root see big) (IsSeenPlace root)
      (and_then region_of (small.body (k ∷ q))) (and_then region_of (big.body (k ∷ (q ++ root)))) _ _ (region-alike k q) (page_in-like m page write k q)
  led_by-like m page write _ _ (PortAt x slot apart port) = rw (port_no_region (big.body x) port) tt
  led_by-like m page write _ _ (PortOut old slot) = tt

  at_home-like : (home away near far : Reach) (o : Option (List ℕ)) →
      ReachLikeness root see big home near → ReachLikeness root see big away far → ReachLikeness root see big (at_home home away o) (at_home near far o)
  at_home-like home away near far None h g = g
  at_home-like home away near far (Some words) h g = h

  mapped-like : (go : Window → Reach) (on : Window → Reach) (missing lost : Reach) (o p : Option Window) → AlikeOptions (IsSeenWindow root see big) o p →
      ((m : Window) → HasLikeness root see big m.region → ReachLikeness root see big (go (seen_window see m)) (on m)) →
      ReachLikeness root see big missing lost →
      ReachLikeness root see big (mapped go missing o) (mapped on lost p)
  mapped-like go on missing lost None None h f g = g
  mapped-like go on missing lost (Some seen) (Some m) h f g = rw h.0 (f m h.1)
  mapped-like go on missing lost None (Some m) h f g = absurd h
  mapped-like go on missing lost (Some seen) None h f g = absurd h

  followed-like : (go on : Path → ℕ → Reach) (o p : Option (Path × ℕ)) → AlikeOptions (IsSeenPlace root) o p →
      ((q : Path) (page : ℕ) → ReachLikeness root see big (go q page) (on (q ++ root) page)) → ReachLikeness root see big (followed go o) (followed on p)
  followed-like go on None None h f = Bads
  followed-like go on (Some place) (Some there) h f = rw (h.0, ← h.1) (f place.0 place.1)
  followed-like go on None (Some there) h f = absurd h
  followed-like go on (Some place) None h f = absurd h

  missing-like : (q : Path) (page : ℕ) →
      ReachLikeness root see big (Missing q page (keeper small q page)) (Missing (q ++ root) page (keeper big (q ++ root) page))
  missing-like q page = Misses q page (keeper small q page) (keeper big (q ++ root) page) (keeper-like q page)

  pub reach_by-like : (fuel : ℕ) (q : Path) (page : ℕ) (write : Bool) →
      ReachLikeness root see big (reach_within fuel small q page write) (reach_within fuel big (q ++ root) page write)
  unfolding reach_within
  reach_by-like zero q page write =
      rw (like.pages q page)
      (at_home-like _ _ _ _ (big.page (q ++ root) page) (Homes q page)
      (mapped-like _ _ _ _ (mapping_at small q page) (mapping_at big (q ++ root) page) (mapping_at-like q page) (λ m h. Bads) (missing-like q page)))
  reach_by-like (suc fuel) q page write =
      rw (like.pages q page)
      (at_home-like _ _ _ _ (big.page (q ++ root) page) (Homes q page)
      (mapped-like _ _ _ _ (mapping_at small q page) (mapping_at big (q ++ root) page) (mapping_at-like q page)
      (λ m h. followed-like (λ t other. reach_within fuel small t other write) (λ t other. reach_within fuel big t other write)
      _ _ (led_by-like m page write m.region (see m.region) h) (λ t other. reach_by-like fuel t other write))
      (missing-like q page)))

  pub reach-like : (q : Path) (page : ℕ) (write : Bool) → ReachLikeness root see big (reach small q page write) (reach big (q ++ root) page write)
  unfolding reach
  reach-like q page write = reach_by-like MAPPINGS q page write

  -- a word is reached alike
  pub reach_word-like : (q : Path) (address : ℕ) (write : Bool) →
      ReachLikeness root see big (reach_word small q address write) (reach_word big (q ++ root) address write)
  reach_word-like q address write = by (ltb address SPACE_WORDS)
    where
      by : (t : Bool) →
          ReachLikeness root see big (cond t (reach small q (address / PAGE_WORDS) write) Bad) (cond t (reach big (q ++ root) (address / PAGE_WORDS) write) Bad)
      by true = reach-like q (address / PAGE_WORDS) write
      by false = Bads

  -- ---- pages themselves

  pub words_at-like : (q : Path) (page : ℕ) → words_at small q page ≡ words_at big (q ++ root) page
  words_at-like q page = rw (like.pages q page) refl

  pub next_page-like : (q : Path) (from : ℕ) → next_page small q from ≡ next_page big (q ++ root) from
  unfolding next_page
  next_page-like q from = ap (λ (pages : ℕ → Option (List ℕ)). lowest PAGES (λ page. cond (leb from page) (option_map (λ words. page) (pages page)) None))
      (λ i page. like.pages q page i)
