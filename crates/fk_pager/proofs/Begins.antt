-- A subtree that may be paged is one in which a pager may begin.
use Rattle.std.proofs.Common.{◌≡◌, ℕ, zero, suc, ◌<◌, Bool, true, ◌==◌, if◌then◌else◌, ◌∷◌, Option, Some, None, option_map, refl, ap, ◌∙◌, arith, eqb-true}
use Rattle.std.proofs.lemmas.Bool.{and_parts, ltb-true, lt-ltb, le-leb}
use Rattle.fk_model.specs.declared.limits.TheConstants.{SLOTS, PAGES}
use Rattle.fk_model.specs.declared.names.Kind.TheVariants as kinds
use Rattle.fk_model.specs.Places.{Path}
use Rattle.fk_model.specs.Places.Ptr.{At}
use Rattle.fk_model.specs.Objects.{Window, Extent, Body, region_of, thread_of, kind_of, covers, and_then, or_else, holds}
use Rattle.fk_model.specs.Objects.Body.{Thread_of}
use Rattle.fk_model.specs.World.{World}
use Rattle.fk_model.specs.Searches.{lowest, thread_at}
use Rattle.fk_model.specs.Reach.{mapping_at, region_at, keeper}
use Rattle.fk_model.specs.Valid.{kind_there}
use Rattle.fk_model.proofs.walks.Lowest.{lowest_none}
use Rattle.fk_model.proofs.walks.PlaceLaws.{leads_to_at}
use Rattle.fk_pager.specs.Desks.{root, first_region, keeps_all, HasDesk}
use Rattle.fk_pager.specs.Unseen.{DesksAreFirst}

-- ---- the lowest that answers

lowest-below : {A : Type 0} (n : ℕ) (f : ℕ → Option A) → ((k : ℕ) → k < n → f k ≡ None) → lowest n f ≡ None
unfolding lowest
lowest-below zero f none = refl
lowest-below (suc n) f none = rw (lowest-below n f (λ k less. none k (omega (arith, less))), none n (omega arith)) refl

-- what passes a test of its own is the lowest that does
lowest-passes : {A : Type 0} (n : ℕ) (f : ℕ → Option A) (g : A → Option A) (a : A) → lowest n f ≡ Some a → g a ≡ Some a →
    lowest n (λ k. and_then g (f k)) ≡ Some a
unfolding lowest
lowest-passes zero f g a found passes = cc
lowest-passes {A} (suc n) f g a found passes = by (lowest n f) refl found (λ below. lowest-passes n f g a below passes)
  where
    by : (o : Option A) → lowest n f ≡ o → or_else o (f n) ≡ Some a → (lowest n f ≡ Some a → lowest n (λ k. and_then g (f k)) ≡ Some a) →
        or_else (lowest n (λ k. and_then g (f k))) (and_then g (f n)) ≡ Some a
    by None e last rest =
        let none : lowest n (λ k. and_then g (f k)) ≡ None = lowest-below n _ (λ k less. ap (and_then g) (lowest_none n f e k less)) in
        rw (none, last) passes
    by (Some b) e last rest = rw (rest (e ∙ last)) refl

module _ (w : World) (slot port set : ℕ) (desk : HasDesk w slot port set) where
  abbrev space : Path
  space = slot ∷ root

  mapless-at : (page : ℕ) → mapping_at w space page ≡ None
  unfolding mapping_at
  mapless-at page = lowest-below SLOTS _ (λ k less. ap (and_then (λ (m : Window). if covers m.first m.count page then Some m else None)) (desk.mapless k))

  -- ---- its first region has every page

  covers-all : (first count page : ℕ) → (first == 0) ≡ true → (count == PAGES) ≡ true → page < 256 → covers first count page ≡ true
  covers-all first count page none all less = rw (eqb-true first 0 none, eqb-true count 256 all, le-leb 0 page (omega arith), lt-ltb page 256 less) refl

  kept-by : (page : ℕ) → page < 256 → (o : Option Extent) → first_region w space ≡ o → holds (keeps_all (port ∷ root)) o ≡ true →
      keeper w space page ≡ Some (At (port ∷ root))
  unfolding first_region region_at keeper
  kept-by page less None e kept = cc
  kept-by page less (Some r) e kept =
      let parts = and_parts _ _ kept in
      let more = and_parts (r.first == 0) (r.count == PAGES) parts.0 in
      let covering : (if covers r.first r.count page then Some r else None) ≡ Some r =
      ap (λ (b : Bool). if b then Some r else None) (covers-all r.first r.count page more.0 more.1 less) in
      let region : region_at w space page ≡ Some r =
      lowest-passes SLOTS (λ k. and_then region_of (w.body (k ∷ space))) (λ (x : Extent). if covers x.first x.count page then Some x else None) r e covering in
      rw (region, leads_to_at (port ∷ root) r.keeper parts.1) refl

-- the root is no thread
rootless : (w : World) → kind_there w root ≡ Some kinds.Space → thread_at w root ≡ None
unfolding kind_there
rootless w is = by (w.body root) is
  where
    by : (o : Option Body) → option_map kind_of o ≡ Some kinds.Space → and_then thread_of o ≡ None
    by None e = refl
    by (Some (Thread_of t)) e = cc
    by (Some b) e = refl

pub desks_are_first_lem : DesksAreFirst
desks_are_first_lem slot port set room w desk valid clear = record {
  root = rootless w valid.rooted.root;
  there = desk.space;
  mapless = mapless-at w slot port set desk;
  kept = λ page low. kept-by w slot port set desk page (ltb-true page 256 low) (first_region w (slot ∷ root)) refl desk.kept;
  few = λ page home. lt-ltb page 256 (valid.paged (slot ∷ root) page home).number;
  clear = clear;
}
