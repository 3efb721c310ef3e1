-- Bare: slots of a space without mappings and regions.
use Rattle.std.proofs.Common.{◌≡◌, ℕ, suc, zero, ◌+◌, ◌<◌, ◌≤◌, Bool, true, false, not, ◌∷◌, Option, Some, None, option_map, refl, sym, ap, ◌∙◌, arith}
use Rattle.std.specs.FinMap.{get}
use Rattle.fk_model.specs.declared.names.Kind.{Kind}
use Rattle.fk_model.specs.declared.names.Kind.TheVariants as kinds
use Rattle.fk_model.specs.declared.body.Body.{Body}
use Rattle.fk_model.specs.declared.body.Body.TheVariants.{Mutex, Cond, Mapping, Region, Port, Portset, Space, Thread, Reference}
use Rattle.fk_model.specs.Places.{Path}
use Rattle.fk_model.specs.Objects.{kind_of, and_then, mapping_of, region_of}
use Rattle.fk_model.specs.Searches.{lowest}
use Rattle.fk_store.specs.Freezing.Marks.{is_of_pages}
use Rattle.fk_store.specs.Store.Names.{at}
use Rattle.fk_store.specs.Store.Contents.{Contents}
use Rattle.fk_store.specs.Store.Paths.{path}
use Rattle.fk_store.specs.Store.Bodies.{body_by}
use Rattle.fk_store.specs.Store.Reaches.{covering_mapping, covering_region}
use Rattle.fk_store.specs.Store.World.{world}
use Rattle.fk_store.specs.Store.WellFormed.{IsWellFormed}
use Rattle.fk_store.proofs.InStore.finding.LookUps.{body-place}
use Rattle.fk_store.proofs.InStore.finding.ReachLaws.{lowest-none}

abbrev pages_kind : Kind → Bool
pages_kind kinds.Mutex = false
pages_kind kinds.Cond = false
pages_kind kinds.Mapping = true
pages_kind kinds.Region = true
pages_kind kinds.Port = false
pages_kind kinds.Portset = false
pages_kind kinds.Space = false
pages_kind kinds.Thread = false
pages_kind kinds.Reference = false

by_kind : (p : ℕ → Path) (b : Body) → is_of_pages b ≡ pages_kind (kind_of (body_by p b))
by_kind p (Mutex locked) = refl
by_kind p Cond = refl
by_kind p (Mapping first count offset write region) = refl
by_kind p (Region first count write keeper) = refl
by_kind p (Port set served) = refl
by_kind p Portset = refl
by_kind p (Space birth holder) = refl
by_kind p (Thread thread) = refl
by_kind p (Reference to) = refl

-- bodies of one kind
pub pages-alike : (p : ℕ → Path) (a b : Body) → kind_of (body_by p a) ≡ kind_of (body_by p b) → is_of_pages a ≡ is_of_pages b
pages-alike p a b same = by_kind p a ∙ ap pages_kind same ∙ sym (by_kind p b)

no_mapping : (p : ℕ → Path) (b : Body) → is_of_pages b ≡ false → (mapping_of (body_by p b) ≡ None) × (region_of (body_by p b) ≡ None)
no_mapping p (Mutex locked) h = (refl, refl)
no_mapping p Cond h = (refl, refl)
no_mapping p (Mapping first count offset write region) h = absurd (cc)
no_mapping p (Region first count write keeper) h = absurd (cc)
no_mapping p (Port set served) h = (refl, refl)
no_mapping p Portset h = (refl, refl)
no_mapping p (Space birth holder) h = (refl, refl)
no_mapping p (Thread thread) h = (refl, refl)
no_mapping p (Reference to) h = (refl, refl)

module _ (m : Contents) (kept : IsWellFormed m) (space k : ℕ) (bare : (b : Body) → get m.bodies (at space k) ≡ Some b → is_of_pages b ≡ false) where
  none_of : (o : Option Body) → get m.bodies (at space k) ≡ o →
      (and_then mapping_of (option_map (body_by (path m)) o) ≡ None) × (and_then region_of (option_map (body_by (path m)) o) ≡ None)
  none_of None e = (refl, refl)
  none_of (Some b) e = no_mapping (path m) b (bare b e)

  none_there : (and_then mapping_of ((world m).body (k ∷ path m space)) ≡ None) × (and_then region_of ((world m).body (k ∷ path m space)) ≡ None)
  none_there =
      let here = body-place m kept (at space k) in
      let none = none_of (get m.bodies (at space k)) refl in
      (ap (and_then mapping_of) here ∙ none.0, ap (and_then region_of) here ∙ none.1)

  -- none covers a page
  pub bare-slot : (page : ℕ) → (covering_mapping (world m) (path m space) page k ≡ None) × (covering_region (world m) (path m space) page k ≡ None)
  bare-slot page = (ap (and_then _) none_there.0, ap (and_then _) none_there.1)

pub not_so : (b : Bool) → not b ≡ true → b ≡ false
not_so true h = absurd (cc)
not_so false h = refl

-- so many slots at which nothing is found
pub lowest-many : {A : Type 0} (n i : ℕ) (f : ℕ → Option A) → lowest i f ≡ None → ((k : ℕ) → i ≤ k → k < i + n → f k ≡ None) → lowest (i + n) f ≡ None
lowest-many zero i f before none = let same : i + 0 ≡ i = omega arith in ap (λ n. lowest n f) same ∙ before
lowest-many (suc n) i f before none =
    let same : i + suc n ≡ (i + n) + 1 = omega arith in
    ap (λ n. lowest n f) same
    ∙ lowest-none (i + n) f (lowest-many n i f before (λ k low high. none k low (omega arith))) (none (i + n) (omega arith) (omega arith))
