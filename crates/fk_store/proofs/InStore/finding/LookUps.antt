-- Look-ups: what the world has at the path of a name is what the store has under the name.
use Rattle.std.proofs.Common.{◌≡◌, ℕ, Bool, true, false, List, [], ◌∷◌, Option, Some, None, option_map, is_some, refl, sym, ap, ◌∙◌}
use Rattle.std.specs.FinMap.{get}
use Rattle.fk_model.specs.declared.names.Who.{Who}
use Rattle.fk_model.specs.declared.body.Body as bodies_of
use Rattle.fk_model.specs.declared.body.Body.TheVariants as bodies
use Rattle.fk_model.specs.Places.{Path}
use Rattle.fk_model.specs.Objects.{kind_of, and_then}
use Rattle.fk_model.specs.Valid as valid
use Rattle.fk_model.specs.Valid.{kind_there, birth_at}
use Rattle.fk_store.specs.Store.Names.{at}
use Rattle.fk_store.specs.Store.Contents.{Contents, stored_birth, birth_there, is_live}
use Rattle.fk_store.specs.Store.Paths.{place, path, space_at, IsAtHome}
use Rattle.fk_store.specs.Store.Bodies.{body_by}
use Rattle.fk_store.specs.Store.World.{world, IsLive, IsSpace}
use Rattle.fk_store.specs.Store.WellFormed.{is_there, IsWellFormed}
use Rattle.fk_store.proofs.InStore.finding.Walks.{space_at-path, space_at-lost, live-space_at, path-home}

pub some_mapped : {A B : Type 0} (f : A → B) (o : Option A) → is_some (option_map f o) ≡ is_some o
some_mapped f None = refl
some_mapped f (Some a) = refl

birth_by : (path : ℕ → Path) (b : bodies_of.Body) → valid.birth_of (body_by path b) ≡ stored_birth b
birth_by path (bodies.Mutex locked) = refl
birth_by path bodies.Cond = refl
birth_by path (bodies.Mapping first count offset write region) = refl
birth_by path (bodies.Region first count write keeper) = refl
birth_by path (bodies.Port set served) = refl
birth_by path bodies.Portset = refl
birth_by path (bodies.Space birth holder) = refl
birth_by path (bodies.Thread thread) = refl
birth_by path (bodies.Reference to) = refl

birth_mapped : (path : ℕ → Path) (o : Option bodies_of.Body) → and_then valid.birth_of (option_map (body_by path) o) ≡ and_then stored_birth o
birth_mapped path None = refl
birth_mapped path (Some b) = birth_by path b

-- the birth numbers of the world are those that a walk down meets
pub birth_at-space_at : (m : Contents) (s : Path) → birth_at (world m) s ≡ space_at m s
unfolding world space_at
birth_at-space_at m [] = refl
birth_at-space_at m (k ∷ s) = by (space_at m s)
  where
    by : (o : Option ℕ) →
        and_then valid.birth_of (and_then (λ n. option_map (body_by (path m)) (get m.bodies (at n k))) o) ≡ and_then (λ n. birth_there m (at n k)) o
    by None = refl
    by (Some n) = birth_mapped (path m) (get m.bodies (at n k))

module _ (m : Contents) (kept : IsWellFormed m) where
  -- an object is looked up by its path
  pub body-place : (who : Who) → (world m).body (place (path m) who) ≡ option_map (body_by (path m)) (get m.bodies who)
  unfolding world
  body-place who = by (is_live m who.space) refl
    where
      none : (o : Option bodies_of.Body) → get m.bodies who ≡ o → is_live m who.space ≡ false → None ≡ option_map (body_by (path m)) o
      none None e lost = refl
      none (Some b) e lost = let there : is_there m who ≡ true = rw e refl in let live = kept.housed who there in absurd (cc)

      by : (b : Bool) → is_live m who.space ≡ b → and_then (λ n. option_map (body_by (path m)) (get m.bodies (at n who.slot)))
          (space_at m (path m who.space)) ≡ option_map (body_by (path m)) (get m.bodies who)
      by true live = rw (space_at-path m kept who.space live) refl
      by false lost = rw (space_at-lost m kept who.space lost) (none (get m.bodies who) refl lost)

  -- and a page
  pub page-path : (space page : ℕ) → (world m).page (path m space) page ≡ get m.pages (space, page)
  unfolding world
  page-path space page = by (is_live m space) refl
    where
      none : (o : Option (List ℕ)) → get m.pages (space, page) ≡ o → is_live m space ≡ false → None ≡ o
      none None e lost = refl
      none (Some b) e lost = let there : is_some (get m.pages (space, page)) ≡ true = rw e refl in let live = kept.paged space page there in absurd (cc)

      by : (b : Bool) → is_live m space ≡ b → and_then (λ n. get m.pages (n, page)) (space_at m (path m space)) ≡ get m.pages (space, page)
      by true live = rw (space_at-path m kept space live) refl
      by false lost = rw (space_at-lost m kept space lost) (none (get m.pages (space, page)) refl lost)

  -- what is there by name is there by path
  pub some-live : (who : Who) → is_some (kind_there (world m) (place (path m) who)) ≡ is_there m who
  unfolding kind_there
  some-live who = some_mapped kind_of _ ∙ ap is_some (body-place who) ∙ some_mapped (body_by (path m)) (get m.bodies who)

  pub there-IsLive : (who : Who) → is_there m who ≡ true → IsLive m who
  there-IsLive who h = some-live who ∙ h

  pub IsLive-there : (who : Who) → IsLive m who → is_there m who ≡ true
  IsLive-there who h = sym (some-live who) ∙ h

  pub live-IsSpace : (n : ℕ) → is_live m n ≡ true → IsSpace m n
  live-IsSpace n h = birth_at-space_at m (path m n) ∙ space_at-path m kept n h

  pub IsSpace-live : (n : ℕ) → IsSpace m n → is_live m n ≡ true
  IsSpace-live n h = live-space_at m kept (path m n) n (sym (birth_at-space_at m (path m n)) ∙ h)

  -- a space stands where its path says
  pub there-IsAtHome : (who : Who) (b : bodies_of.Body) → get m.bodies who ≡ Some b → IsAtHome (path m) who b
  there-IsAtHome who (bodies.Mutex locked) h = tt
  there-IsAtHome who bodies.Cond h = tt
  there-IsAtHome who (bodies.Mapping first count offset write region) h = tt
  there-IsAtHome who (bodies.Region first count write keeper) h = tt
  there-IsAtHome who (bodies.Port set served) h = tt
  there-IsAtHome who bodies.Portset h = tt
  there-IsAtHome who (bodies.Space birth holder) h = path-home m kept birth who (kept.alone who birth (rw h refl))
  there-IsAtHome who (bodies.Thread thread) h = tt
  there-IsAtHome who (bodies.Reference to) h = tt
