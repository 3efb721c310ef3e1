-- Holds: a walk up from an object to the outermost hold.
use Rattle.std.proofs.Common.{◌≡◌, ℕ, zero, suc, false, [], ◌∷◌, Option, Some, None, option_map, is_some, refl, sym, ap, subst, ◌∙◌, arith}
use Rattle.std.specs.Option.{option_or}
use Rattle.std.specs.FinMap.{get}
use Rattle.fk_model.specs.declared.names.Who.{Who}
use Rattle.fk_model.specs.declared.body.Body as bodies_of
use Rattle.fk_model.specs.declared.body.Body.TheVariants as bodies
use Rattle.fk_model.specs.Places.{Path, Ptr}
use Rattle.fk_model.specs.Places.Ptr.{At}
use Rattle.fk_model.specs.Objects.{and_then, or_else}
use Rattle.fk_model.specs.Holds.{holder_of, decider, is_frozen}
use Rattle.fk_store.specs.Freezing.Held.{is_held}
use Rattle.fk_store.specs.Store.Names.{at}
use Rattle.fk_store.specs.Store.Contents.{Contents, home, is_live}
use Rattle.fk_store.specs.Store.Paths.{place, path, space_at, HasOwnPath}
use Rattle.fk_store.specs.Store.Bodies.{body_by}
use Rattle.fk_store.specs.Store.Named.{Each}
use Rattle.fk_store.specs.Store.World.{world, IsLive}
use Rattle.fk_store.specs.Store.WellFormed.{IsWellFormed}
use Rattle.fk_store.proofs.InStore.finding.Homes.{home-found}
use Rattle.fk_store.proofs.InStore.finding.Walks.{not_root, path-root, path-lost, path-home, place-apart}
use Rattle.fk_store.proofs.InStore.finding.LookUps.{body-place, IsLive-there}

pub home-root : (m : Contents) → IsWellFormed m → home m 0 ≡ None
home-root m kept = by (home m 0) refl
  where
    by : (o : Option Who) → home m 0 ≡ o → o ≡ None
    by None e = refl
    by (Some who) e = let low = kept.younger who 0 (home-found m 0 who e) in absurd (omega arith)

module _ (m : Contents) (kept : IsWellFormed m) where
  -- nobody holds the root
  decider-root : decider (world m) [] ≡ None
  unfolding decider world
  decider-root = refl

  nothing_lost : (world m).body (256 ∷ []) ≡ None
  nothing_lost = by (get m.bodies (at 0 256)) refl
    where
      here : (world m).body (256 ∷ []) ≡ option_map (body_by (path m)) (get m.bodies (at 0 256))
      here = subst (λ s. (world m).body (256 ∷ s) ≡ option_map (body_by (path m)) (get m.bodies (at 0 256))) (path-root m) (body-place m kept (at 0 256))

      by : (o : Option bodies_of.Body) → get m.bodies (at 0 256) ≡ o → (world m).body (256 ∷ []) ≡ None
      by None e = here ∙ ap (option_map (body_by (path m))) e
      by (Some b) e = let low = kept.slots (at 0 256) (rw e refl) in absurd (omega arith)

  decider-lost : (n : ℕ) → is_live m n ≡ false → decider (world m) (path m n) ≡ None
  unfolding decider
  decider-lost n h = rw (path-lost m kept n h, decider-root, nothing_lost) refl

  -- a walk up ends where there is no home
  pub decider-none : (n : ℕ) → home m n ≡ None → decider (world m) (path m n) ≡ None
  decider-none zero h = rw (path-root m) decider-root
  decider-none (suc n) h = decider-lost (suc n) (rw (not_root (suc n) (omega arith), h) refl)

  -- and else goes on from there
  pub decider-home : (n : ℕ) (who : Who) →
      home m n ≡ Some who → decider (world m) (path m n) ≡ or_else (decider (world m) (path m who.space)) (holder_of ((world m).body (place (path m) who)))
  unfolding decider
  decider-home n who h = rw (path-home m kept n who h) refl

-- an object's decider is that of its space, or else its own holder
pub decider-object : (m : Contents) (who : Who) →
    decider (world m) (place (path m) who) ≡ or_else (decider (world m) (path m who.space)) (holder_of ((world m).body (place (path m) who)))
unfolding decider
decider-object m who = refl

or_else-assoc : {A : Type 0} (a b c : Option A) → or_else (or_else a b) c ≡ or_else a (or_else b c)
or_else-assoc None b c = refl
or_else-assoc (Some a) b c = refl

or_mapped : {A B : Type 0} (f : A → B) (a b : Option A) → option_map f (option_or a b) ≡ or_else (option_map f a) (option_map f b)
or_mapped f None b = refl
or_mapped f (Some a) b = refl

pub each-or : {A : Type 0} (P : A → Type 0) (a b : Option A) → Each P a → Each P b → Each P (option_or a b)
each-or P None b h k = k
each-or P (Some a) b h k = h

module _ (m : Contents) (kept : IsWellFormed m) (n : ℕ)
    (found : Option Who) (all : Option Ptr) (so_far : or_else (decider (world m) (path m n)) (option_map (λ q. At (place (path m) q)) found) ≡ all) where
  -- at the top the walk is done
  pub decided : home m n ≡ None → option_map (λ q. At (place (path m) q)) found ≡ all
  decided lost = sym (ap (λ o. or_else o (option_map (λ q. At (place (path m) q)) found)) (decider-none m kept n lost)) ∙ so_far

  -- a step up
  pub decided-above : (who : Who) (here : Option Who) →
      home m n ≡ Some who → option_map (λ q. At (place (path m) q)) here ≡ holder_of ((world m).body (place (path m) who)) →
      or_else (decider (world m) (path m who.space)) (option_map (λ q. At (place (path m) q)) (option_or here found)) ≡ all
  decided-above who here up is =
      ap (or_else (decider (world m) (path m who.space))) (or_mapped (λ q. At (place (path m) q)) here found)
      ∙ sym
      (or_else-assoc (decider (world m) (path m who.space)) (option_map (λ q. At (place (path m) q)) here) (option_map (λ q. At (place (path m) q)) found))
      ∙ ap (λ o. or_else o (option_map (λ q. At (place (path m) q)) found))
      (ap (or_else (decider (world m) (path m who.space))) is ∙ sym (decider-home m kept n who up))
      ∙ so_far

-- who decides has a path of its own
pub live-apart : (m : Contents) → IsWellFormed m → (found : Option Who) → Each (IsLive m) found → Each (HasOwnPath (path m)) found
live-apart m kept None h = tt
live-apart m kept (Some who) h = place-apart m kept who (kept.housed who (IsLive-there m kept who h))

pub is_frozen-none : (m : Contents) → IsWellFormed m → (n : ℕ) → home m n ≡ None → false ≡ is_frozen (world m) (path m n)
is_frozen-none m kept n h = rw (decider-none m kept n h) refl

pub is_frozen-some : (m : Contents) → IsWellFormed m → (n : ℕ) (who : Who) (found : Option Who) → home m n ≡ Some who →
    option_map (λ q. At (place (path m) q)) found ≡ decider (world m) (place (path m) who) → is_some found ≡ is_frozen (world m) (path m n)
is_frozen-some m kept n who found up is = rw (path-home m kept n who up, ← is) (by found)
  where
    by : (o : Option Who) → is_some o ≡ is_some (option_map (λ q. At (place (path m) q)) o)
    by None = refl
    by (Some q) = refl

-- ---- where nothing is held

pub holder_by : (p : ℕ → Path) (b : bodies_of.Body) → is_held b ≡ false → holder_of (Some (body_by p b)) ≡ None
holder_by p (bodies.Mutex locked) h = refl
holder_by p bodies.Cond h = refl
holder_by p (bodies.Mapping first count offset write region) h = refl
holder_by p (bodies.Region first count write keeper) h = refl
holder_by p (bodies.Port set served) h = refl
holder_by p bodies.Portset h = refl
holder_by p (bodies.Space birth None) h = refl
holder_by p (bodies.Space birth (Some who)) h = absurd (cc)
holder_by p (bodies.Thread thread) h = refl
holder_by p (bodies.Reference to) h = refl

module _ (m : Contents) (free : (who : Who) (b : bodies_of.Body) → get m.bodies who ≡ Some b → is_held b ≡ false) where
  holder-free : (x : Path) → holder_of ((world m).body x) ≡ None
  unfolding world
  holder-free [] = refl
  holder-free (k ∷ s) = by (space_at m s)
    where
      here : (n : ℕ) (o : Option bodies_of.Body) → get m.bodies (at n k) ≡ o → holder_of (option_map (body_by (path m)) o) ≡ None
      here n None e = refl
      here n (Some b) e = holder_by (path m) b (free (at n k) b e)

      by : (o : Option ℕ) → holder_of (and_then (λ n. option_map (body_by (path m)) (get m.bodies (at n k))) o) ≡ None
      by None = refl
      by (Some n) = here n (get m.bodies (at n k)) refl

  -- nobody decides
  pub decider-free : (x : Path) → decider (world m) x ≡ None
  unfolding decider
  decider-free [] = holder-free []
  decider-free (k ∷ x) = rw (decider-free x, holder-free (k ∷ x)) refl
