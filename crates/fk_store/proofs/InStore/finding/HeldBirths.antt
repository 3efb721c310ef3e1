-- HeldBirths: a space that is held has a birth number.
use Rattle.std.proofs.Common.{◌≡◌, ℕ, ◌<◌, true, List, [], ◌∷◌, Bor, Option, Some, None, option_map, IsSome, IfSome, refl, ap, ◌∙◌, arith}
use Rattle.std.specs.FinMap.{get}
use Rattle.fk_model.specs.declared.names.Who.{Who}
use Rattle.fk_model.specs.declared.body.Body as bodies_of
use Rattle.fk_model.specs.declared.body.Body.TheVariants as bodies
use Rattle.fk_model.specs.Holds.{holder_of}
use Rattle.fk_model.specs.Objects.{and_then, holds}
use Rattle.fk_model.proofs.walks.Members.{IsIn}
use Rattle.fk_model.specs.Places.{Path}
use Rattle.fk_store.specs.Freezing.Freezing.{is_held_at}
use Rattle.fk_store.specs.Freezing.Held.{is_held}
use Rattle.fk_store.specs.Store.Bodies.{body_by}
use Rattle.fk_store.specs.Store.Contents.{Contents, birth_there, stored_birth}
use Rattle.fk_store.specs.Store.Names.{at}
use Rattle.fk_store.specs.Store.Paths.{place, path, space_at}
use Rattle.fk_store.specs.Store.World.{world, IsSpace}
use Rattle.fk_store.specs.Store.WellFormed.{IsWellFormed}
use Rattle.fk_store.proofs.InStore.finding.LookUps.{live-IsSpace}
use Rattle.fk_store.proofs.InStore.finding.Walks.{live-home, path-home, path-space_at}

module _ (m : Contents) (kept : IsWellFormed m) where
  abbrev IsBorn : Path → Type 0
  IsBorn x = (n : ℕ) × (n < (world m).next) × (0 < n) × IsSpace m n × (path m n ≡ x)

  born : (x : Path) (who : Who) (n : ℕ) → birth_there m who ≡ Some n → place (path m) who ≡ x → IsBorn x
  unfolding world
  born x who n is stands =
      let here = kept.alone who n is in
      let low = kept.younger who n is in
      (n, kept.born who n is, omega (arith, low), live-IsSpace m kept n (live-home m kept n who here), path-home m kept n who here ∙ stands)

  -- and is held, where it stands
  abbrev Found : Path → Type 0
  Found x = (who : Who) × (n : ℕ) × (birth_there m who ≡ Some n) × (is_held_at m.bodies who ≡ true) × (place (path m) who ≡ x)

  there : (x : Path) (who : Who) (o : Option bodies_of.Body) → get m.bodies who ≡ o → IsSome (holder_of (option_map (body_by (path m)) o)) →
      place (path m) who ≡ x → Found x
  there x who None e h stands = absurd (cc)
  there x who (Some (bodies.Mutex locked)) e h stands = absurd (cc)
  there x who (Some bodies.Cond) e h stands = absurd (cc)
  there x who (Some (bodies.Mapping first count offset write region)) e h stands = absurd (cc)
  there x who (Some (bodies.Region first count write keeper)) e h stands = absurd (cc)
  there x who (Some (bodies.Port set served)) e h stands = absurd (cc)
  there x who (Some bodies.Portset) e h stands = absurd (cc)
  there x who (Some (bodies.Space birth None)) e h stands = absurd (cc)
  there x who (Some (bodies.Space birth (Some holder))) e h stands = (who, birth, ap (and_then stored_birth) e, ap (holds is_held) e, stands)
  there x who (Some (bodies.Thread thread)) e h stands = absurd (cc)
  there x who (Some (bodies.Reference to)) e h stands = absurd (cc)

  held-found : (x : Path) → IsSome (holder_of ((world m).body x)) → Found x
  unfolding world
  held-found [] h = absurd (cc)
  held-found (k ∷ s) h = by (space_at m s) refl h
    where
      by : (o : Option ℕ) → space_at m s ≡ o →
          IsSome (holder_of (and_then (λ n. option_map (body_by (path m)) (get m.bodies (at n k))) o)) → Found (k ∷ s)
      by None e h = absurd (cc)
      by (Some n) e h = there (k ∷ s) (at n k) (get m.bodies (at n k)) refl h (ap (λ t. k ∷ t) (path-space_at m kept s n e))

  pub held-birth : (x : Path) → IsSome (holder_of ((world m).body x)) → IsBorn x
  held-birth x h = let found = held-found x h in born x found.0 found.1 found.2 found.4

  -- it is among those that are told of
  held_among : (births : List ℕ) → ((who : Who) (n : ℕ) → birth_there m who ≡ Some n → is_held_at m.bodies who ≡ true → IsIn n births) → (x : Path) →
      IsSome (holder_of ((world m).body x)) → (n : ℕ) × IsIn n births × (0 < n) × IsSpace m n × (path m n ≡ x)
  held_among births all x h =
      let found = held-found x h in
      let here = kept.alone found.0 found.1 found.2 in
      let low = kept.younger found.0 found.1 found.2 in (
        found.1,
        all found.0 found.1 found.2 found.3,
        omega (arith, low),
        live-IsSpace m kept found.1 (live-home m kept found.1 found.0 here),
        path-home m kept found.1 found.0 here ∙ found.4,
      )

  pub all-held : (o : Option (Bor (List ℕ))) →
      IfSome o (λ births. (who : Who) (n : ℕ) → birth_there m who ≡ Some n → is_held_at m.bodies who ≡ true → IsIn n births.now) →
      IfSome o (λ births. (x : Path) → IsSome (holder_of ((world m).body x)) → (n : ℕ) × IsIn n births.now × (0 < n) × IsSpace m n × (path m n ≡ x))
  all-held None all = tt
  all-held (Some births) all = held_among births.now all
