-- Enumerated: every object of the world has a name, and its space a home.
use Rattle.std.proofs.Common.{Bool, IsTrue, ne_eqb, ◌==◌, ◌≡◌, ◌↔◌, ℕ, ◌<◌, true, ◌∷◌, Option, Some, None, option_map, is_some, IsSome, IfSome, refl}
use Rattle.std.proofs.Common.{sym, ap, ◌∙◌, arith}
use Rattle.std.specs.declared.cmp.Ordering.{Ordering}
use Rattle.std.specs.FinMap.{get}
use Rattle.fk_model.specs.declared.names.Who.{Who}
use Rattle.fk_model.specs.Places.{Path}
use Rattle.fk_model.specs.Objects.{kind_of, and_then}
use Rattle.fk_model.specs.Valid.{kind_there}
use Rattle.fk_store.specs.Store.Names.{at}
use Rattle.fk_store.specs.Store.Orders.{IsFirstAfter}
use Rattle.fk_store.specs.Store.Contents.{Contents, home, is_live}
use Rattle.fk_store.specs.Store.Paths.{place, path, space_at}
use Rattle.fk_store.specs.Store.Bodies.{body_by}
use Rattle.fk_store.specs.Store.World.{world, IsSpace}
use Rattle.fk_store.specs.Store.WellFormed.{IsWellFormed}
use Rattle.fk_store.proofs.InStore.finding.Homes.{home-found}
use Rattle.fk_store.proofs.InStore.finding.Walks.{not_root, path-home, path-space_at, live-home}
use Rattle.fk_store.proofs.InStore.finding.LookUps.{live-IsSpace, IsSpace-live}

-- the first of those for which P holds is that of those for which Q holds, where the two say one thing
pub first_after-map : {K : Type 0} (R : K → K → Ordering) (P Q : K → Type 0) →
    ((k : K) → P k → Q k) → ((k : K) → Q k → P k) → (k next : Option K) → IsFirstAfter R P k next → IsFirstAfter R Q k next
first_after-map R P Q to from k None h = λ q there later. h q (from q there) later
first_after-map R P Q to from k (Some next) h = (to next h.0, h.1, λ q there later. h.2 q (from q there) later)

module _ (m : Contents) (kept : IsWellFormed m) where
  pub named-object : (k : ℕ) (s : Path) → IsSome (kind_there (world m) (k ∷ s)) → (who : Who) × (place (path m) who ≡ k ∷ s)
  unfolding kind_there world
  named-object k s h = by (space_at m s) refl h
    where
      by : (o : Option ℕ) → space_at m s ≡ o → is_some (option_map kind_of (and_then (λ n. option_map (body_by (path m)) (get m.bodies (at n k))) o)) ≡ true →
          (who : Who) × (place (path m) who ≡ k ∷ s)
      by None e some = absurd (cc)
      by (Some n) e some = (at n k, ap (λ t. k ∷ t) (path-space_at m kept s n e))

  module _ (n : ℕ) (found : Option Who) (is : found ≡ home m n) where
    pub home-some : IsSome found ↔ ((0 < n) × IsSpace m n)
    home-some = (there found refl, lives n refl)
      where
        there : (o : Option Who) → found ≡ o → IsSome o → (0 < n) × IsSpace m n
        there None e h = absurd (cc)
        there (Some who) e h =
            let here : home m n ≡ Some who = sym is ∙ e in
            let older = kept.younger who n (home-found m n who here) in
            (omega arith, live-IsSpace m kept n (live-home m kept n who here))

        lives : (q : ℕ) → q ≡ n → (0 < n) × IsSpace m n → IsSome found
        lives q e h = let live = rw (not_root n h.0) at (IsSpace-live m kept n h.1) in ap is_some is ∙ live

    pub home-place : IfSome found (λ who. path m n ≡ place (path m) who)
    home-place = by found refl
      where
        by : (o : Option Who) → found ≡ o → IfSome o (λ who. path m n ≡ place (path m) who)
        by None e = tt
        by (Some who) e = path-home m kept n who (sym is ∙ e)

    pub home-older : IfSome found (λ who. who.space < n)
    home-older = by found refl
      where
        by : (o : Option Who) → found ≡ o → IfSome o (λ who. who.space < n)
        by None e = tt
        by (Some who) e = kept.younger who n (home-found m n who (sym is ∙ e))

-- what tells whether a space is live
module _ (m : Contents) (kept : IsWellFormed m) (n : ℕ) where
  tells : (test : Bool) → test ≡ is_live m n → IsTrue test ↔ IsSpace m n
  tells test is = (λ h. live-IsSpace m kept n (sym is ∙ h), λ h. is ∙ IsSpace-live m kept n h)

  pub tells-root : n ≡ 0 → IsTrue (n == 0) ↔ IsSpace m n
  tells-root e = tells (n == 0) (rw e refl)

  pub tells-other : (n ≡ 0 → ⊥) → (found : Option Who) → found ≡ home m n → IsTrue (is_some found) ↔ IsSpace m n
  tells-other other found is = tells (is_some found) (rw (ne_eqb n 0 other) (ap is_some is))
