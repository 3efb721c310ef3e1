-- Alone: an object in which nothing stands.
use Rattle.std.proofs.Common.{◌≡◌, ℕ, zero, suc, ◌≤◌, Bool, true, false, cond, ◌∷◌, Option, Some, None, option_map, is_some, refl, sym, ap, subst, ◌∙◌, arith}
use Rattle.std.specs.FinMap.{get}
use Rattle.fk_model.specs.declared.names.Who.{Who}
use Rattle.fk_model.specs.declared.body.Body as bodies_of
use Rattle.fk_model.specs.Places.{Path, same_path, slot_of}
use Rattle.fk_model.specs.Objects.{and_then}
use Rattle.fk_store.specs.Store.Names.{at, same_who}
use Rattle.fk_store.specs.Store.Contents.{Contents, stored_birth, birth_there, is_number, home, is_live}
use Rattle.fk_store.specs.Store.Paths.{place, from_home, path, space_at, HasOwnPath}
use Rattle.fk_store.specs.Store.Bodies.{body_by}
use Rattle.fk_store.specs.Store.World.{world, body_at}
use Rattle.fk_store.specs.Store.WellFormed.{is_there, IsWellFormed}
use Rattle.fk_store.proofs.InFreezing.NameLaws.{same_who_refl}
use Rattle.fk_store.proofs.InStore.finding.Homes.{home-found, number_is, is_the_number}
use Rattle.fk_store.proofs.InStore.finding.Walks.{same_path_refl, same_path_true, path-root, path-step, path-home, path-lost, space_at-path, path-space_at}
use Rattle.fk_store.proofs.InStore.finding.Walks.{place-apart, there-birth}
use Rattle.fk_store.proofs.InStore.finding.LookUps.{body-place}

pub none_either : {A : Type 0} (t : Bool) → cond {A = Option A} t None None ≡ None
none_either true = refl
none_either false = refl

module _ (m : Contents) (kept : IsWellFormed m) (who : Who) (there : is_there m who ≡ true) where
  pub apart : HasOwnPath (path m) who
  apart = place-apart m kept who (kept.housed who there)

  -- a walk down its path finds its birth number
  pub own : space_at m (place (path m) who) ≡ birth_there m who
  unfolding space_at
  own = ap (and_then (λ n. birth_there m (at n who.slot))) (space_at-path m kept who.space (kept.housed who there))

  -- a space of its path has its birth number
  pub off_path : (n : ℕ) → is_number n (birth_there m who) ≡ false → path m n ≡ place (path m) who → ⊥
  off_path n off here = by (is_live m n) refl
    where
      by : (t : Bool) → is_live m n ≡ t → ⊥
      by true live =
          let found : birth_there m who ≡ Some n = sym own ∙ ap (space_at m) (sym here) ∙ space_at-path m kept n live in
          let yes = is_the_number n (birth_there m who) found in
          cc
      by false lost =
          let slot : 256 ≡ who.slot = ap slot_of (sym (path-lost m kept n lost) ∙ here) in
          let low = kept.slots who there in
          absurd (omega arith)

  -- a space that is left has another number
  pub left_off : (q : Who) (n : ℕ) → birth_there m q ≡ Some n → same_who q who ≡ false → is_number n (birth_there m who) ≡ false
  left_off q n here apart = by (is_number n (birth_there m who)) refl
    where
      by : (t : Bool) → is_number n (birth_there m who) ≡ t → t ≡ false
      by false e = refl
      by true e =
          let a = kept.alone q n here in
          let b = kept.alone who n (number_is n (birth_there m who) e) in
          let same : q ≡ who = cc in
          let yes = same_who_refl who in
          let no : same_who who who ≡ false = subst (λ w. same_who w who ≡ false) same apart in
          absurd (cc)

module _
    (m : Contents) (kept : IsWellFormed m) (who : Who) (there : is_there m who ≡ true) (empty : (k : ℕ) → (world m).body (k ∷ place (path m) who) ≡ None) where
  -- nothing stands in it
  pub none_in : (n : ℕ) → birth_there m who ≡ Some n → (k : ℕ) → get m.bodies (at n k) ≡ None
  none_in n is k = by (get m.bodies (at n k)) refl
    where
      by : (o : Option bodies_of.Body) → get m.bodies (at n k) ≡ o → o ≡ None
      by None e = refl
      by (Some b) e =
          let here : path m n ≡ place (path m) who = path-home m kept n who (kept.alone who n is) in
          let some : (world m).body (k ∷ path m n) ≡ Some (body_by (path m) b) = body-place m kept (at n k) ∙ ap (option_map (body_by (path m))) e in
          let none : (world m).body (k ∷ path m n) ≡ None = subst (λ s. (world m).body (k ∷ s) ≡ None) (sym here) (empty k) in
          absurd (cc)

  -- so its birth number is that of no space in which something stands
  pub housed_off : (q : Who) → is_there m q ≡ true → is_number q.space (birth_there m who) ≡ false
  housed_off q h = by (is_number q.space (birth_there m who)) refl
    where
      by : (t : Bool) → is_number q.space (birth_there m who) ≡ t → t ≡ false
      by false e = refl
      by true e = let none = ap is_some (none_in q.space (number_is q.space (birth_there m who) e) q.slot) in absurd (cc)

  -- and a path other than its own leads to another space
  pub path_off : (s : Path) (n : ℕ) → space_at m s ≡ Some n → same_path s (place (path m) who) ≡ false → is_number n (birth_there m who) ≡ false
  path_off s n here apart = by (is_number n (birth_there m who)) refl
    where
      by : (t : Bool) → is_number n (birth_there m who) ≡ t → t ≡ false
      by false e = refl
      by true e =
          let up : path m n ≡ place (path m) who = path-home m kept n who (kept.alone who n (number_is n (birth_there m who) e)) in
          let same : s ≡ place (path m) who = sym (path-space_at m kept s n here) ∙ up in
          let yes = same_path_refl (place (path m) who) in
          let no : same_path (place (path m) who) (place (path m) who) ≡ false = subst (λ t. same_path t (place (path m) who) ≡ false) same apart in
          absurd (cc)

  pub empty_at : (s : Path) (k : ℕ) → same_path s (place (path m) who) ≡ true → body_at m (k ∷ s) ≡ None
  unfolding world
  empty_at s k e = subst (λ t. (world m).body (k ∷ t) ≡ None) (sym (same_path_true s (place (path m) who) e)) (empty k)

  pub inner : (o : Option ℕ) → birth_there m who ≡ o → (k : ℕ) → and_then (λ n. birth_there m (at n k)) o ≡ None
  inner None e k = refl
  inner (Some n) e k = ap (and_then stored_birth) (none_in n e k)

  -- where all other spaces have the homes that they had, they keep their paths
  module _ (m2 : Contents) (kept2 : IsWellFormed m2) (home_stays : (n : ℕ) → is_number n (birth_there m who) ≡ false → home m2 n ≡ home m n) where
    path_by-stays : (k n : ℕ) → n ≤ k → is_number n (birth_there m who) ≡ false → path m2 n ≡ path m n
    path_by-stays k zero low off = path-root m2 ∙ sym (path-root m)
    path_by-stays zero (suc n) low off = absurd (omega arith)
    path_by-stays (suc k) (suc n) low off = path-step m2 kept2 (suc n) (omega arith)
        ∙ ap (from_home (path m2)) (home_stays (suc n) off) ∙ by (home m (suc n)) refl (path_by-stays k) ∙ sym (path-step m kept (suc n) (omega arith))
      where
        by : (o : Option Who) → home m (suc n) ≡ o → ((q : ℕ) → q ≤ k → is_number q (birth_there m who) ≡ false → path m2 q ≡ path m q) →
            from_home (path m2) (home m (suc n)) ≡ from_home (path m) (home m (suc n))
        by None e ih = rw e refl
        by (Some q) e ih =
            let found = home-found m (suc n) q e in
            let older = kept.younger q (suc n) found in
            rw e (ap (λ s. q.slot ∷ s) (ih q.space (omega arith) (housed_off q (there-birth m kept q (suc n) found))))

    pub path_stays : (n : ℕ) → is_number n (birth_there m who) ≡ false → path m2 n ≡ path m n
    path_stays n off = path_by-stays n n (omega arith) off

    pub place_stays : (q : Who) → is_there m q ≡ true → place (path m2) q ≡ place (path m) q
    place_stays q h = ap (λ s. q.slot ∷ s) (path_stays q.space (housed_off q h))

  -- a number that isn't its own
  pub number_off : (n : ℕ) → (path m n ≡ place (path m) who → ⊥) → is_number n (birth_there m who) ≡ false
  number_off n other = by (is_number n (birth_there m who)) refl
    where
      by : (t : Bool) → is_number n (birth_there m who) ≡ t → t ≡ false
      by false e = refl
      by true e = absurd (other (path-home m kept n who (kept.alone who n (number_is n (birth_there m who) e))))
