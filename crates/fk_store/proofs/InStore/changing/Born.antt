-- Born: the world finds the path of a space by its birth number.
--
-- All spaces are among the objects of the world, since no path is longer than the number of its space.
use Rattle.std.proofs.Common.{◌≡◌, ℕ, zero, suc, ◌≤◌, Bool, true, false, IsSome, is_some, [], ◌∷◌, length, find, Option, Some, None, option_map}
use Rattle.std.proofs.Common.{unwrap_or, inl, inr, refl, sym, ap, subst, arith, ◌∙◌, eqb-true, eq-eqb}
use Rattle.std.specs.FinMap.{get}
use Rattle.fk_model.specs.declared.names.Who.{Who}
use Rattle.fk_model.specs.declared.body.Body as bodies_of
use Rattle.fk_model.specs.Places.{Path}
use Rattle.fk_model.specs.Objects.{Body, and_then}
use Rattle.fk_model.specs.Searches.{depth, objects}
use Rattle.fk_model.specs.Valid as valid
use Rattle.fk_model.specs.Valid.{IsRooted, birth_at, kind_there}
use Rattle.fk_model.specs.Who.{nowhere, is_born, space_born}
use Rattle.fk_model.proofs.walks.Members.{IsIn, find_some, find_none}
use Rattle.fk_model.proofs.walks.WalkLaws.{walked}
use Rattle.fk_store.specs.Store.Names.{at}
use Rattle.fk_store.specs.Store.Contents.{Contents, home, is_live}
use Rattle.fk_store.specs.Store.Paths.{path, space_at}
use Rattle.fk_store.specs.Store.Bodies.{body_by}
use Rattle.fk_store.specs.Store.World.{world}
use Rattle.fk_store.specs.Store.WellFormed.{is_there, IsWellFormed}
use Rattle.fk_store.proofs.InStore.finding.Homes.{home-found}
use Rattle.fk_store.proofs.InStore.finding.Walks.{not_root, path-root, path-home, path-lost, path-space_at, space_at-path, there-birth, younger}
use Rattle.fk_store.proofs.InStore.finding.LookUps.{birth_at-space_at}
use Rattle.fk_store.proofs.InStore.changing.Makes.{live-born}

-- what has a birth number is there
birth_some : (o : Option Body) (n : ℕ) → and_then valid.birth_of o ≡ Some n → is_some o ≡ true
birth_some None n h = absurd (cc)
birth_some (Some b) n h = refl

born_is : (n : ℕ) (o : Option ℕ) → is_born n o ≡ true → o ≡ Some n
born_is n None h = absurd (cc)
born_is n (Some found) h = ap Some (eqb-true found n h)

module _ (m : Contents) (kept : IsWellFormed m) where
  -- what has something in it is live, and slots are below 256
  space_there : (k : ℕ) (s : Path) → IsSome ((world m).body (k ∷ s)) → (n : ℕ) × (space_at m s ≡ Some n) × (is_there m (at n k) ≡ true)
  unfolding world
  space_there k s h = by (space_at m s) refl h
    where
      there : (o : Option bodies_of.Body) → is_some (option_map (body_by (path m)) o) ≡ true → is_some o ≡ true
      there None is = absurd (cc)
      there (Some b) is = refl

      by : (o : Option ℕ) → space_at m s ≡ o → is_some (and_then (λ n. option_map (body_by (path m)) (get m.bodies (at n k))) o) ≡ true →
          (n : ℕ) × (space_at m s ≡ Some n) × (is_there m (at n k) ≡ true)
      by None e is = absurd (cc)
      by (Some n) e is = (n, e, there (get m.bodies (at n k)) is)

  pub above : (k : ℕ) (s : Path) → IsSome ((world m).body (k ∷ s)) → IsSome ((world m).body s)
  above k s h = let space = space_there k s h in birth_some ((world m).body s) space.0 (birth_at-space_at m s ∙ space.1)

  pub rooted : IsRooted (world m)
  unfolding world kind_there
  rooted = record { root = refl; slots = λ k s h. let space = space_there k s h in kept.slots (at space.0 k) space.2 }

  live_home : (n : ℕ) → is_live m (suc n) ≡ true → (who : Who) × (home m (suc n) ≡ Some who)
  live_home n h = by (home m (suc n)) refl (rw (not_root (suc n) (omega arith)) at h)
    where
      by : (o : Option Who) → home m (suc n) ≡ o → is_some o ≡ true → (who : Who) × (home m (suc n) ≡ Some who)
      by None e is = absurd (cc)
      by (Some who) e is = (who, e)

  -- no path is longer than the number of its space
  pub short : (k n : ℕ) → n ≤ k → is_live m n ≡ true → length (path m n) ≤ n
  short k zero low live = rw (path-root m) (omega arith)
  short zero (suc n) low live = absurd (omega arith)
  short (suc k) (suc n) low live =
      let up = live_home n live in
      let older = younger m kept (suc n) up.0 up.1 in
      let above = short k up.0.space (omega arith) (kept.housed up.0 (there-birth m kept up.0 (suc n) (home-found m (suc n) up.0 up.1))) in
      rw (path-home m kept (suc n) up.0 up.1) (omega arith)

  birth_path : (n : ℕ) → is_live m n ≡ true → birth_at (world m) (path m n) ≡ Some n
  birth_path n live = birth_at-space_at m (path m n) ∙ space_at-path m kept n live

  -- the spaces of the world are among its objects
  among : (n : ℕ) → m.next ≤ depth → is_live m n ≡ true → IsIn (path m n) ([] ∷ objects (world m))
  among n few live = by (path m n) refl
    where
      by : (s : Path) → path m n ≡ s → IsIn s ([] ∷ objects (world m))
      by [] e = inl refl
      by (k ∷ s) e =
          let there : IsSome ((world m).body (k ∷ s)) = rw (← e) (birth_some ((world m).body (path m n)) n (birth_path n live)) in
          let low = live-born m kept n live in
          let long : length (k ∷ s) ≤ n = subst (λ t. length t ≤ n) e (short n n (omega arith) live) in
          inr (walked (world m) above rooted k s there (omega arith))

  born : m.next ≤ depth → (n : ℕ) → path m n ≡ space_born (world m) n
  unfolding space_born
  born few n = by (find (λ s. is_born n (birth_at (world m) s)) ([] ∷ objects (world m))) refl
    where
      by : (o : Option Path) → find (λ s. is_born n (birth_at (world m) s)) ([] ∷ objects (world m)) ≡ o → path m n ≡ unwrap_or o nowhere
      by (Some s) e =
          let found = find_some (λ s. is_born n (birth_at (world m) s)) s ([] ∷ objects (world m)) e in
          path-space_at m kept s n (sym (birth_at-space_at m s) ∙ born_is n (birth_at (world m) s) found.1)
      by None e = lost (is_live m n) refl
        where
          lost : (b : Bool) → is_live m n ≡ b → path m n ≡ nowhere
          lost false is = path-lost m kept n is
          lost true is =
              let fails = find_none (λ s. is_born n (birth_at (world m) s)) (path m n) ([] ∷ objects (world m)) e (among n few is) in
              let holds : is_born n (birth_at (world m) (path m n)) ≡ true = rw (birth_path n is) (eq-eqb n n refl) in
              absurd (cc)

  pub paths-born : m.next ≤ depth → path m ≡ space_born (world m)
  paths-born few = λ i n. born few n i
