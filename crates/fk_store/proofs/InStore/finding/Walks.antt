-- Walks up and down: the path of a space leads to it, and to it alone.
use Rattle.std.proofs.Common.{◌≡◌, ℕ, zero, suc, ◌<◌, ◌≤◌, Bool, true, false, cond, ◌&&◌, ◌||◌, ◌==◌, [], ◌∷◌, Option, Some, None, is_some, refl, ap}
use Rattle.std.proofs.Common.{subst, ◌∙◌, arith, eqb-true, eq-eqb}
use Rattle.std.proofs.lemmas.Bool.Decides.{nat_tests}
use Rattle.std.specs.FinMap.{get}
use Rattle.fk_model.specs.declared.names.Who.{Who}
use Rattle.fk_model.specs.declared.body.Body.{Body}
use Rattle.fk_model.specs.Places.{Path, same_path}
use Rattle.fk_model.specs.Objects.{and_then}
use Rattle.fk_store.specs.Store.Names.{at, same_who}
use Rattle.fk_store.specs.Store.Contents.{Contents, stored_birth, birth_there, home, is_live}
use Rattle.fk_model.specs.Who.{nowhere}
use Rattle.fk_store.specs.Store.Paths.{place, from_home, path_by, path, space_at, HasOwnPath}
use Rattle.fk_store.specs.Store.WellFormed.{is_there, IsWellFormed}
use Rattle.fk_store.proofs.InStore.finding.Homes.{home-found}

pub same_path_refl : (x : Path) → same_path x x ≡ true
unfolding same_path
same_path_refl [] = refl
same_path_refl (k ∷ x) = rw (eq-eqb k k refl) (same_path_refl x)

pub same_path_true : (x y : Path) → same_path x y ≡ true → x ≡ y
unfolding same_path
same_path_true [] [] h = refl
same_path_true [] (k ∷ y) h = absurd (cc)
same_path_true (k ∷ x) [] h = absurd (cc)
same_path_true (k ∷ x) (j ∷ y) h = by (k == j) refl h (same_path_true x y)
  where
    by : (b : Bool) → (k == j) ≡ b → (b && same_path x y) ≡ true → (same_path x y ≡ true → x ≡ y) → k ∷ x ≡ j ∷ y
    by true e is ih = let heads = eqb-true k j e in let tails = ih is in cc
    by false e is ih = absurd (cc)

pub not_root : (n : ℕ) → 0 < n → (n == 0) ≡ false
not_root n h = grind (arith, nat_tests)

pub eq_back : (a b : ℕ) → (a == b) ≡ (b == a)
eq_back a b = grind (arith, nat_tests)

pub and_back : (a b : Bool) → (a && b) ≡ (b && a)
and_back true true = refl
and_back true false = refl
and_back false true = refl
and_back false false = refl

pub path-root : (m : Contents) → path m 0 ≡ []
unfolding path path_by
path-root m = refl

module _ (m : Contents) (kept : IsWellFormed m) where
  pub younger : (n : ℕ) (who : Who) → home m n ≡ Some who → who.space < n
  younger n who h = kept.younger who n (home-found m n who h)

  path_by-enough : (k j n : ℕ) → n ≤ k → n ≤ j → path_by k m n ≡ path_by j m n
  unfolding path_by
  path_by-enough zero zero n a b = refl
  path_by-enough zero (suc j) n a b = let e : n ≡ 0 = omega arith in rw e refl
  path_by-enough (suc k) zero n a b = let e : n ≡ 0 = omega arith in rw e refl
  path_by-enough (suc k) (suc j) n a b = ap (cond (n == 0) []) (by (home m n) refl (path_by-enough k j))
    where
      by : (h : Option Who) → home m n ≡ h → ((q : ℕ) → q ≤ k → q ≤ j → path_by k m q ≡ path_by j m q) → from_home (path_by k m) h ≡ from_home (path_by j m) h
      by None e ih = refl
      by (Some who) e ih = let low = younger n who e in ap (λ s. who.slot ∷ s) (ih who.space (omega arith) (omega arith))

  -- one step up
  pub path-step : (n : ℕ) → 0 < n → path m n ≡ from_home (path m) (home m n)
  unfolding path path_by
  path-step zero h = absurd (omega arith)
  path-step (suc k) h = rw (not_root (suc k) h) (by (home m (suc k)) refl)
    where
      by : (o : Option Who) → home m (suc k) ≡ o → from_home (path_by k m) o ≡ from_home (path m) o
      by None e = refl
      by (Some who) e = let low = younger (suc k) who e in ap (λ s. who.slot ∷ s) (path_by-enough k who.space who.space (omega arith) (omega arith))

  pub path-home : (n : ℕ) (who : Who) → home m n ≡ Some who → path m n ≡ place (path m) who
  path-home n who h = let low = younger n who h in path-step n (omega arith) ∙ ap (from_home (path m)) h

  pub path-lost : (n : ℕ) → is_live m n ≡ false → path m n ≡ nowhere
  path-lost zero h = absurd (cc)
  path-lost (suc k) h = by (home m (suc k)) refl (rw (not_root (suc k) (omega arith)) at h)
    where
      by : (o : Option Who) → home m (suc k) ≡ o → is_some (home m (suc k)) ≡ false → path m (suc k) ≡ nowhere
      by None e is = path-step (suc k) (omega arith) ∙ ap (from_home (path m)) e
      by (Some who) e is = absurd (cc)

  -- what holds something, or is a space, is live
  pub live-home : (n : ℕ) (who : Who) → home m n ≡ Some who → is_live m n ≡ true
  live-home n who h = by (n == 0)
    where
      by : (b : Bool) → (b || is_some (home m n)) ≡ true
      by true = refl
      by false = rw h refl

  pub there-birth : (who : Who) (n : ℕ) → birth_there m who ≡ Some n → is_there m who ≡ true
  there-birth who n = by (get m.bodies who)
    where
      by : (b : Option Body) → and_then stored_birth b ≡ Some n → is_some b ≡ true
      by None h = absurd (cc)
      by (Some b) h = refl

  -- down the path of a live space one finds it
  down : (k n : ℕ) → n ≤ k → is_live m n ≡ true → space_at m (path m n) ≡ Some n
  unfolding space_at
  down k zero low live = rw (path-root m) refl
  down zero (suc n) low live = absurd (omega arith)
  down (suc k) (suc n) low live = by (home m (suc n)) refl (rw (not_root (suc n) (omega arith)) at live) (down k)
    where
      by : (o : Option Who) → home m (suc n) ≡ o →
          is_some (home m (suc n)) ≡ true → ((q : ℕ) → q ≤ k → is_live m q ≡ true → space_at m (path m q) ≡ Some q) → space_at m (path m (suc n)) ≡ Some (suc n)
      by None e is ih = absurd (cc)
      by (Some who) e is ih =
          let found = home-found m (suc n) who e in
          let older = younger (suc n) who e in
          let above = ih who.space (omega arith) (kept.housed who (there-birth who (suc n) found)) in
          rw (path-home (suc n) who e, above) found

  pub space_at-path : (n : ℕ) → is_live m n ≡ true → space_at m (path m n) ≡ Some n
  space_at-path n live = down n n (omega arith) live

  -- what is found going down is live, and has that path
  pub path-space_at : (s : Path) (n : ℕ) → space_at m s ≡ Some n → path m n ≡ s
  unfolding space_at
  path-space_at [] n h = let e : n ≡ 0 = cc in rw e (path-root m)
  path-space_at (k ∷ s) n h = by (space_at m s) refl h (path-space_at s)
    where
      by : (o : Option ℕ) →
          space_at m s ≡ o → and_then (λ q. birth_there m (at q k)) o ≡ Some n → ((q : ℕ) → space_at m s ≡ Some q → path m q ≡ s) → path m n ≡ k ∷ s
      by None e is ih = absurd (cc)
      by (Some q) e is ih = path-home n (at q k) (kept.alone (at q k) n is) ∙ ap (λ t. k ∷ t) (ih q e)

  pub live-space_at : (s : Path) (n : ℕ) → space_at m s ≡ Some n → is_live m n ≡ true
  unfolding space_at
  live-space_at [] n h = let e : n ≡ 0 = cc in rw e refl
  live-space_at (k ∷ s) n h = by (space_at m s) refl h
    where
      by : (o : Option ℕ) → space_at m s ≡ o → and_then (λ q. birth_there m (at q k)) o ≡ Some n → is_live m n ≡ true
      by None e is = absurd (cc)
      by (Some q) e is = live-home n (at q k) (kept.alone (at q k) n is)

  -- nothing stands nowhere
  pub space_at-nowhere : space_at m nowhere ≡ None
  unfolding space_at
  space_at-nowhere = by (birth_there m (at 0 256)) refl
    where
      by : (o : Option ℕ) → birth_there m (at 0 256) ≡ o → birth_there m (at 0 256) ≡ None
      by None e = e
      by (Some n) e = let low = kept.slots (at 0 256) (there-birth (at 0 256) n e) in absurd (omega arith)

  -- going down a path of a space that isn't live one finds nothing
  pub space_at-lost : (n : ℕ) → is_live m n ≡ false → space_at m (path m n) ≡ None
  space_at-lost n h = rw (path-lost n h) space_at-nowhere

  -- two spaces have one path only where they are one
  pub same_space : (s : Path) (q n : ℕ) → space_at m s ≡ Some q → same_path s (path m n) ≡ (q == n)
  same_space s q n here = by (q == n) refl (same_path s (path m n)) refl
    where
      by : (b : Bool) → (q == n) ≡ b → (c : Bool) → same_path s (path m n) ≡ c → c ≡ b
      by true e true same = refl
      by false e false same = refl
      by true e false same =
          let number = eqb-true q n e in
          let there : path m n ≡ s = rw (← number) (path-space_at s q here) in
          let reflexive = same_path_refl s in
          let differs : same_path s s ≡ false = subst (λ t. same_path s t ≡ false) there same in
          absurd (cc)
      by false e true same =
          let there = same_path_true s (path m n) same in
          let found : space_at m (path m n) ≡ Some q = subst (λ t. space_at m t ≡ Some q) there here in
          found_by (is_live m n) refl found
        where
          found_by : (b : Bool) → is_live m n ≡ b → space_at m (path m n) ≡ Some q → true ≡ false
          found_by true live found =
              let known = space_at-path n live in
              let number : q ≡ n = cc in
              let test = eq-eqb q n number in
              absurd (cc)
          found_by false lost found = let none = space_at-lost n lost in absurd (cc)

pub same_path_back : (x y : Path) → same_path x y ≡ same_path y x
same_path_back x y = by (same_path x y) refl (same_path y x) refl
  where
    by : (b : Bool) → same_path x y ≡ b → (c : Bool) → same_path y x ≡ c → b ≡ c
    by true e true f = refl
    by false e false f = refl
    by true e false f = let same = same_path_true x y e in
        let no : same_path y y ≡ false = subst (λ t. same_path y t ≡ false) same f in let yes = same_path_refl y in absurd (cc)
    by false e true f = let same = same_path_true y x f in
        let no : same_path x x ≡ false = subst (λ t. same_path x t ≡ false) same e in let yes = same_path_refl x in absurd (cc)

-- an object of a live space has a path of its own
pub place-apart : (m : Contents) → IsWellFormed m → (who : Who) → is_live m who.space ≡ true → HasOwnPath (path m) who
unfolding same_path
place-apart m kept who live other = (there, same_path_back (place (path m) who) (place (path m) other) ∙ there ∙ turned)
  where
    spaces : same_path (path m other.space) (path m who.space) ≡ (other.space == who.space)
    spaces = same_path_back (path m other.space) (path m who.space)
        ∙ same_space m kept (path m who.space) who.space other.space (space_at-path m kept who.space live) ∙ eq_back who.space other.space

    there : same_path (place (path m) other) (place (path m) who) ≡ same_who other who
    there = rw spaces (and_back (other.slot == who.slot) (other.space == who.space))

    turned : same_who other who ≡ same_who who other
    turned = rw (eq_back other.space who.space, eq_back other.slot who.slot) refl
