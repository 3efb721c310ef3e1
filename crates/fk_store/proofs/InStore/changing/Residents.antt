-- Residents: an object that has none has nothing in it.
use Rattle.std.proofs.Common.{Bor, ◌≡◌, ℕ, zero, suc, ◌+◌, ◌-◌, ◌<◌, ◌≤◌, Bool, true, false, ◌∷◌, Option, Some, None, option_map, is_some, IsSome}
use Rattle.std.proofs.Common.{refl, sym, ap, subst, ◌∙◌, arith}
use Rattle.std.specs.FinMap.{get}
use Rattle.std.specs.Option.{option_copied}
use Rattle.fk_model.specs.declared.names.Who.{Who}
use Rattle.fk_model.specs.declared.body.Body as bodies_of
use Rattle.fk_model.specs.declared.limits.TheConstants.{SLOTS}
use Rattle.fk_model.specs.Places.{Path}
use Rattle.fk_model.specs.Objects.{Body, kind_of, and_then, or_else}
use Rattle.fk_model.specs.Searches.{lowest, first_resident, has_residents, depth, leaf_from, leaf_by, leaf}
use Rattle.fk_model.specs.Valid.{kind_there}
use Rattle.fk_model.specs.World.{World}
use Rattle.fk_model.proofs.walks.Lowest.{lowest_none, lowest-found}
use Rattle.fk_model.proofs.walks.WalkLaws.{none_from}
use Rattle.fk_store.specs.Store.Contents.{Contents, stored_birth, birth_there, is_live}
use Rattle.fk_store.specs.Store.Paths.{path, place, space_at}
use Rattle.fk_store.specs.Store.Names.{at}
use Rattle.fk_store.specs.Store.Bodies.{body_by}
use Rattle.fk_store.specs.Store.World.{world, IsLive}
use Rattle.fk_store.specs.Store.WellFormed.{IsWellFormed}
use Rattle.fk_store.proofs.InStore.finding.Walks.{space_at-path, space_at-lost, path-home}
use Rattle.fk_store.proofs.InStore.finding.ReachLaws.{lowest-first}
use Rattle.fk_store.proofs.InStore.changing.Born.{rooted}
use Rattle.fk_store.proofs.InStore.finding.LookUps.{some_mapped, body-place}

pub no_residents : (m : Contents) → IsWellFormed m → (x : Path) → has_residents (world m) x ≡ false → (k : ℕ) → (world m).body (k ∷ x) ≡ None
no_residents m kept x none k = by ((world m).body (k ∷ x)) refl
  where
    below : k < SLOTS → (world m).body (k ∷ x) ≡ None
    below low = lowest_none SLOTS (λ j. (world m).body (j ∷ x)) (none_from (lowest SLOTS (λ j. (world m).body (j ∷ x))) none) k low

    by : (o : Option Body) → (world m).body (k ∷ x) ≡ o → (world m).body (k ∷ x) ≡ None
    by None e = e
    by (Some b) e = below ((rooted m kept).slots k x (rw e refl))

-- what nothing has at its path is under no name
pub none_there : (m : Contents) → IsWellFormed m → (who : Who) → (world m).body (place (path m) who) ≡ None → get m.bodies who ≡ None
none_there m kept who none = by (get m.bodies who) refl
  where
    by : (o : Option bodies_of.Body) → get m.bodies who ≡ o → o ≡ None
    by None e = refl
    by (Some b) e =
        let some : (world m).body (place (path m) who) ≡ Some (body_by (path m) b) = body-place m kept who ∙ ap (option_map (body_by (path m))) e in
        absurd (cc)

-- and so the names of its inside have nothing
pub nobody-inside : (m : Contents) → IsWellFormed m → (who : Who) (n : ℕ) (q : Who) → birth_there m who ≡ Some n → q.space ≡ n →
    ((k : ℕ) → (world m).body (k ∷ place (path m) who) ≡ None) → get m.bodies q ≡ None
nobody-inside m kept who n q birth in_it empty = none_there m kept q
    (ap (λ s. (world m).body (q.slot ∷ s)) (ap (path m) in_it ∙ path-home m kept n who (kept.alone who n birth)) ∙ empty q.slot)

-- what is looked up is there where the look-up finds it
pub found-there : {A B : Type 0} (f : A → B) (o : Option (Bor A)) (b : Option B) → b ≡ option_map f (option_copied o) → is_some o ≡ is_some b
found-there f None b is = sym (ap is_some is)
found-there f (Some a) b is = sym (ap is_some is)

-- ---- the lowest one

-- a taken slot
abbrev pub taken : World → Path → ℕ → Option ℕ
taken w s k = option_map (λ b. k) (w.body (k ∷ s))

pub resident-found : (w : World) (s : Path) (k : ℕ) → k < 256 → lowest k (taken w s) ≡ None → IsSome (w.body (k ∷ s)) → Some k ≡ first_resident w s
resident-found w s k low before some = sym (lowest-first 256 k (taken w s) (Some k) before (by (w.body (k ∷ s)) some) refl low)
  where
    by : (o : Option Body) → IsSome o → option_map (λ b. k) o ≡ Some k
    by None h = absurd (cc)
    by (Some b) h = refl

pub resident-none : (w : World) (s : Path) (k : ℕ) → 256 ≤ k → k ≤ 256 → lowest k (taken w s) ≡ None → None ≡ first_resident w s
resident-none w s k past low before = let end : k ≡ 256 = omega arith in sym (subst (λ n. lowest n (taken w s) ≡ None) end before)

some_lowest : {A : Type 0} (n : ℕ) (f : ℕ → Option A) → is_some (lowest n (λ k. option_map (λ a. k) (f k))) ≡ is_some (lowest n f)
unfolding lowest
some_lowest zero f = refl
some_lowest {A = A} (suc n) f = by (lowest n (λ k. option_map (λ a. k) (f k))) (lowest n f) (some_lowest n f)
  where
    by : (o : Option ℕ) (p : Option A) → is_some o ≡ is_some p → is_some (or_else o (option_map (λ a. n) (f n))) ≡ is_some (or_else p (f n))
    by None None h = some_mapped (λ a. n) (f n)
    by None (Some a) h = absurd (cc)
    by (Some k) None h = absurd (cc)
    by (Some k) (Some a) h = refl

-- where there is a lowest one there is one
pub some-resident : (w : World) (s : Path) → is_some (first_resident w s) ≡ has_residents w s
some-resident w s = some_lowest SLOTS (λ k. w.body (k ∷ s))

lowest-nothing : {A : Type 0} (n : ℕ) (f : ℕ → Option A) → ((k : ℕ) → f k ≡ None) → lowest n f ≡ None
unfolding lowest
lowest-nothing zero f none = refl
lowest-nothing (suc n) f none = rw (lowest-nothing n f none, none n) refl

module _ (m : Contents) (kept : IsWellFormed m) (who : Who) where
  -- a walk down the path of an object finds its birth number
  space_at-place : space_at m (place (path m) who) ≡ birth_there m who
  unfolding space_at
  space_at-place = by (is_live m who.space) refl
    where
      lost : (o : Option bodies_of.Body) → get m.bodies who ≡ o → is_live m who.space ≡ false → and_then stored_birth o ≡ None
      lost None e none = refl
      lost (Some b) e none = let live = kept.housed who (rw e refl) in absurd (cc)

      by : (t : Bool) → is_live m who.space ≡ t → and_then (λ n. birth_there m (at n who.slot)) (space_at m (path m who.space)) ≡ birth_there m who
      by true live = rw (space_at-path m kept who.space live) refl
      by false none = rw (space_at-lost m kept who.space none) (sym (lost (get m.bodies who) refl none))

  pub plain-empty : (o : Option ℕ) → o ≡ birth_there m who → o ≡ None → false ≡ has_residents (world m) (place (path m) who)
  unfolding world
  plain-empty o is none = sym (ap is_some (lowest-nothing SLOTS (λ k. (world m).body (k ∷ place (path m) who)) (λ k. rw (space_at-place, ← is, none) refl)))

  pub space-residents : (n : ℕ) → Some n ≡ birth_there m who → is_some (first_resident (world m) (path m n)) ≡ has_residents (world m) (place (path m) who)
  space-residents n is =
      ap (λ s. is_some (first_resident (world m) s)) (path-home m kept n who (kept.alone who n (sym is))) ∙ some-resident (world m) (place (path m) who)

-- ---- down to an object in which nothing stands

pub leaf-begins : (w : World) (x : Path) → leaf_by (depth - 0) w x ≡ leaf w x
unfolding leaf
leaf-begins w x = let all : depth - 0 ≡ depth = omega arith in ap (λ n. leaf_by n w x) all

pub leaf-goes_on : (w : World) (x : Path) (k step : ℕ) →
    first_resident w x ≡ Some k → step < depth → leaf_by (depth - step) w x ≡ leaf_by (depth - (step + 1)) w (k ∷ x)
unfolding leaf_by
leaf-goes_on w x k step is low =
    let more : depth - step ≡ suc (depth - (step + 1)) = omega arith in
    ap (λ n. leaf_by n w x) more ∙ ap (leaf_from (λ j. leaf_by (depth - (step + 1)) w (j ∷ x)) x) is

pub leaf-ends : (n : ℕ) (w : World) (x : Path) → first_resident w x ≡ None → leaf_by n w x ≡ x
unfolding leaf_by
leaf-ends zero w x none = refl
leaf-ends (suc n) w x none = ap (leaf_from (λ j. leaf_by n w (j ∷ x)) x) none

module _ (m : Contents) (kept : IsWellFormed m) (who : Who) where
  -- what isn't a space has no residents
  pub plain-none : (o : Option ℕ) → o ≡ birth_there m who → o ≡ None → None ≡ first_resident (world m) (place (path m) who)
  plain-none o is none =
      none_of (first_resident (world m) (place (path m) who)) (some-resident (world m) (place (path m) who) ∙ sym (plain-empty m kept who o is none))
    where
      none_of : (p : Option ℕ) → is_some p ≡ false → None ≡ p
      none_of None h = refl
      none_of (Some k) h = absurd (cc)

  module _ (n : ℕ) (is : Some n ≡ birth_there m who) where
    up : path m n ≡ place (path m) who
    up = path-home m kept n who (kept.alone who n (sym is))

    pub inner-slot : (o : Option ℕ) → o ≡ first_resident (world m) (path m n) → o ≡ first_resident (world m) (place (path m) who)
    inner-slot o here = here ∙ ap (first_resident (world m)) up

    pub inner-place : (k : ℕ) → place (path m) (at n k) ≡ k ∷ place (path m) who
    inner-place k = ap (λ s. k ∷ s) up

    pub inner-younger : (who.space < n) × (n < m.next)
    inner-younger = (kept.younger who n (sym is), kept.born who n (sym is))

    pub inner-live : (k : ℕ) → Some k ≡ first_resident (world m) (path m n) → IsLive m (at n k)
    unfolding kind_there
    inner-live k here =
        let found = lowest-found SLOTS (λ j. option_map (λ b. j) ((world m).body (j ∷ path m n))) k (sym here) in
        by found.0 ((world m).body (found.0 ∷ path m n)) refl found.1
      where
        by : (j : ℕ) (o : Option Body) →
            (world m).body (j ∷ path m n) ≡ o → option_map (λ b. j) o ≡ Some k → is_some (option_map kind_of ((world m).body (k ∷ path m n))) ≡ true
        by j None e h = absurd (cc)
        by j (Some b) e h = let same : j ≡ k = cc in rw (← same, e) refl

-- ---- the lowest name of a space's inside

none_lowest : {A : Type 0} (n : ℕ) (f : ℕ → Option A) → ((k : ℕ) → k < n → f k ≡ None) → lowest n f ≡ None
unfolding lowest
none_lowest zero f none = refl
none_lowest (suc n) f none = rw (none_lowest n f (λ k low. none k (omega (arith, low))), none n (omega arith)) refl

module _ (m : Contents) (kept : IsWellFormed m) (space : ℕ) where
  abbrev seen : ℕ → Option ℕ
  seen = taken (world m) (path m space)

  seen-there : (k : ℕ) → seen k ≡ option_map (λ b. k) (option_map (body_by (path m)) (get m.bodies (at space k)))
  seen-there k = ap (option_map (λ b. k)) (body-place m kept (at space k))

  seen-none : (k : ℕ) → get m.bodies (at space k) ≡ None → seen k ≡ None
  seen-none k none = seen-there k ∙ ap (λ o. option_map (λ b. k) (option_map (body_by (path m)) o)) none

  pub first-found : (slot : ℕ) → slot < 256 → IsSome (get m.bodies (at space slot)) → ((k : ℕ) → IsSome (get m.bodies (at space k)) → slot ≤ k) →
      Some slot ≡ first_resident (world m) (path m space)
  first-found slot low there lowest_one = sym (lowest-first 256 slot seen (Some slot) (none_lowest slot seen before)
      (here (get m.bodies (at space slot)) there refl) refl low)
    where
      here : (o : Option bodies_of.Body) → IsSome o → get m.bodies (at space slot) ≡ o → seen slot ≡ Some slot
      here None h e = absurd (cc)
      here (Some b) h e = seen-there slot ∙ ap (λ o. option_map (λ b. slot) (option_map (body_by (path m)) o)) e

      before : (k : ℕ) → k < slot → seen k ≡ None
      before k less = by (get m.bodies (at space k)) refl
        where
          by : (o : Option bodies_of.Body) → get m.bodies (at space k) ≡ o → seen k ≡ None
          by None e = seen-none k e
          by (Some b) e = let past = lowest_one k (rw e refl) in absurd (omega (arith, past, less))

  pub none-found : ((k : ℕ) → get m.bodies (at space k) ≡ None) → None ≡ first_resident (world m) (path m space)
  none-found none = sym (none_lowest SLOTS seen (λ k low. seen-none k (none k)))

pub short_name : (m : Contents) → IsWellFormed m → (who : Who) → IsSome (get m.bodies who) → who.slot < 256
short_name m kept who there = kept.slots who (by (get m.bodies who) there)
  where
    by : (o : Option bodies_of.Body) → IsSome o → is_some o ≡ true
    by None h = absurd (cc)
    by (Some b) h = refl
