-- Sets: another body for an object of the same kind is the body at its path, and nothing else.
use Rattle.std.proofs.Common.{◌≡◌, ℕ, zero, suc, Bool, true, false, cond, ◌&&◌, ◌==◌, [], ◌∷◌, Option, Some, None, option_map, is_some, refl, sym, ap}
use Rattle.std.proofs.Common.{subst, ◌∙◌, arith}
use Rattle.std.proofs.lemmas.Bool.Decides.{nat_tests}
use Rattle.std.specs.Ordering.{eq_by_cmp}
use Rattle.std.specs.FinMap.{get, insert, get-insert}
use Rattle.fk_model.specs.declared.names.Who.{Who}
use Rattle.fk_model.specs.declared.body.Body as bodies_of
use Rattle.fk_model.specs.Places.{Path, same_path}
use Rattle.fk_model.specs.Objects.{kind_of, and_then}
use Rattle.fk_model.specs.World.{Edit, edited, apply}
use Rattle.fk_model.specs.World.Change.{Make, Alter}
use Rattle.fk_model.specs.Valid.{kind_there}
use Rattle.fk_store.specs.Store.Names.{at, who_cmp}
use Rattle.fk_store.specs.Store.Contents.{Contents, stored_birth, birth_there, home, is_live}
use Rattle.fk_store.specs.Store.Paths.{place, from_home, path_by, path, space_at, IsAtHome}
use Rattle.fk_store.specs.Store.Bodies.{body_by}
use Rattle.fk_store.specs.Store.World.{world, body_at, IsLive}
use Rattle.fk_store.specs.Store.Named.{OnNamed}
use Rattle.fk_store.specs.Store.WellFormed.{is_there, IsSized, IsWellFormed}
use Rattle.fk_store.proofs.InFreezing.NameLaws.{who_total, who_tied}
use Rattle.fk_store.proofs.InStore.finding.NamedLaws.{OnNamed-map}
use Rattle.fk_store.proofs.InStore.changing.Changes.{make-alter, kinds-make}
use Rattle.fk_store.proofs.InStore.finding.LookUps.{IsLive-there}
use Rattle.fk_store.specs.Freezing.Marks.{is_of_pages}
use Rattle.fk_store.proofs.InFreezing.ProceedLaws.{some-alike}
use Rattle.fk_store.proofs.InStore.changing.Bare.{pages-alike}
use Rattle.fk_store.proofs.InStore.changing.SameKinds.{kind-there, same-birth}
use Rattle.fk_store.proofs.InStore.finding.Homes.{home-found, home-none}
use Rattle.fk_store.proofs.InStore.finding.Walks.{same_path_true, space_at-path, same_space}

-- a name at a path's slot and space is another only where the slot or the space is another
pub tied : (n j : ℕ) (who : Who) → eq_by_cmp who_cmp (at n j) who ≡ (j == who.slot && n == who.space)
tied n j who = grind (arith, nat_tests)

pub false_right : (b : Bool) → (b && false) ≡ false
false_right true = refl
false_right false = refl

-- where the births of all spaces stay, so do their homes and paths
module _ (m : Contents) (kept : IsWellFormed m) (m2 : Contents) (births : (who : Who) → birth_there m2 who ≡ birth_there m who) where
  pub home-births : (n : ℕ) → home m2 n ≡ home m n
  home-births n = by (home m2 n) refl (home m n) refl
    where
      by : (o : Option Who) → home m2 n ≡ o → (p : Option Who) → home m n ≡ p → o ≡ p
      by None a None b = refl
      by None a (Some who) b = absurd (home-none m2 n who a (births who ∙ home-found m n who b))
      by (Some who) a None b = absurd (home-none m n who b (sym (births who) ∙ home-found m2 n who a))
      by (Some who) a (Some other) b = sym (kept.alone who n (sym (births who) ∙ home-found m2 n who a)) ∙ b

  pub is_live-births : (n : ℕ) → is_live m2 n ≡ is_live m n
  is_live-births n = rw (home-births n) refl

  path_by-births : (k : ℕ) → path_by k m2 ≡ path_by k m
  unfolding path_by
  path_by-births zero = refl
  path_by-births (suc k) = λ i n. cond (n == 0) [] (from_home (path_by-births k i) (home-births n i))

  pub path-births : path m2 ≡ path m
  unfolding path
  path-births = λ i n. path_by-births n i n

  pub space_at-births : (s : Path) → space_at m2 s ≡ space_at m s
  unfolding space_at
  space_at-births [] = refl
  space_at-births (k ∷ s) = λ i. and_then (λ n. births (at n k) i) (space_at-births s i)

-- the contents with another body at a name
abbrev pub with_body : Contents → Who → bodies_of.Body → Contents
with_body m who b = record m { bodies = insert m.bodies who b }

chosen_mapped : {A B : Type 0} (t : Bool) (f : A → B) (a : A) (o : Option A) → option_map f (cond t (Some a) o) ≡ cond t (Some (f a)) (option_map f o)
chosen_mapped true f a o = refl
chosen_mapped false f a o = refl

module _ (m : Contents) (kept : IsWellFormed m) (who : Who) (live : is_live m who.space ≡ true) where
  -- where a walk down finds no space, there isn't that of the name
  pub lost_apart : (s : Path) → space_at m s ≡ None → same_path s (path m who.space) ≡ false
  lost_apart s none = by (same_path s (path m who.space)) refl
    where
      by : (b : Bool) → same_path s (path m who.space) ≡ b → b ≡ false
      by false e = refl
      by true e =
          let same = same_path_true s (path m who.space) e in
          let found : space_at m s ≡ Some who.space = subst (λ t. space_at m t ≡ Some who.space) (sym same) (space_at-path m kept who.space live) in
          absurd (cc)

  -- what a walk down finds, once a body is put under the name
  pub put_at : {A : Type 0} (b : bodies_of.Body) (f : bodies_of.Body → A) (j : ℕ) (s : Path) →
      and_then (λ n. option_map f (get (insert m.bodies who b) (at n j)))
      (space_at m s) ≡ cond (same_path (j ∷ s) (place (path m) who)) (Some (f b)) (and_then (λ n. option_map f (get m.bodies (at n j))) (space_at m s))
  unfolding same_path
  put_at {A = A} b f j s = by (space_at m s) refl
    where
      by : (o : Option ℕ) → space_at m s ≡ o → and_then (λ n. option_map f (get (insert m.bodies who b) (at n j)))
          o ≡ cond (j == who.slot && same_path s (path m who.space)) (Some (f b)) (and_then (λ n. option_map f (get m.bodies (at n j))) o)
      by None none = rw (lost_apart s none, false_right (j == who.slot)) refl
      by (Some n) here = rw (get-insert who_total m.bodies who b (at n j), tied n j who, same_space m kept s n who.space here)
          (chosen_mapped (j == who.slot && n == who.space) f b (get m.bodies (at n j)))

-- an object is given another body of the same birth number, if any
module _ (m : Contents)
    (kept : IsWellFormed m) (who : Who) (old b : bodies_of.Body) (there : get m.bodies who ≡ Some old) (same : stored_birth b ≡ stored_birth old) where
  put_births : (q : Who) → birth_there (with_body m who b) q ≡ birth_there m q
  put_births q = rw (get-insert who_total m.bodies who b q) (by (eq_by_cmp who_cmp q who) refl)
    where
      by : (t : Bool) → eq_by_cmp who_cmp q who ≡ t → and_then stored_birth (cond t (Some b) (get m.bodies q)) ≡ birth_there m q
      by false e = refl
      by true e = let here : q ≡ who = who_tied q who e in rw (here, there) same

  put_there : (q : Who) → is_there (with_body m who b) q ≡ is_there m q
  put_there q = rw (get-insert who_total m.bodies who b q) (by (eq_by_cmp who_cmp q who) refl)
    where
      by : (t : Bool) → eq_by_cmp who_cmp q who ≡ t → is_some (cond t (Some b) (get m.bodies q)) ≡ is_there m q
      by false e = refl
      by true e = let here : q ≡ who = who_tied q who e in rw (here, there) refl

  live_there : is_live m who.space ≡ true
  live_there = kept.housed who (rw there refl)

  pub path-set : path (with_body m who b) ≡ path m
  path-set = path-births m kept (with_body m who b) put_births

  -- the world has that body at the path
  pub world-set : world (with_body m who b) ≡ apply (Make (place (path m) who) (body_by (path m) b)) (world m)
  unfolding world apply same_path
  world-set = λ i. record {
    body = λ q. bodies q i;
    page = λ s page. and_then (λ n. get m.pages (n, page)) (space_at-births m kept (with_body m who b) put_births s i);
    next = m.next;
  }
    where
      bodies : (q : Path) → body_at (with_body m who b) q ≡ cond (same_path q (place (path m) who)) (Some (body_by (path m) b)) (body_at m q)
      bodies [] = refl
      bodies (j ∷ s) = rw (path-set, space_at-births m kept (with_body m who b) put_births s) (put_at m kept who live_there b (body_by (path m)) j s)

  kept_named : OnNamed (λ q. is_there m q ≡ true) b →
      (q : Who) (c : bodies_of.Body) → get (insert m.bodies who b) q ≡ Some c → OnNamed (λ q. is_there (with_body m who b) q ≡ true) c
  kept_named named q c h = OnNamed-map (λ q. is_there m q ≡ true) (λ q. is_there (with_body m who b) q ≡ true)
      (λ q there. put_there q ∙ there) c (by (eq_by_cmp who_cmp q who) (sym (get-insert who_total m.bodies who b q) ∙ h))
    where
      by : (t : Bool) → cond t (Some b) (get m.bodies q) ≡ Some c → OnNamed (λ q. is_there m q ≡ true) c
      by true e = let same : b ≡ c = cc in subst (OnNamed (λ q. is_there m q ≡ true)) same named
      by false e = kept.leads q c e

  kept_sized : IsSized b → (q : Who) (c : bodies_of.Body) → get (insert m.bodies who b) q ≡ Some c → IsSized c
  kept_sized sized q c h = by (eq_by_cmp who_cmp q who) (sym (get-insert who_total m.bodies who b q) ∙ h)
    where
      by : (t : Bool) → cond t (Some b) (get m.bodies q) ≡ Some c → IsSized c
      by true e = let same : b ≡ c = cc in subst IsSized same sized
      by false e = kept.sized q c e

  pub kept-set : OnNamed (λ q. is_there m q ≡ true) b → IsSized b → IsWellFormed (with_body m who b)
  kept-set named sized = record {
    begun = kept.begun;
    alone = λ q n h. home-births m kept (with_body m who b) put_births n ∙ kept.alone q n (sym (put_births q) ∙ h);
    younger = λ q n h. kept.younger q n (sym (put_births q) ∙ h);
    born = λ q n h. kept.born q n (sym (put_births q) ∙ h);
    slots = λ q h. kept.slots q (sym (put_there q) ∙ h);
    housed = λ q h. is_live-births m kept (with_body m who b) put_births q.space ∙ kept.housed q (sym (put_there q) ∙ h);
    paged = λ space page h. is_live-births m kept (with_body m who b) put_births space ∙ kept.paged space page h;
    leads = kept_named named;
    sized = kept_sized sized;
    full = kept.full;
  }

-- what a set of a body of the same kind leaves
module _ (m : Contents) (kept : IsWellFormed m) (who : Who)
    (b : bodies_of.Body) (kind : kind_there (world m) (place (path m) who) ≡ Some (kind_of (body_by (path m) b))) (home : IsAtHome (path m) who b) where
  pub set-there : is_there m who ≡ true
  set-there = ap is_some (kind-there m kept who _ kind).1

  old_body : bodies_of.Body
  old_body = (kind-there m kept who _ kind).0

  old_there : get m.bodies who ≡ Some old_body
  unfolding old_body
  old_there = (kind-there m kept who _ kind).1

  keeps_birth : stored_birth b ≡ stored_birth old_body
  unfolding old_body
  keeps_birth = same-birth m kept who old_body b old_there (kind-there m kept who _ kind).2 home

  -- a space keeps its birth number
  pub set-birth : birth_there m who ≡ stored_birth b
  set-birth = ap (and_then stored_birth) old_there ∙ sym keeps_birth

  -- a mapping or a region was one
  pub set-pages : (a : bodies_of.Body) → get m.bodies who ≡ Some a → is_of_pages b ≡ true → is_of_pages a ≡ true
  unfolding old_body
  set-pages a there so =
      let same : old_body ≡ a = some-alike _ _ _ old_there there in
      ap is_of_pages (sym same) ∙ pages-alike (path m) old_body b (kind-there m kept who _ kind).2 ∙ so

  pub set-kept : OnNamed (IsLive m) b → IsSized b → IsWellFormed (with_body m who b)
  set-kept named sized =
      kept-set m kept who old_body b old_there keeps_birth (OnNamed-map (IsLive m) (λ q. is_there m q ≡ true) (IsLive-there m kept) b named) sized

  pub set-world : world (with_body m who b) ≡ apply (Make (place (path m) who) (body_by (path m) b)) (world m)
  set-world = world-set m kept who old_body b old_there keeps_birth

  pub set-edits : (e : Edit) → option_map (edited e) ((world m).body (place (path m) who)) ≡ Some (body_by (path m) b) →
      world (with_body m who b) ≡ apply (Alter (place (path m) who) e) (world m)
  set-edits e is = set-world ∙ make-alter (world m) (place (path m) who) (body_by (path m) b) e is

  pub set-kinds : kind_there (world (with_body m who b)) ≡ kind_there (world m)
  set-kinds = ap kind_there set-world ∙ kinds-make (world m) (place (path m) who) (body_by (path m) b) kind

  pub set-paths : path (with_body m who b) ≡ path m
  set-paths = path-set m kept who old_body b old_there keeps_birth
