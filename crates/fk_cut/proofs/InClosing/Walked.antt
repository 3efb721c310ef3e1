-- Walked: the walk through a subtree comes to its objects in their order.
use Rattle.std.proofs.Common.{◌≡◌, ℕ, zero, suc, ◌+◌, ◌-◌, ◌^◌, ◌<◌, ◌≤◌, ◌==◌, Bool, true, false, if◌then◌else◌, List, [], ◌∷◌, ◌++◌, length, map}
use Rattle.std.proofs.Common.{filter, flat_map, Option, Some, None, Result, Ok, Err, OnOk, option_map, is_some, IsSome, refl, sym, ap, subst, ◌∙◌}
use Rattle.std.proofs.Common.{inl, inr, arith}
use Rattle.std.specs.FinMap.{get}
use Rattle.std.specs.List.{AllByRecursion}
use Rattle.std.proofs.lemmas.List.{append-nil, append_assoc, map-append}
use Rattle.fk_model.specs.declared.limits.TheConstants.{SLOTS}
use Rattle.fk_model.specs.declared.names.Who.{Who}
use Rattle.fk_model.specs.declared.names.Kind.{Kind}
use Rattle.fk_model.specs.declared.names.Kind.TheVariants as kinds
use Rattle.fk_model.specs.declared.body.Body as bodies_of
use Rattle.fk_model.specs.declared.body.Body.TheVariants as bodies
use Rattle.fk_model.specs.Cut.{cut, cutting, ports_of, seen_by, unheld}
use Rattle.fk_model.specs.Objects.{Body, kind_of, and_then}
use Rattle.fk_model.specs.Places.{Path, is_within}
use Rattle.fk_model.specs.Searches.{slots, residents, depth, beneath_by, beneath, objects}
use Rattle.fk_model.specs.Valid.{kind_there}
use Rattle.fk_model.specs.World.{World}
use Rattle.fk_model.proofs.walks.Members.{IsIn}
use Rattle.fk_store.specs.Store.Bodies.{body_by}
use Rattle.fk_store.specs.Store.Contents.{Contents, stored_birth, birth_there, home}
use Rattle.fk_store.specs.Store.Names.{at}
use Rattle.fk_store.specs.Store.Paths.{path, path_by, from_home, space_at, IsAtHome}
use Rattle.fk_store.specs.Store.World.{world, place_of}
use Rattle.fk_store.proofs.InStore.finding.Listed.{objects-live}
use Rattle.fk_cut.specs.Closing.Walks.{AreObjects, IsPart}
use Rattle.fk_cut.proofs.InClosing.Ways.{within_below}

-- ---- the residents of a space, from the last slot down

abbrev pub taken : World → Path → ℕ → Bool
taken w s k = is_some (w.body (k ∷ s))

filter-append : {A : Type 0} (test : A → Bool) (xs ys : List A) → filter test (xs ++ ys) ≡ filter test xs ++ filter test ys
filter-append test [] ys = refl
filter-append test (x ∷ xs) ys = by (test x) (filter-append test xs ys)
  where
    by : (b : Bool) → filter test (xs ++ ys) ≡ filter test xs ++ filter test ys →
        (if b then x ∷ filter test (xs ++ ys) else filter test (xs ++ ys)) ≡ (if b then x ∷ filter test xs else filter test xs) ++ filter test ys
    by true h = ap (λ zs. x ∷ zs) h
    by false h = h

-- the residents in the first n slots are yet to be put before a list
abbrev pub awaited : World → Path → ℕ → ℕ → List Who → List Who
awaited w s space n stack = map (at space) (filter (taken w s) (slots n)) ++ stack

pub awaits_more : (w : World) (s : Path) (space n : ℕ) (stack new : List Who) →
    new ≡ (if taken w s n then at space n ∷ stack else stack) → awaited w s space n new ≡ awaited w s space (suc n) stack
unfolding slots
awaits_more w s space n stack new is =
    rw (
      filter-append (taken w s) (slots n) (n ∷ []),
      map-append (at space) (filter (taken w s) (slots n)) (filter (taken w s) (n ∷ [])),
      append_assoc (map (at space) (filter (taken w s) (slots n))) (map (at space) (filter (taken w s) (n ∷ []))) stack,
    )
    (ap (λ zs. map (at space) (filter (taken w s) (slots n)) ++ zs) (is ∙ by (taken w s n)))
  where
    by : (b : Bool) → (if b then at space n ∷ stack else stack) ≡ map (at space) (if b then n ∷ [] else []) ++ stack
    by true = refl
    by false = refl

pub awaits_none : (w : World) (s : Path) (space : ℕ) (stack : List Who) → awaited w s space 0 stack ≡ stack
unfolding slots
awaits_none w s space stack = refl

pub awaits_all : (w : World) (s : Path) (space n : ℕ) (stack : List Who) → n ≡ 256 → awaited w s space n stack ≡ map (at space) (residents w s) ++ stack
unfolding residents
awaits_all w s space n stack all = ap (λ n. awaited w s space n stack) all

pub awaits_next : (w : World) (s : Path) (space left : ℕ) (stack new first : List Who) → 0 < left →
    new ≡ (if taken w s (left - 1) then at space (left - 1) ∷ stack else stack) → awaited w s space left stack ≡ awaited w s space 256 first →
    awaited w s space (left - 1) new ≡ awaited w s space 256 first
awaits_next w s space left stack new first some is so_far =
    let one : suc (left - 1) ≡ left = omega arith in
    awaits_more w s space (left - 1) stack new is ∙ ap (λ n. awaited w s space n stack) one ∙ so_far

pub awaits_done : (w : World) (s : Path) (space left : ℕ) (stack first : List Who) → left ≡ 0 →
    awaited w s space left stack ≡ awaited w s space 256 first → stack ≡ map (at space) (residents w s) ++ first
awaits_done w s space left stack first none so_far =
    sym (awaits_none w s space stack) ∙ ap (λ n. awaited w s space n stack) (sym none) ∙ so_far ∙ awaits_all w s space 256 first refl

-- ---- by their paths

map_named : (m : Contents) (n : ℕ) (ks : List ℕ) → map (place_of m) (map (at n) ks) ≡ map (λ k. k ∷ path m n) ks
map_named m n [] = refl
map_named m n (k ∷ ks) = ap (λ xs. (k ∷ path m n) ∷ xs) (map_named m n ks)

pub inner_space : (m : Contents) (who : Who) (birth : ℕ) (old new : List Who) → path m birth ≡ place_of m who →
    new ≡ map (at birth) (residents (world m) (path m birth)) ++ old →
    map (place_of m) new ≡ map (λ k. k ∷ place_of m who) (residents (world m) (place_of m who)) ++ map (place_of m) old
inner_space m who birth old new home is =
    ap (map (place_of m)) is ∙ map-append (place_of m) (map (at birth) (residents (world m) (path m birth))) old
    ∙ ap (λ xs. xs ++ map (place_of m) old)
    (map_named m birth (residents (world m) (path m birth)) ∙ ap (λ s. map (λ k. k ∷ s) (residents (world m) s)) home)

pub home_at : (m : Contents) (who : Who) (b : bodies_of.Body) (birth : ℕ) (holder : Option Who) → b ≡ bodies.Space birth holder → IsAtHome (path m) who b →
    path m birth ≡ place_of m who
home_at m who b birth holder is home = subst (IsAtHome (path m) who) is home

pub inner_ok : (m : Contents) (who : Who) (birth : ℕ) (old new : List Who) {E : Type 0} (r : Result (Unit {0}) E) → path m birth ≡ place_of m who →
    OnOk r (new ≡ map (at birth) (residents (world m) (path m birth)) ++ old) →
    OnOk r (map (place_of m) new ≡ map (λ k. k ∷ place_of m who) (residents (world m) (place_of m who)) ++ map (place_of m) old)
inner_ok m who birth old new (Ok done) home is = inner_space m who birth old new home is
inner_ok m who birth old new (Err e) home is = tt

-- only in a space something stands
in_space : (m : Contents) (k : ℕ) (x : Path) → is_some ((world m).body (k ∷ x)) ≡ true → kind_there (world m) x ≡ Some kinds.Space
unfolding world kind_there space_at
in_space m k [] h = refl
in_space m k (j ∷ x) h = by (space_at m x) h
  where
    born : (o : Option bodies_of.Body) → is_some (and_then (λ n. option_map (body_by (path m)) (get m.bodies (at n k))) (and_then stored_birth o)) ≡ true →
        option_map kind_of (option_map (body_by (path m)) o) ≡ Some kinds.Space
    born None h = absurd (cc)
    born (Some (bodies.Space birth holder)) h = refl
    born (Some (bodies.Mutex locked)) h = absurd (cc)
    born (Some bodies.Cond) h = absurd (cc)
    born (Some (bodies.Mapping first count offset write region)) h = absurd (cc)
    born (Some (bodies.Region first count write keeper)) h = absurd (cc)
    born (Some (bodies.Port set served)) h = absurd (cc)
    born (Some bodies.Portset) h = absurd (cc)
    born (Some (bodies.Thread thread)) h = absurd (cc)
    born (Some (bodies.Reference to)) h = absurd (cc)

    by : (o : Option ℕ) →
        is_some (and_then (λ n. option_map (body_by (path m)) (get m.bodies (at n k))) (and_then (λ n. birth_there m (at n j)) o)) ≡ true →
        option_map kind_of (and_then (λ n. option_map (body_by (path m)) (get m.bodies (at n j))) o) ≡ Some kinds.Space
    by None h = absurd (cc)
    by (Some n) h = born (get m.bodies (at n j)) h

filter-none : (test : ℕ → Bool) → ((k : ℕ) → test k ≡ false) → (ks : List ℕ) → filter test ks ≡ []
filter-none test none [] = refl
filter-none test none (k ∷ ks) = rw (none k, filter-none test none ks) refl

pub inner_nothing : (m : Contents) (x : Path) → (kind_there (world m) x ≡ Some kinds.Space → ⊥) → residents (world m) x ≡ []
unfolding residents
inner_nothing m x other = filter-none (taken (world m) x) (λ k. by k (taken (world m) x k) refl) (slots SLOTS)
  where
    by : (k : ℕ) (b : Bool) → taken (world m) x k ≡ b → b ≡ false
    by k false e = refl
    by k true e = absurd (other (in_space m k x e))

pub no_kind : (o : Option Kind) → o ≡ None → o ≡ Some kinds.Space → ⊥
no_kind o none some = absurd (cc)

-- where no space stands nothing is put before a list
pub inner_none : (m : Contents) (who : Who) (old : List Who) → (kind_there (world m) (place_of m who) ≡ Some kinds.Space → ⊥) →
    map (place_of m) old ≡ map (λ k. k ∷ place_of m who) (residents (world m) (place_of m who)) ++ map (place_of m) old
inner_none m who old other = ap (λ ks. map (λ k. k ∷ place_of m who) ks ++ map (place_of m) old) (sym (inner_nothing m (place_of m who) other))

-- ---- all that lies at and beneath some objects of a subtree with a root r

abbrev pub below : World → Path → Path → List Path
below w r x = beneath_by (depth + length r - length x) w x

abbrev pub trees : World → Path → List Path → List Path
trees w r xs = flat_map (λ x. x ∷ below w r x) xs

flat_map_append : {A B : Type 0} (f : A → List B) (xs ys : List A) → flat_map f (xs ++ ys) ≡ flat_map f xs ++ flat_map f ys
flat_map_append f [] ys = refl
flat_map_append f (x ∷ xs) ys = ap (λ zs. f x ++ zs) (flat_map_append f xs ys) ∙ sym (append_assoc (f x) (flat_map f xs) (flat_map f ys))

flat_map_map : {A B C : Type 0} (f : B → List C) (g : A → B) (xs : List A) → flat_map f (map g xs) ≡ flat_map (λ x. f (g x)) xs
flat_map_map f g [] = refl
flat_map_map f g (x ∷ xs) = ap (λ zs. f (g x) ++ zs) (flat_map_map f g xs)

below_step : (w : World) (r x : Path) → length x < depth + length r → below w r x ≡ trees w r (map (λ k. k ∷ x) (residents w x))
unfolding beneath_by
below_step w r x short =
    let more : depth + length r - length x ≡ suc (depth + length r - suc (length x)) = omega arith in
    ap (λ n. beneath_by n w x) more ∙ sym (flat_map_map (λ y. y ∷ below w r y) (λ k. k ∷ x) (residents w x))

-- the next object stands before what lies in it, and that before the rest
pub walks_on : (w : World) (r x : Path) (rest new : List Path) →
    length x < depth + length r → new ≡ map (λ k. k ∷ x) (residents w x) ++ rest → trees w r (x ∷ rest) ≡ x ∷ trees w r new
walks_on w r x rest new short is =
    ap (λ ys. x ∷ (ys ++ trees w r rest)) (below_step w r x short)
    ∙ ap (λ ys. x ∷ ys) (sym (flat_map_append (λ y. y ∷ below w r y) (map (λ k. k ∷ x) (residents w x)) rest) ∙ sym (ap (trees w r) is))

-- no path is longer than the number of its space
long_by : (k : ℕ) (m : Contents) (n : ℕ) → length (path_by k m n) ≤ k
unfolding path_by
long_by zero m n = omega arith
long_by (suc k) m n = by (n == 0) (home m n) (λ q. long_by k m q)
  where
    up : (o : Option Who) → ((q : ℕ) → length (path_by k m q) ≤ k) → length (from_home (path_by k m) o) ≤ suc k
    up None all = omega arith
    up (Some who) all = let long = all who.space in omega (arith, long)

    by : (b : Bool) (o : Option Who) → ((q : ℕ) → length (path_by k m q) ≤ k) → length (if b then [] else from_home (path_by k m) o) ≤ suc k
    by true o all = omega arith
    by false o all = up o all

pub short : (m : Contents) (root who : Who) → who.space < 2 ^ 32 → length (place_of m who) < depth + length (place_of m root)
unfolding path
short m root who low = let long = long_by who.space m who.space in omega (arith, long)

pub few_above : (m : Contents) (who : Who) → who.space < 2 ^ 32 → length (path m who.space) < depth
unfolding path
few_above m who low = let long = long_by who.space m who.space in omega (arith, long)

-- ---- the subtree seen alone has the same objects

kept : {A B : Type 0} (f : A → B) (o : Option A) → is_some (option_map f o) ≡ is_some o
kept f None = refl
kept f (Some a) = refl

module _ (w : World) (nester : Path) (slot : ℕ) where
  abbrev r : Path
  r = slot ∷ nester

  abbrev c : World
  c = cut w nester slot

  abbrev outer : Path → Path
  outer q = q ++ r

  same_residents : (q : Path) → residents c q ≡ residents w (q ++ r)
  unfolding cut residents
  same_residents q = λ i. filter (λ k. kept {A = Body} {B = Body}
      (λ b. unheld (k ∷ q) (seen_by (cutting (ports_of w nester slot) nester slot) b)) (w.body (k ∷ (q ++ r))) i) (slots SLOTS)

  abbrev inner_block : ℕ → Path → ℕ → List Path
  inner_block n q k = (k ∷ q) ∷ beneath_by n c (k ∷ q)

  abbrev outer_block : ℕ → Path → ℕ → List Path
  outer_block n q k = (k ∷ (q ++ r)) ∷ beneath_by n w (k ∷ (q ++ r))

  blocks_alone : (n : ℕ) (q : Path) → ((k : ℕ) → map outer (beneath_by n c (k ∷ q)) ≡ beneath_by n w (k ∷ (q ++ r))) →
      (ks : List ℕ) → map outer (flat_map (inner_block n q) ks) ≡ flat_map (outer_block n q) ks
  blocks_alone n q each [] = refl
  blocks_alone n q each (k ∷ ks) =
      map-append outer (inner_block n q k) (flat_map (inner_block n q) ks)
      ∙ ap (λ xs. (k ∷ (q ++ r)) ∷ (xs ++ map outer (flat_map (inner_block n q) ks))) (each k)
      ∙ ap (λ xs. (k ∷ (q ++ r)) ∷ (beneath_by n w (k ∷ (q ++ r)) ++ xs)) (blocks_alone n q each ks)

  walk_alone : (n : ℕ) (q : Path) → map outer (beneath_by n c q) ≡ beneath_by n w (q ++ r)
  unfolding beneath_by
  walk_alone zero q = refl
  walk_alone (suc n) q =
      blocks_alone n q (λ k. walk_alone n (k ∷ q)) (residents c q) ∙ ap (flat_map (outer_block n q)) (same_residents q)

  pub whole_walk : trees w r (r ∷ []) ≡ map outer ([] ∷ objects c)
  unfolding beneath
  whole_walk =
      let all : depth + length r - length r ≡ depth = omega arith in
      append-nil (r ∷ below w r r) ∙ ap (λ n. r ∷ beneath_by n w r) all ∙ ap (λ xs. r ∷ xs) (sym (walk_alone depth []))

  seen_there : (q : Path) → IsSome (c.body q) → IsSome (w.body (q ++ r))
  unfolding cut
  seen_there q h = sym (kept {A = Body} {B = Body} (λ b. unheld q (seen_by (cutting (ports_of w nester slot) nester slot) b)) (w.body (q ++ r))) ∙ h

  pub each_there : IsSome (w.body r) → (q : Path) → IsIn q ([] ∷ objects c) → IsSome (w.body (q ++ r))
  each_there root q (inl e) = subst (λ q. IsSome (w.body (q ++ r))) e root
  each_there root q (inr h) = seen_there q (objects-live c q h)

-- ---- the loop

module _ (m : Contents) (root : Who) where
  abbrev left : List Who → List Path
  left stack = trees (world m) (place_of m root) (map (place_of m) stack)

  pub walk_begins : (objects stack old : List Who) → objects ≡ [] → stack ≡ root ∷ old → old ≡ [] →
      map (place_of m) objects ++ left stack ≡ trees (world m) (place_of m root) (place_of m root ∷ [])
  walk_begins objects stack old none one empty = rw (none, one, empty) refl

  -- one object less is left
  left_less : (who : Who) (old rest new : List Who) → who.space < 2 ^ 32 → old ≡ who ∷ rest →
      map (place_of m) new
      ≡ map (λ k. k ∷ place_of m who) (residents (world m) (place_of m who)) ++ map (place_of m) rest → left old ≡ place_of m who ∷ left new
  left_less who old rest new low popped put =
      ap left popped ∙ walks_on (world m) (place_of m root) (place_of m who) (map (place_of m) rest) (map (place_of m) new) (short m root who low) put

  pub walk_smaller : (who : Who) (old rest new : List Who) → who.space < 2 ^ 32 → old ≡ who ∷ rest →
      map (place_of m) new
      ≡ map (λ k. k ∷ place_of m who) (residents (world m) (place_of m who)) ++ map (place_of m) rest → length (left new) < length (left old)
  walk_smaller who old rest new low popped put = let one = ap length (left_less who old rest new low popped put) in omega (arith, one)

  pub walk_goes_on : (who : Who) (objects more old rest new : List Who) (whole : List Path) → who.space < 2 ^ 32 → old ≡ who ∷ rest →
      map (place_of m) new ≡ map (λ k. k ∷ place_of m who) (residents (world m) (place_of m who)) ++ map (place_of m) rest →
      more ≡ objects ++ who ∷ [] → map (place_of m) objects ++ left old ≡ whole → map (place_of m) more ++ left new ≡ whole
  walk_goes_on who objects more old rest new whole low popped put added so_far =
      ap (λ xs. map (place_of m) xs ++ left new) added ∙ ap (λ xs. xs ++ left new) (map-append (place_of m) objects (who ∷ []))
      ∙ append_assoc (map (place_of m) objects) (place_of m who ∷ []) (left new)
      ∙ ap (λ xs. map (place_of m) objects ++ xs) (sym (left_less who old rest new low popped put)) ∙ so_far

  pub walk_ends : (objects stack : List Who) → stack ≡ [] →
      map (place_of m) objects ++ left stack ≡ trees (world m) (place_of m root) (place_of m root ∷ []) → AreObjects m (path m root.space) root.slot objects
  walk_ends objects stack none so_far =
      sym (append-nil (map (place_of m) objects)) ∙ ap (λ xs. map (place_of m) objects ++ left xs) (sym none) ∙ so_far
      ∙ whole_walk (world m) (path m root.space) root.slot

live_there : (o : Option Body) → IsSome o → IsSome (option_map kind_of o)
live_there None h = absurd (cc)
live_there (Some b) h = refl

parts_from : (m : Contents) (root : Who) (whos : List Who) (qs : List Path) → map (place_of m) whos ≡ map (λ q. q ++ place_of m root) qs →
    ((q : Path) → IsIn q qs → IsSome ((world m).body (q ++ place_of m root))) → AllByRecursion (IsPart m root) whos
unfolding kind_there
parts_from m root [] qs same there = tt
parts_from m root (who ∷ whos) [] same there = absurd (cc)
parts_from m root (who ∷ whos) (q ∷ qs) same there =
    let first : place_of m who ≡ q ++ place_of m root = cc in
    let rest : map (place_of m) whos ≡ map (λ q. q ++ place_of m root) qs = cc in (
      record {
        live = subst (λ x. IsSome (option_map kind_of ((world m).body x))) (sym first)
            (live_there ((world m).body (q ++ place_of m root)) (there q (inl refl)));
        inside = ap (is_within (place_of m root)) first ∙ within_below (place_of m root) q;
      },
      parts_from m root whos qs rest (λ q h. there q (inr h)),
    )

-- each of them is an object of the subtree
pub are_parts : (m : Contents) (root : Who) (whos : List Who) → kind_there (world m) (place_of m root) ≡ Some kinds.Space →
    AreObjects m (path m root.space) root.slot whos → AllByRecursion (IsPart m root) whos
unfolding kind_there
are_parts m root whos space are =
    parts_from m root whos ([] ∷ objects (cut (world m) (path m root.space) root.slot)) are
    (each_there (world m) (path m root.space) root.slot (by ((world m).body (place_of m root)) space))
  where
    by : (o : Option Body) → option_map kind_of o ≡ Some kinds.Space → IsSome o
    by None h = absurd (cc)
    by (Some b) h = refl
