-- Porters may be made: the spaces are there, and no entry names their last slots.
use Rattle.std.proofs.Common.{◌≡◌, ℕ, suc, ◌+◌, ◌<◌, ◌≤◌, Bool, not, true, false, ◌&&◌, ◌||◌, ◌==◌, if◌then◌else◌, List, [], ◌∷◌, ◌++◌, append_assoc}
use Rattle.std.proofs.Common.{length, get_or, drop, reverse, Option, Some, None, option_map, is_some, IsSome, Ok, refl, sym, ap, subst, ◌∙◌, arith}
use Rattle.std.proofs.Common.{add-one}
use Rattle.std.proofs.Math.Seq.{drop-cons}
use Rattle.std.proofs.lemmas.List.{length-append, reverse-append, reverse-reverse}
use Rattle.std.proofs.lemmas.List.Elements.{All-nil, All-cons, All-head, All-tail}
use Rattle.std.proofs.lemmas.List.Folds.{list_any-append}
use Rattle.std.proofs.lemmas.Slice.Eq.{bytes_eq-Decides}
use Rattle.std.specs.List.{All, list_any, flat_map}
use Rattle.std.specs.Str.{bytes_eq}
use Rattle.fk_model.specs.declared.limits.TheConstants.{LAST_PORTER_SLOT}
use Rattle.fk_model.specs.declared.names.Kind.{Kind}
use Rattle.fk_model.specs.declared.names.Kind.TheVariants as kinds
use Rattle.fk_model.specs.Places.{Path, same_path}
use Rattle.fk_model.specs.Objects.{Body, kind_of, and_then}
use Rattle.fk_model.specs.Objects.Body.{Space}
use Rattle.fk_model.specs.World.{World, apply, apply_all}
use Rattle.fk_model.specs.World.Change.{Make}
use Rattle.fk_model.specs.Valid.{kind_there, birth_at, birth_of}
use Rattle.fk_store.proofs.InStore.finding.Walks.{not_root}
use Rattle.fk_store.specs.Store.Makes.{making}
use Rattle.fk_model.proofs.walks.PlaceLaws.{same_path_eq}
use Rattle.fk_scenario.specs.declared.entries.types.Program.{Program}
use Rattle.fk_scenario.specs.declared.entries.types.SpaceEntry.{SpaceEntry}
use Rattle.fk_scenario.specs.declared.entries.types.ObjectEntry.{ObjectEntry}
use Rattle.fk_scenario.specs.Entries.Kept.{AreSlots}
use Rattle.fk_scenario.specs.Fields.Paths.{enclosing}
use Rattle.fk_scenario.specs.Sections.Kept.{EachAfter, KeepsSpace, KeepsObject}
use Rattle.fk_scenario.specs.Sections.Spaces.{has_space, has_space_or_root, may_stand}
use Rattle.fk_scenario.specs.declared.entries.types.ServerEntry.{ServerEntry}
use Rattle.fk_scenario.specs.Scenario.Aims.{object_with, is_one}
use Rattle.fk_scenario.specs.Scenario.Servers.{is_lone_port, has_key, alias_of, has_new_alias, may_serve, serving_from}
use Rattle.fk_boot.specs.FirstWorld.{porter, porter_changes}
use Rattle.fk_boot.specs.MadeSoFar.{HasObjects, StandsAt, CanNest, AreNestable}
use Rattle.fk_boot.proofs.Aiming.{or_right, one-stands}
use Rattle.fk_boot.proofs.Changes.{apply_all-append}
use Rattle.fk_boot.proofs.MadeSoFar.{some}
use Rattle.fk_boot.proofs.validity.Pages.{birth-space}

-- ---- no entry names the last slot of a space

-- the last slot of a space is no user's
high-last : (path : List ℕ) → AreSlots (path ++ LAST_PORTER_SLOT ∷ []) → ⊥
high-last [] all = let low = All-head (λ slot. slot ≤ 239) 255 [] all in omega (arith, low)
high-last (k ∷ path) all = high-last path (All-tail (λ slot. slot ≤ 239) k (path ++ LAST_PORTER_SLOT ∷ []) all)

none-has : {X : Type 0} (path_of : X → List ℕ) (xs : List X) (path : List ℕ) → (AreSlots path → ⊥) → All (λ x. AreSlots (path_of x)) xs
    → list_any (λ x. bytes_eq (path_of x) path) xs ≡ false
none-has path_of [] path high all = refl
none-has path_of (x ∷ xs) path high all =
    by (bytes_eq (path_of x) path) refl (none-has path_of xs path high (All-tail (λ x. AreSlots (path_of x)) x xs all))
  where
    by : (t : Bool) → bytes_eq (path_of x) path ≡ t → list_any (λ x. bytes_eq (path_of x) path) xs ≡ false
        → (t || list_any (λ x. bytes_eq (path_of x) path) xs) ≡ false
    by true e rest =
        let same : path_of x ≡ path = (bytes_eq-Decides (path_of x) path).0 e in
        absurd (high (subst AreSlots same (All-head (λ x. AreSlots (path_of x)) x xs all)))
    by false e rest = rest

spaces-low : (programs : List Program) (done ss : List SpaceEntry) → EachAfter (KeepsSpace programs) done ss → All (λ (s : SpaceEntry). AreSlots s.path) ss
spaces-low programs done [] each = All-nil (λ (s : SpaceEntry). AreSlots s.path)
spaces-low programs done (s ∷ ss) each = All-cons (λ (s : SpaceEntry). AreSlots s.path) s ss (each.0).slots (spaces-low programs (done ++ s ∷ []) ss each.1)

objects-low : (spaces : List SpaceEntry) (done os : List ObjectEntry) → EachAfter (KeepsObject spaces) done os → All (λ (o : ObjectEntry). AreSlots o.path) os
objects-low spaces done [] each = All-nil (λ (o : ObjectEntry). AreSlots o.path)
objects-low spaces done (o ∷ os) each = All-cons (λ (o : ObjectEntry). AreSlots o.path) o os (each.0).slots (objects-low spaces (done ++ o ∷ []) os each.1)

nothing : (o : Option Body) → is_some o ≡ false → o ≡ None
nothing None h = refl
nothing (Some b) h = absurd (cc)

-- nothing stands in the last slot of any space
pub last-empty : (programs : List Program) (w : World) (spaces : List SpaceEntry) (objects : List ObjectEntry) (path : List ℕ) →
    EachAfter (KeepsSpace programs) [] spaces → EachAfter (KeepsObject spaces) [] objects → HasObjects w spaces objects
    → w.body (LAST_PORTER_SLOT ∷ reverse path) ≡ None
last-empty programs w spaces objects path keeps_spaces keeps_objects h =
    let slots = path ++ LAST_PORTER_SLOT ∷ [] in
    let turned : reverse slots ≡ LAST_PORTER_SLOT ∷ reverse path = reverse-append path (LAST_PORTER_SLOT ∷ []) in
    let no_space = none-has (λ (s : SpaceEntry). s.path) spaces slots (high-last path) (spaces-low programs [] spaces keeps_spaces) in
    let no_object = none-has (λ (o : ObjectEntry). o.path) objects slots (high-last path) (objects-low spaces [] objects keeps_objects) in
    let long = not_empty path in
    nothing (w.body (LAST_PORTER_SLOT ∷ reverse path)) (ap (λ (x : Path). is_some (w.body x)) (sym turned)
    ∙ (h.alone slots ∙ rw (long, no_space, no_object) refl))
  where
    not_empty : (path : List ℕ) → (length (path ++ LAST_PORTER_SLOT ∷ []) == 0) ≡ false
    not_empty path = let both = length-append path (LAST_PORTER_SLOT ∷ []) in not_root (length (path ++ LAST_PORTER_SLOT ∷ [])) (omega (arith, both))

-- ---- one porter after the other

-- what stood stands, and what was empty is, but where the porter is
kind-still : (w : World) (x q : Path) (b : Body) (k : Kind) → w.body x ≡ None → kind_there w q ≡ Some k → kind_there (apply (Make x b) w) q ≡ Some k
unfolding apply kind_there
kind-still w x q b k empty is = by (same_path q x) refl
  where
    by : (t : Bool) → same_path q x ≡ t → option_map kind_of (if t then Some b else w.body q) ≡ Some k
    by true e = let same : q ≡ x = same_path_eq q x e in let gone : option_map kind_of (w.body q) ≡ None = rw (same, empty) refl in absurd (cc)
    by false e = is

empty-still : (w : World) (x q : Path) (b : Body) → (q ≡ x → ⊥) → w.body q ≡ None → (apply (Make x b) w).body q ≡ None
unfolding apply
empty-still w x q b other is = by (same_path q x) refl
  where
    by : (t : Bool) → same_path q x ≡ t → (if t then Some b else w.body q) ≡ None
    by true e = absurd (other (same_path_eq q x e))
    by false e = is

abbrev parent-of : Path → Path
parent-of [] = []
parent-of (k ∷ x) = x

others-nest : (w : World) (s t : SpaceEntry) → bytes_eq s.path t.path ≡ false → CanNest w s → CanNest w t → CanNest (apply_all (porter_changes s) w) t
unfolding apply_all
others-nest w s t differ can other = by s.nester
  where
    apart : (LAST_PORTER_SLOT ∷ reverse t.path) ≡ (LAST_PORTER_SLOT ∷ reverse s.path) → ⊥
    apart e =
        let turned : reverse t.path ≡ reverse s.path = ap parent-of e in
        let same : s.path ≡ t.path = sym (sym (reverse-reverse t.path) ∙ (ap reverse turned ∙ reverse-reverse s.path)) in
        let yes = (bytes_eq-Decides s.path t.path).1 same in
        cc

    by : (nests : Bool) → CanNest (apply_all (if nests then Make (LAST_PORTER_SLOT ∷ reverse s.path) porter ∷ [] else []) w) t
    by true = record {
      space = kind-still w (LAST_PORTER_SLOT ∷ reverse s.path) (reverse t.path) porter kinds.Space can.empty other.space;
      empty = empty-still w (LAST_PORTER_SLOT ∷ reverse s.path) (LAST_PORTER_SLOT ∷ reverse t.path) porter apart other.empty;
    }
    by false = other

-- later spaces have other paths
later-differ : (programs : List Program) (path : List ℕ) (before ts : List SpaceEntry) → has_space before path ≡ true →
    EachAfter (KeepsSpace programs) before ts
    → All (λ (t : SpaceEntry). bytes_eq path t.path ≡ false) ts
later-differ programs path before [] has each = All-nil (λ (t : SpaceEntry). bytes_eq path t.path ≡ false)
later-differ programs path before (t ∷ ts) has each =
    All-cons (λ (t : SpaceEntry). bytes_eq path t.path ≡ false) t ts (by (bytes_eq path t.path) refl)
    (later-differ programs path (before ++ t ∷ []) ts (rw (list_any-append (λ (u : SpaceEntry). bytes_eq u.path path) before (t ∷ []), has) refl) each.1)
  where
    stood : (path : List ℕ) (before : List SpaceEntry) → may_stand before path ≡ true → has_space before path ≡ true → ⊥
    stood [] [] may has = cc
    stood [] (b ∷ before) may has = let some = not_root (length (b ∷ before)) (omega arith) in absurd (let no = rw some at may in cc)
    stood (k ∷ path) before may has = two (has_space_or_root before (enclosing (k ∷ path))) (rw (not_root (length (k ∷ path)) (omega arith), has) at may)
      where
        two : (a : Bool) → (a && false) ≡ true → ⊥
        two true h = cc
        two false h = cc

    by : (b : Bool) → bytes_eq path t.path ≡ b → b ≡ false
    by true e =
        let same : path ≡ t.path = (bytes_eq-Decides path t.path).0 e in
        absurd (stood t.path before (each.0).stands (subst (λ p. has_space before p ≡ true) same has))
    by false e = refl

all-nest : (w : World) (s : SpaceEntry) (ts : List SpaceEntry) → CanNest w s → All (λ (t : SpaceEntry). bytes_eq s.path t.path ≡ false) ts
    → All (CanNest w) ts → All (CanNest (apply_all (porter_changes s) w)) ts
all-nest w s [] can differ all = All-nil (CanNest (apply_all (porter_changes s) w))
all-nest w s (t ∷ ts) can differ all =
    All-cons (CanNest (apply_all (porter_changes s) w)) t ts
    (others-nest w s t (All-head (λ (t : SpaceEntry). bytes_eq s.path t.path ≡ false) t ts differ) can (All-head (CanNest w) t ts all))
    (all-nest w s ts can (All-tail (λ (t : SpaceEntry). bytes_eq s.path t.path ≡ false) t ts differ) (All-tail (CanNest w) t ts all))

itself-there : (done : List SpaceEntry) (s : SpaceEntry) → has_space (done ++ s ∷ []) s.path ≡ true
itself-there done s =
    let here : bytes_eq s.path s.path ≡ true = (bytes_eq-Decides s.path s.path).1 refl in
    rw (list_any-append (λ (u : SpaceEntry). bytes_eq u.path s.path) done (s ∷ []), here) (or_last (has_space done s.path))
  where
    or_last : (a : Bool) → (a || (true || false)) ≡ true
    or_last true = refl
    or_last false = refl

nestable-from : (programs : List Program) (done ss : List SpaceEntry) (w : World) → EachAfter (KeepsSpace programs) done ss → All (CanNest w) ss →
    AreNestable w ss
nestable-from programs done [] w each all = tt
nestable-from programs done (s ∷ ss) w each all =
    let can = All-head (CanNest w) s ss all in
    let differ = later-differ programs s.path (done ++ s ∷ []) ss (itself-there done s) each.1 in
    (can, nestable-from programs (done ++ s ∷ []) ss (apply_all (porter_changes s) w) each.1 (all-nest w s ss can differ (All-tail (CanNest w) s ss all)))

-- each entry is among all
each-among : (before ss : List SpaceEntry) → All (λ (s : SpaceEntry). has_space (before ++ ss) s.path ≡ true) ss
each-among before [] = All-nil (λ (s : SpaceEntry). has_space (before ++ []) s.path ≡ true)
each-among before (s ∷ ss) =
    All-cons (λ (t : SpaceEntry). has_space (before ++ (s ∷ ss)) t.path ≡ true) s ss
    (subst (λ all. has_space all s.path ≡ true) (append_assoc before (s ∷ []) ss) (has-more (before ++ s ∷ []) ss s.path (itself-there before s)))
    (subst (λ all. All (λ (t : SpaceEntry). has_space all t.path ≡ true) ss) (append_assoc before (s ∷ []) ss) (each-among (before ++ s ∷ []) ss))
  where
    has-more : (a b : List SpaceEntry) (path : List ℕ) → has_space a path ≡ true → has_space (a ++ b) path ≡ true
    has-more a b path h = rw (list_any-append (λ (u : SpaceEntry). bytes_eq u.path path) a b, h) refl

no-kind : (w v : World) (x : Path) → kind_there v ≡ kind_there w → w.body x ≡ None → v.body x ≡ None
unfolding kind_there
no-kind w v x same empty = by (v.body x) (ap (λ f. f x) same ∙ ap (option_map kind_of) empty)
  where
    by : (o : Option Body) → option_map kind_of o ≡ None → o ≡ None
    by None h = refl
    by (Some b) h = absurd (cc)

-- where the objects of a scenario stand, the porters of its nesters may be made
pub nestable : (programs : List Program) (w v : World) (spaces : List SpaceEntry) (objects : List ObjectEntry) →
    EachAfter (KeepsSpace programs) [] spaces → EachAfter (KeepsObject spaces) [] objects → HasObjects w spaces objects → kind_there v ≡ kind_there w
    → AreNestable v spaces
nestable programs w v spaces objects keeps_spaces keeps_objects h same = nestable-from programs [] spaces v keeps_spaces (each spaces (each-among [] spaces))
  where
    can : (s : SpaceEntry) → has_space spaces s.path ≡ true → CanNest v s
    can s has = record {
      space = ap (λ f. f (reverse s.path)) same
          ∙ birth-space w (reverse s.path) (some (birth_at w (reverse s.path)) (h.births s.path ∙ or_right (length s.path == 0) (has_space spaces s.path) has));
      empty = no-kind w v (LAST_PORTER_SLOT ∷ reverse s.path) same (last-empty programs w spaces objects s.path keeps_spaces keeps_objects h);
    }

    each : (ss : List SpaceEntry) → All (λ (s : SpaceEntry). has_space spaces s.path ≡ true) ss → All (CanNest v) ss
    each [] all = All-nil (CanNest v)
    each (s ∷ ss) all =
        All-cons (CanNest v) s ss (can s (All-head (λ (s : SpaceEntry). has_space spaces s.path ≡ true) s ss all))
        (each ss (All-tail (λ (s : SpaceEntry). has_space spaces s.path ≡ true) s ss all))

-- ---- entry after entry

pub nest-here : (xs : List SpaceEntry) (i : ℕ) (x : SpaceEntry) (w : World) → i < length xs → x ≡ get_or xs i x → AreNestable w (drop i xs) → CanNest w x
nest-here xs i x w h is nests =
    let rest : drop i xs ≡ x ∷ drop (suc i) xs = drop-cons xs i x h ∙ ap (λ y. y ∷ drop (suc i) xs) (sym is) in
    (rw rest at nests).0

pub nest-next : (xs : List SpaceEntry) (i : ℕ) (x : SpaceEntry) (w v : World) → i < length xs → x ≡ get_or xs i x → v ≡ apply_all (porter_changes x) w
    → AreNestable w (drop i xs) → AreNestable v (drop (i + 1) xs)
nest-next xs i x w v h is e nests =
    let rest : drop i xs ≡ x ∷ drop (suc i) xs = drop-cons xs i x h ∙ ap (λ y. y ∷ drop (suc i) xs) (sym is) in
    rw (add-one, e) (rw rest at nests).1

-- a porter is made in the last slot of its space
pub makes-porter : (x y : Path) (b : Body) (w v : World) → y ≡ x → b ≡ porter → v ≡ apply (making y b) w → v ≡ apply_all (Make x porter ∷ []) w
unfolding apply_all
makes-porter x y b w v e f h = h ∙ ap (λ c. apply c w) (ap (λ z. making z b) e ∙ ap (making x) f)

pub kind-birth : (w : World) (x : Path) → kind_there w x ≡ Some kinds.Space → IsSome (birth_at w x)
unfolding kind_there
kind-birth w x h = by (w.body x) h
  where
    by : (o : Option Body) → option_map kind_of o ≡ Some kinds.Space → IsSome (and_then birth_of o)
    by None h = absurd (cc)
    by (Some (Space birth holder)) h = refl
    by (Some b) h = absurd (cc)

-- what stands stands once porters are made
porter-keeps : (w : World) (s : SpaceEntry) (q : Path) (k : Kind) → CanNest w s → kind_there w q ≡ Some k →
    kind_there (apply_all (porter_changes s) w) q ≡ Some k
unfolding apply_all
porter-keeps w s q k can is = by s.nester
  where
    by : (nests : Bool) → kind_there (apply_all (if nests then Make (LAST_PORTER_SLOT ∷ reverse s.path) porter ∷ [] else []) w) q ≡ Some k
    by true = kind-still w (LAST_PORTER_SLOT ∷ reverse s.path) q porter k can.empty is
    by false = is

porters-keep : (ss : List SpaceEntry) (w : World) (q : Path) (k : Kind) → AreNestable w ss → kind_there w q ≡ Some k
    → kind_there (apply_all (flat_map porter_changes ss) w) q ≡ Some k
unfolding apply_all
porters-keep [] w q k nests is = is
porters-keep (s ∷ ss) w q k nests is =
    rw (apply_all-append (porter_changes s) (flat_map porter_changes ss))
    (porters-keep ss (apply_all (porter_changes s) w) q k nests.1 (porter-keeps w s q k nests.0 is))

still-there : (ss : List SpaceEntry) (w : World) (q : Path) → AreNestable w ss → IsSome (kind_there w q) →
    IsSome (kind_there (apply_all (flat_map porter_changes ss) w) q)
still-there ss w q nests there = by (kind_there w q) refl there
  where
    by : (o : Option Kind) → kind_there w q ≡ o → IsSome o → IsSome (kind_there (apply_all (flat_map porter_changes ss) w) q)
    by None e h = absurd (cc)
    by (Some k) e h = rw (porters-keep ss w q k nests e) refl

-- ---- the ports of servers

each-serves : (objects : List ObjectEntry) (ports aliases : List (List ℕ)) (servers : List ServerEntry) → serving_from objects ports aliases servers ≡ Ok tt
    → All (λ (s : ServerEntry). is_one is_lone_port (object_with objects s.port) ≡ true) servers
unfolding serving_from
each-serves objects ports aliases [] e = All-nil (λ (s : ServerEntry). is_one is_lone_port (object_with objects s.port) ≡ true)
each-serves objects ports aliases (s ∷ ss) e =
    by (may_serve objects ports aliases s) refl (λ rest. each-serves objects (ports ++ s.port ∷ []) (aliases ++ alias_of s.service) ss rest)
  where
    first : (a b c : Bool) → ((a && b) && c) ≡ true → a ≡ true
    first true b c h = refl
    first false b c h = absurd (cc)

    by : (may : Bool) → may_serve objects ports aliases s ≡ may
        → (serving_from objects (ports ++ s.port ∷ []) (aliases ++ alias_of s.service) ss ≡ Ok tt
        → All (λ (s : ServerEntry). is_one is_lone_port (object_with objects s.port) ≡ true) ss)
        → All (λ (s : ServerEntry). is_one is_lone_port (object_with objects s.port) ≡ true) (s ∷ ss)
    by true t later =
        All-cons (λ (s : ServerEntry). is_one is_lone_port (object_with objects s.port) ≡ true) s ss
        (first (is_one is_lone_port (object_with objects s.port)) (not (has_key ports s.port)) (has_new_alias aliases s.service) t) (later (rw t at e))
    by false t later = absurd (let refused = rw t at e in cc)

-- where the objects of a scenario stand, so do the ports of its servers, and still once objects lead and porters are made
pub ports-stand : (w v : World) (spaces : List SpaceEntry) (objects : List ObjectEntry) (servers : List ServerEntry) →
    HasObjects w spaces objects → All (λ (o : ObjectEntry). 0 < length o.path) objects → serving_from objects [] [] servers ≡ Ok tt
    → kind_there v ≡ kind_there w → AreNestable v spaces → All (λ (s : ServerEntry). StandsAt (apply_all (flat_map porter_changes spaces) v) s.port) servers
ports-stand w v spaces objects servers h inside serves same nests = all servers (each-serves objects [] [] servers serves)
  where
    one : (s : ServerEntry) → is_one is_lone_port (object_with objects s.port) ≡ true → StandsAt (apply_all (flat_map porter_changes spaces) v) s.port
    one s is =
        let stands = one-stands w spaces objects is_lone_port s.port h inside is in
        record { beneath = stands.beneath; there = still-there spaces v (reverse s.port) nests (rw same stands.there) }

    all : (ss : List ServerEntry) → All (λ (s : ServerEntry). is_one is_lone_port (object_with objects s.port) ≡ true) ss
        → All (λ (s : ServerEntry). StandsAt (apply_all (flat_map porter_changes spaces) v) s.port) ss
    all [] each = All-nil (λ (s : ServerEntry). StandsAt (apply_all (flat_map porter_changes spaces) v) s.port)
    all (s ∷ ss) each =
        All-cons (λ (s : ServerEntry). StandsAt (apply_all (flat_map porter_changes spaces) v) s.port) s ss
        (one s (All-head (λ (s : ServerEntry). is_one is_lone_port (object_with objects s.port) ≡ true) s ss each))
        (all ss (All-tail (λ (s : ServerEntry). is_one is_lone_port (object_with objects s.port) ≡ true) s ss each))
