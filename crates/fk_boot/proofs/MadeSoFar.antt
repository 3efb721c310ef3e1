-- What stands in a world after each entry of a scenario.
use Rattle.std.proofs.Common.{◌≡◌, ℕ, ◌+◌, ◌*◌, ◌<◌, ◌≤◌, Bool, true, false, not, ◌&&◌, ◌||◌, ◌==◌, nat_lt, cond, List, [], ◌∷◌, ◌++◌, length, get_or}
use Rattle.std.proofs.Common.{take, drop, reverse, Option, Some, None, is_some, IsSome, refl, sym, ap, subst, ◌∙◌, arith, add-one}
use Rattle.std.proofs.Math.Seq.{drop-cons, take-suc}
use Rattle.std.proofs.lemmas.List.{reverse-reverse}
use Rattle.std.proofs.lemmas.List.Folds.{list_any-append}
use Rattle.std.proofs.lemmas.List.Sums.{sum_by_push, sum_by-take-le}
use Rattle.std.proofs.lemmas.Slice.Eq.{bytes_eq-Decides}
use Rattle.std.specs.Str.{bytes_eq}
use Rattle.fk_model.specs.Places.{Path, same_path}
use Rattle.fk_model.specs.Objects.{Body, and_then}
use Rattle.fk_model.specs.Objects.Body.{Space}
use Rattle.fk_model.specs.Valid as valid
use Rattle.fk_model.specs.World.{World, apply, apply_all, birth_after}
use Rattle.fk_model.specs.World.Change.{Make, MakeSpace, PutPage}
use Rattle.fk_model.specs.Searches.{slots}
use Rattle.fk_model.proofs.walks.PlaceLaws.{same_path_refl, same_path_eq, same_path_ne, same_path_sym}
use Rattle.fk_store.proofs.InStore.finding.Walks.{not_root}
use Rattle.fk_store.specs.Store.World.{first_world}
use Rattle.fk_scenario.specs.declared.entries.types.Program.{Program}
use Rattle.fk_scenario.specs.declared.entries.types.SpaceEntry.{SpaceEntry}
use Rattle.fk_scenario.specs.declared.entries.types.ObjectEntry.{ObjectEntry}
use Rattle.fk_scenario.specs.declared.entries.types.Spec.{Spec}
use Rattle.fk_scenario.specs.declared.entries.types.Spec.TheVariants as specs
use Rattle.fk_scenario.specs.Sections.Kept.{EachAfter, KeepsSpace, KeepsObject}
use Rattle.fk_scenario.specs.Fields.Paths.{enclosing}
use Rattle.fk_scenario.specs.Sections.Spaces.{has_space, has_space_or_root, may_stand, count_beneath}
use Rattle.fk_scenario.specs.Sections.Objects.{has_object}
use Rattle.fk_scenario.specs.Scenario.Servers.{has_key}
use Rattle.fk_boot.specs.FirstWorld.{page_words, program_page, program_pages, zero_pages, space_itself, space_changes, words_of_program, first_body}
use Rattle.fk_boot.specs.FirstWorld.{object_changes}
use Rattle.fk_boot.specs.MadeSoFar.{HasPlace, CanStand, HasSpaces, HasObjects}
use Rattle.fk_boot.proofs.Changes.{apply_all-append}
use Rattle.fk_boot.proofs.Walks.{last}
use Rattle.std.specs.List.{flat_map}

-- ---- tests

or_none : (a b c : Bool) → (a || (b || (c || false))) ≡ ((a || b) || c)
or_none true b c = refl
or_none false true c = refl
or_none false false true = refl
or_none false false false = refl

or_again : (a b : Bool) → (a || b) ≡ ((a || b) || a)
or_again true b = refl
or_again false true = refl
or_again false false = refl

or_true : (a : Bool) → true ≡ (a || true)
or_true true = refl
or_true false = refl

or_false : (a : Bool) → a ≡ (a || false)
or_false true = refl
or_false false = refl

both : (a b : Bool) → (a && not b) ≡ true → (a ≡ true) × (b ≡ false)
both true true h = absurd (cc)
both true false h = (refl, refl)
both false b h = absurd (cc)

pub some : {A : Type 0} (o : Option A) → is_some o ≡ true → IsSome o
some None h = absurd (cc)
some (Some a) h = refl

none : {A : Type 0} (o : Option A) → is_some o ≡ false → o ≡ None
none None h = refl
none (Some a) h = absurd (cc)

longer : (k : ℕ) (q : List ℕ) → (length (k ∷ q) == 0) ≡ false
longer k q = not_root (length (k ∷ q)) (omega arith)

-- paths are the same where they are the same turned round
reversed : (p q : List ℕ) → same_path (reverse p) (reverse q) ≡ bytes_eq p q
reversed p q = by (bytes_eq p q) refl
  where
    by : (b : Bool) → bytes_eq p q ≡ b → same_path (reverse p) (reverse q) ≡ b
    by true e = let same : p ≡ q = (bytes_eq-Decides p q).0 e in rw same (same_path_refl (reverse q))
    by false e = same_path_ne (reverse p) (reverse q) (λ h.
        let back : p ≡ q = sym (reverse-reverse p) ∙ (ap reverse h ∙ reverse-reverse q) in
        let yes = (bytes_eq-Decides p q).1 back in
        absurd (cc))

-- the root's path and no other is empty
empty_path : (q : List ℕ) → bytes_eq [] q ≡ (length q == 0)
empty_path [] = refl
empty_path (k ∷ q) = sym (longer k q)

-- ---- one more entry

has_space_or_root-last : (done : List SpaceEntry) (s : SpaceEntry) (q : List ℕ) →
    has_space_or_root (done ++ s ∷ []) q ≡ (has_space_or_root done q || bytes_eq s.path q)
has_space_or_root-last done s q =
    rw (list_any-append (λ (t : SpaceEntry). bytes_eq t.path q) done (s ∷ [])) (or_none (length q == 0) (has_space done q) (bytes_eq s.path q))

has_object-last : (done : List ObjectEntry) (o : ObjectEntry) (q : List ℕ) (a : Bool) →
    (a || has_object (done ++ o ∷ []) q) ≡ ((a || has_object done q) || bytes_eq o.path q)
has_object-last done o q a = rw (list_any-append (λ (t : ObjectEntry). bytes_eq t.path q) done (o ∷ [])) (or_none a (has_object done q) (bytes_eq o.path q))

count-last : (done : List SpaceEntry) (s : SpaceEntry) → count_beneath (done ++ s ∷ []) ≡ count_beneath done + cond (not (length s.path == 0)) 1 0
count-last done s = sum_by_push (λ (t : SpaceEntry). cond (not (length t.path == 0)) 1 0) done s

-- ---- one more space

made-body : (x q : Path) (w : World) → is_some ((apply (MakeSpace x None) w).body q) ≡ (is_some (w.body q) || same_path q x)
unfolding apply
made-body x q w = by (same_path q x)
  where
    by : (b : Bool) → is_some (cond b (Some (Space w.next None)) (w.body q)) ≡ (is_some (w.body q) || b)
    by true = or_true (is_some (w.body q))
    by false = or_false (is_some (w.body q))

made-birth : (x q : Path) (w : World) → is_some (valid.birth_at (apply (MakeSpace x None) w) q) ≡ (is_some (valid.birth_at w q) || same_path q x)
unfolding apply
made-birth x q w = by (same_path q x)
  where
    by : (b : Bool) → is_some (and_then valid.birth_of (cond b (Some (Space w.next None)) (w.body q))) ≡ (is_some (valid.birth_at w q) || b)
    by true = or_true (is_some (valid.birth_at w q))
    by false = or_false (is_some (valid.birth_at w q))

-- a test of a place, and of one more
one-more : (done : List SpaceEntry) (s : SpaceEntry) (q : List ℕ) (b : Bool) →
    b ≡ has_space_or_root done q → (b || same_path (reverse q) (reverse s.path)) ≡ has_space_or_root (done ++ s ∷ []) q
one-more done s q b h = rw (h, same_path_sym (reverse q) (reverse s.path), reversed s.path q) (sym (has_space_or_root-last done s q))

-- the next birth number is never 0
next-made : (n k : ℕ) → n ≡ 1 + k → birth_after n ≡ n + 1
next-made n k h = let some : (n == 0) ≡ false = not_root n (omega arith) in rw some refl

space-stands : (w : World) (done : List SpaceEntry) (s : SpaceEntry) →
    (length s.path == 0) ≡ false → HasSpaces w done → HasSpaces (apply (MakeSpace (reverse s.path) None) w) (done ++ s ∷ [])
unfolding apply
space-stands w done s long h = record {
  root = root_by (same_path [] (reverse s.path)) refl;
  births = λ q. made-birth (reverse s.path) (reverse q) w ∙ one-more done s q (is_some (valid.birth_at w (reverse q))) (h.births q);
  alone = λ q. made-body (reverse s.path) (reverse q) w ∙ one-more done s q (is_some (w.body (reverse q))) (h.alone q);
  born = λ x n is. born_by x n (same_path x (reverse s.path)) is;
  next = next-made w.next (count_beneath done) h.next ∙ counted;
}
  where
    root_by : (b : Bool) → same_path [] (reverse s.path) ≡ b → and_then valid.birth_of (cond b (Some (Space w.next None)) (w.body [])) ≡ Some 0
    root_by true e =
        let none : [] ≡ reverse s.path = same_path_eq [] (reverse s.path) e in
        let back : [] ≡ s.path = ap reverse none ∙ reverse-reverse s.path in
        let zero : (length s.path == 0) ≡ true = rw (← back) refl in
        absurd (cc)
    root_by false e = h.root

    after : birth_after w.next ≡ w.next + 1
    after = next-made w.next (count_beneath done) h.next

    born_by : (x : Path) (n : ℕ) (b : Bool) → and_then valid.birth_of (cond b (Some (Space w.next None)) (w.body x)) ≡ Some n → n < birth_after w.next
    born_by x n true is = let same : w.next ≡ n = cc in omega (arith, after)
    born_by x n false is = omega (arith, after, h.born x n is)

    counted : w.next + 1 ≡ 1 + count_beneath (done ++ s ∷ [])
    counted =
        let one : ◌≡◌ {A = ℕ} (cond (not (length s.path == 0)) 1 0) 1 = rw long refl in
        omega (arith, h.next, count-last done s, one)

-- the root's entry adds none
root-stands : (w : World) (done : List SpaceEntry) (s : SpaceEntry) → s.path ≡ [] → HasSpaces w done → HasSpaces w (done ++ s ∷ [])
root-stands w done s empty h = record {
  root = h.root;
  births = λ q. h.births q ∙ same q;
  alone = λ q. h.alone q ∙ same q;
  born = h.born;
  next =
      let none : ◌≡◌ {A = ℕ} (cond (not (length s.path == 0)) 1 0) 0 = rw empty refl in
      omega (arith, h.next, count-last done s, none);
}
  where
    same : (q : List ℕ) → has_space_or_root done q ≡ has_space_or_root (done ++ s ∷ []) q
    same q = rw (has_space_or_root-last done s q, empty, empty_path q) (or_again (length q == 0) (has_space done q))

-- pages change nothing of this
abbrev IsAlike : World → World → Type 0
IsAlike w v = (v.body ≡ w.body) × (v.next ≡ w.next)

zeros-alike : (space : Path) (pages : List ℕ) (w : World) → IsAlike w (apply_all (zero_pages space pages) w)
unfolding apply apply_all
zeros-alike space [] w = (refl, refl)
zeros-alike space (page ∷ pages) w = zeros-alike space pages (apply (PutPage space page (page_words [])) w)

part-alike : (space : Path) (words : List ℕ) (page : ℕ) (w : World) → IsAlike w (apply_all (program_page space words page) w)
unfolding apply apply_all
part-alike space words page w = by (nat_lt (page * 64) (length words))
  where
    by : (b : Bool) → IsAlike w (apply_all (cond b (PutPage space page (page_words (take 64 (drop (page * 64) words))) ∷ []) []) w)
    by true = (refl, refl)
    by false = (refl, refl)

parts-alike : (space : Path) (words pages : List ℕ) (w : World) → IsAlike w (apply_all (flat_map (program_page space words) pages) w)
unfolding apply_all
parts-alike space words [] w = (refl, refl)
parts-alike space words (page ∷ pages) w =
    let part = part-alike space words page w in
    let rest = parts-alike space words pages (apply_all (program_page space words page) w) in
    rw (apply_all-append (program_page space words page) (flat_map (program_page space words) pages)) (rest.0 ∙ part.0, rest.1 ∙ part.1)

alike-stands : (w v : World) (done : List SpaceEntry) → IsAlike w v → HasSpaces w done → HasSpaces v done
alike-stands w v done e h =
    let bodies = e.0 in
    let next = e.1 in
    record {
      root = rw bodies h.root;
      births = λ q. rw bodies (h.births q);
      alone = λ q. rw bodies (h.alone q);
      born = λ x n is. rw next (h.born x n (rw bodies at is));
      next = rw next h.next;
    }

pages-stand : (programs : List Program) (s : SpaceEntry) (w : World) (done : List SpaceEntry) → HasSpaces w done
    → HasSpaces (apply_all (zero_pages (reverse s.path) s.pages ++ program_pages (reverse s.path) (words_of_program programs s.program)) w) done
pages-stand programs s w done h =
    let words = words_of_program programs s.program in
    let zeros = zeros-alike (reverse s.path) s.pages w in
    let parts = parts-alike (reverse s.path) words (slots 256) (apply_all (zero_pages (reverse s.path) s.pages) w) in
    rw (apply_all-append (zero_pages (reverse s.path) s.pages) (program_pages (reverse s.path) words))
    (alike-stands w _ done (parts.0 ∙ zeros.0, parts.1 ∙ zeros.1) h)

itself : (x : Path) (k : ℕ) (s : Path) → x ≡ k ∷ s → space_itself x ≡ MakeSpace x None ∷ []
itself x k s e = rw e refl

itself_not : (x : Path) → x ≡ [] → space_itself x ≡ []
itself_not x e = rw e refl

-- a space and what stands after it
pub entry-stands : (programs : List Program) (done : List SpaceEntry) (s : SpaceEntry) (w : World) →
    HasSpaces w done → HasSpaces (apply_all (space_changes programs s) w) (done ++ s ∷ [])
unfolding apply_all
entry-stands programs done s w h =
    rw (apply_all-append (space_itself (reverse s.path)))
    (pages-stand programs s (apply_all (space_itself (reverse s.path)) w) (done ++ s ∷ []) (by s.path refl))
  where
    by : (p : List ℕ) → s.path ≡ p → HasSpaces (apply_all (space_itself (reverse s.path)) w) (done ++ s ∷ [])
    by [] e = rw (itself_not (reverse s.path) (ap reverse e)) (root-stands w done s e h)
    by (k ∷ p) e =
        let long : (length s.path == 0) ≡ false = rw e (longer k p) in
        let at = itself (reverse s.path) _ _ (last s.path (rw e (omega arith))) in
        rw at (space-stands w done s long h)

-- a space can stand where its rules are kept
pub can-stand : (programs : List Program) (done : List SpaceEntry) (s : SpaceEntry) (w : World) →
    HasSpaces w done → KeepsSpace programs done s → CanStand w s.path
can-stand programs done s w h keeps = by s.path keeps.stands
  where
    by : (p : List ℕ) → may_stand done p ≡ true → CanStand w p
    by [] may = h.root
    by (k ∷ p) may =
        let parts : (has_space_or_root done (enclosing (k ∷ p)) && not (has_space done (k ∷ p))) ≡ true = rw (longer k p) at may in
        let tests = both (has_space_or_root done (enclosing (k ∷ p))) (has_space done (k ∷ p)) parts in
        let new : has_space_or_root done (k ∷ p) ≡ false = rw (longer k p) tests.1 in
        record {
          space = some (valid.birth_at w (reverse (enclosing (k ∷ p)))) (h.births (enclosing (k ∷ p)) ∙ tests.0);
          empty = none (w.body (reverse (k ∷ p))) (h.alone (k ∷ p) ∙ new);
        }

-- the root alone stands before the first
pub first-stands : HasSpaces first_world []
first-stands = record { root = refl; births = births; alone = alone; born = born; next = refl }
  where
    births : (q : List ℕ) → is_some (valid.birth_at first_world (reverse q)) ≡ has_space_or_root [] q
    births [] = refl
    births (k ∷ q) = rw (last (k ∷ q) (omega arith), longer k q) refl

    alone : (q : List ℕ) → is_some (first_world.body (reverse q)) ≡ has_space_or_root [] q
    alone [] = refl
    alone (k ∷ q) = rw (last (k ∷ q) (omega arith), longer k q) refl

    born : (x : Path) (n : ℕ) → valid.birth_at first_world x ≡ Some n → n < 1
    born [] n is = let same : 0 ≡ n = cc in omega arith
    born (k ∷ s) n is = absurd (cc)

-- ---- one more object

-- what isn't a space is no birth
made-object : (w : World) (spaces : List SpaceEntry) (done : List ObjectEntry) (o : ObjectEntry) (b : Body) →
    valid.birth_of b ≡ None → KeepsObject spaces done o → HasObjects w spaces done
    → HasObjects (apply (Make (reverse o.path) b) w) spaces (done ++ o ∷ [])
unfolding apply
made-object w spaces done o b other keeps h = record {
  births = λ q. births_by q (same_path (reverse q) (reverse o.path)) refl;
  alone = λ q. alone_by q (same_path (reverse q) (reverse o.path)) refl;
}
  where
    lone : has_space_or_root spaces o.path ≡ false
    lone = rw (not_root (length o.path) keeps.inside) keeps.no_space

    births_by : (q : List ℕ) (t : Bool) →
        same_path (reverse q) (reverse o.path) ≡ t → is_some (and_then valid.birth_of (cond t (Some b) (w.body (reverse q)))) ≡ has_space_or_root spaces q
    births_by q true e =
        let same : q ≡ o.path = (bytes_eq-Decides q o.path).0 (sym (reversed q o.path) ∙ e) in
        rw (other, same) (sym lone)
    births_by q false e = h.births q

    alone_by : (q : List ℕ) (t : Bool) →
        same_path (reverse q) (reverse o.path) ≡ t →
        is_some (cond t (Some b) (w.body (reverse q))) ≡ (has_space_or_root spaces q || has_object (done ++ o ∷ []) q)
    alone_by q true e =
        let here : bytes_eq o.path q ≡ true = sym (reversed o.path q) ∙ (same_path_sym (reverse o.path) (reverse q) ∙ e) in
        rw (has_object-last done o q (has_space_or_root spaces q), here) (or_true (has_space_or_root spaces q || has_object done q))
    alone_by q false e =
        let there : bytes_eq o.path q ≡ false = sym (reversed o.path q) ∙ (same_path_sym (reverse o.path) (reverse q) ∙ e) in
        rw (has_object-last done o q (has_space_or_root spaces q), there) (h.alone q ∙ or_false (has_space_or_root spaces q || has_object done q))

no-birth : (served : Bool) (spec : Spec) → valid.birth_of (first_body served spec) ≡ None
no-birth served (specs.Thread entry regs stops) = refl
no-birth served (specs.Mutex locked) = refl
no-birth served specs.Cond = refl
no-birth served specs.Portset = refl
no-birth served (specs.Mapping region first count offset write) = refl
no-birth served (specs.Region first count write keeper) = refl
no-birth served (specs.Port set) = refl
no-birth served (specs.Reference to) = refl

pub object-stands : (ports : List (List ℕ)) (spaces : List SpaceEntry) (done : List ObjectEntry) (o : ObjectEntry) (w : World) →
    HasObjects w spaces done → KeepsObject spaces done o → HasObjects (apply_all (object_changes ports o) w) spaces (done ++ o ∷ [])
unfolding apply_all
object-stands ports spaces done o w h keeps = made-object w spaces done o (first_body (has_key ports o.path) o.spec)
    (no-birth (has_key ports o.path) o.spec) keeps h

pub object-place : (spaces : List SpaceEntry) (done : List ObjectEntry) (o : ObjectEntry) (w : World) →
    HasObjects w spaces done → KeepsObject spaces done o → HasPlace w o.path
object-place spaces done o w h keeps =
    let lone : has_space_or_root spaces o.path ≡ false = rw (not_root (length o.path) keeps.inside) keeps.no_space in
    let free : (has_space_or_root spaces o.path || has_object done o.path) ≡ false = rw lone keeps.no_object in
    record {
      space = some (valid.birth_at w (reverse (enclosing o.path))) (h.births (enclosing o.path) ∙ keeps.in_space);
      empty = none (w.body (reverse o.path)) (h.alone o.path ∙ free);
    }

-- no object stands before the first
pub spaces-stand : (w : World) (spaces : List SpaceEntry) → HasSpaces w spaces → HasObjects w spaces []
spaces-stand w spaces h = record { births = h.births; alone = λ q. h.alone q ∙ or_false (has_space_or_root spaces q) }

-- ---- entry after entry

pub each-first : {X : Type 0} (P : List X → X → Type 0) (xs : List X) (i : ℕ) (x : X) →
    i < length xs → x ≡ get_or xs i x → EachAfter P (take i xs) (drop i xs) → P (take i xs) x
each-first P xs i x h is each =
    let here : P (take i xs) (get_or xs i x) = (rw (drop-cons xs i x) at each).0 in
    subst (λ y. P (take i xs) y) (sym is) here

pub each-rest : {X : Type 0} (P : List X → X → Type 0) (xs : List X) (i : ℕ) (x : X) →
    i < length xs → EachAfter P (take i xs) (drop i xs) → EachAfter P (take (i + 1) xs) (drop (i + 1) xs)
each-rest P xs i x h each = rw (add-one, take-suc xs i x h) (rw (drop-cons xs i x) at each).1

pub take-next : {X : Type 0} (xs : List X) (i : ℕ) (x : X) → i < length xs → x ≡ get_or xs i x → take (i + 1) xs ≡ take i xs ++ x ∷ []
take-next xs i x h is = rw (add-one, take-suc xs i x h) (ap (λ y. take i xs ++ y ∷ []) (sym is))

-- one more space, and one more object
pub next-stands : (programs : List Program) (xs : List SpaceEntry) (i : ℕ) (x : SpaceEntry) (w v : World) →
    i < length xs → x ≡ get_or xs i x → v ≡ apply_all (space_changes programs x) w
    → HasSpaces w (take i xs) → HasSpaces v (take (i + 1) xs)
next-stands programs xs i x w v h is e stands = rw (e, take-next xs i x h is) (entry-stands programs (take i xs) x w stands)

pub next-object : (ports : List (List ℕ)) (spaces : List SpaceEntry) (xs : List ObjectEntry) (i : ℕ) (x : ObjectEntry) (w v : World) →
    i < length xs → x ≡ get_or xs i x → v ≡ apply_all (object_changes ports x) w
    → KeepsObject spaces (take i xs) x → HasObjects w spaces (take i xs) → HasObjects v spaces (take (i + 1) xs)
next-object ports spaces xs i x w v h is e keeps stands = rw (e, take-next xs i x h is) (object-stands ports spaces (take i xs) x w stands keeps)

-- there are birth numbers enough
pub few-born : (w : World) (xs : List SpaceEntry) (i : ℕ) → count_beneath xs ≤ 255 → HasSpaces w (take i xs) → w.next ≤ 256
few-born w xs i few stands = omega (arith, stands.next, sum_by-take-le (λ (t : SpaceEntry). cond (not (length t.path == 0)) 1 0) xs i)
