-- Pages: those of the spaces of a subtree, and lists of what is shown.
use Rattle.std.proofs.Common.{◌≡◌, ℕ, zero, suc, ◌+◌, ◌<◌, ◌≤◌, Bool, true, false, List, [], ◌∷◌, ◌++◌, get_or, take, length, map, reverse, flat_map, is_some, Option, Some, None, Result, Ok, Err, IfOk, option_map, refl, sym, ap, ◌∙◌, arith}
use Rattle.std.proofs.lemmas.List.{append-nil, append_assoc, map-append, take_more, take_all}
use Rattle.std.specs.FinMap.{get}
use Rattle.fk_model.specs.declared.limits.TheConstants.{PAGES}
use Rattle.fk_model.specs.declared.body.Body as bodies_of
use Rattle.fk_model.specs.declared.body.Body.TheVariants as bodies
use Rattle.fk_model.specs.declared.names.Kind.TheVariants as kinds
use Rattle.fk_model.specs.declared.names.Who.{Who}
use Rattle.fk_model.specs.Cut.{cut}
use Rattle.fk_model.specs.Objects.{kind_of, and_then}
use Rattle.fk_model.specs.Places.{Path}
use Rattle.fk_model.specs.Searches.{slots, objects}
use Rattle.fk_model.specs.Valid.{kind_there}
use Rattle.fk_model.specs.World.{World}
use Rattle.fk_store.specs.Store.Bodies.{body_by}
use Rattle.fk_store.specs.Store.Contents.{Contents, stored_birth, birth_there}
use Rattle.fk_store.specs.Store.Names.{at}
use Rattle.fk_store.specs.Store.Paths.{path, space_at}
use Rattle.fk_store.specs.Store.World.{world, place_of}
use Rattle.fk_cut.specs.declared.cuts.cutting.CutObject.{CutObject}
use Rattle.fk_cut.specs.declared.cuts.cutting.CutPage.{CutPage}
use Rattle.fk_cut.specs.declared.cuts.cutting.CutWorld.{CutWorld}
use Rattle.fk_cut.specs.Cuts.Shown.{IsShown, below, object_there, page_shown, pages_there}
use Rattle.fk_cut.specs.Closing.Walks.{IsPart, AreObjects}
use Rattle.fk_cut.proofs.InCuts.Shows.{part_below, belows}

flat_map_append : {A B : Type 0} (f : A → List B) (xs ys : List A) → flat_map f (xs ++ ys) ≡ flat_map f xs ++ flat_map f ys
flat_map_append f [] ys = refl
flat_map_append f (x ∷ xs) ys = ap (λ zs. f x ++ zs) (flat_map_append f xs ys) ∙ sym (append_assoc (f x) (flat_map f xs) (flat_map f ys))

-- ---- one page, and those below a number

pub page_when : (w : World) (s q here : Path) (page : ℕ) (words : List ℕ) (old new : List CutPage) → w.page s page ≡ Some words → here ≡ reverse q →
    new ≡ old ++ record { path = here; page = page; words = words } ∷ [] → new ≡ old ++ page_shown q page (w.page s page)
page_when w s q here page words old new there same added = rw (there, ← same) added

abbrev pub page_at : World → Path → Path → ℕ → List CutPage
page_at w s q page = page_shown q page (w.page s page)

abbrev pub pages_up : World → Path → Path → ℕ → List CutPage
pages_up w s q n = flat_map (page_at w s q) (slots n)

pub pages_begin : (w : World) (s q : Path) (old : List CutPage) → old ≡ old ++ pages_up w s q 0
unfolding slots
pages_begin w s q old = sym (append-nil old)

pub pages_next : (w : World) (s q : Path) (n : ℕ) (old so_far new : List CutPage) → so_far ≡ old ++ pages_up w s q n →
    new ≡ so_far ++ page_shown q n (w.page s n) → new ≡ old ++ pages_up w s q (n + 1)
unfolding slots
pages_next w s q n old so_far new begun added =
    let one : n + 1 ≡ suc n = omega arith in
    added ∙ ap (λ xs. xs ++ page_at w s q n) begun ∙ append_assoc old (pages_up w s q n) (page_at w s q n)
    ∙ ap (λ xs. old ++ (pages_up w s q n ++ xs)) (sym (append-nil (page_at w s q n)))
    ∙ ap (λ xs. old ++ xs) (sym (flat_map_append (page_at w s q) (slots n) (n ∷ [])))
    ∙ ap (λ k. old ++ pages_up w s q k) (sym one)

-- ---- of an object of a subtree

abbrev pub object_here : Contents → Who → Who → CutObject
object_here m root who = object_there (cut (world m) (path m root.space) root.slot) (below m root who)

abbrev pub pages_here : Contents → Who → Who → List CutPage
pages_here m root who = pages_there (cut (world m) (path m root.space) root.slot) (below m root who)

here_pages : (m : Contents) (root who : Who) → IsPart m root who → pages_here m root who ≡ pages_up (world m) (place_of m who) (below m root who) PAGES
unfolding cut
here_pages m root who part =
    ap (λ x. flat_map (page_at (world m) x (below m root who)) (slots PAGES)) (sym (part_below m root who part))

pub pages_end : (m : Contents) (root who : Who) (n : ℕ) (old new : List CutPage) → IsPart m root who → n ≡ 256 →
    new ≡ old ++ pages_up (world m) (place_of m who) (below m root who) n → new ≡ old ++ pages_here m root who
pages_end m root who n old new part all shown =
    shown ∙ ap (λ k. old ++ pages_up (world m) (place_of m who) (below m root who) k) all ∙ ap (λ xs. old ++ xs) (sym (here_pages m root who part))

-- only a space has pages
page_in : (m : Contents) (s : Path) (page : ℕ) → is_some ((world m).page s page) ≡ true → kind_there (world m) s ≡ Some kinds.Space
unfolding world kind_there space_at
page_in m [] page h = refl
page_in m (j ∷ x) page h = by (space_at m x) h
  where
    born : (o : Option bodies_of.Body) → is_some (and_then (λ n. get m.pages (n, page)) (and_then stored_birth o)) ≡ true →
        option_map kind_of (option_map (body_by (path m)) o) ≡ Some kinds.Space
    born None h = absurd (cc)
    born (Some (bodies.Space birth holder)) h = refl
    born (Some (bodies.Mutex locked)) h = absurd (cc)
    born (Some bodies.Cond) h = absurd (cc)
    born (Some (bodies.Mapping first count offset write region)) h = absurd (cc)
    born (Some (bodies.Region first count write keeper)) h = absurd (cc)
    born (Some (bodies.Port set served)) h = absurd (cc)
    born (Some bodies.Portset) h = absurd (cc)
    born (Some (bodies.Thread thread)) h = absurd (cc)
    born (Some (bodies.Reference to)) h = absurd (cc)

    by : (o : Option ℕ) → is_some (and_then (λ n. get m.pages (n, page)) (and_then (λ n. birth_there m (at n j)) o)) ≡ true →
        option_map kind_of (and_then (λ n. option_map (body_by (path m)) (get m.bodies (at n j))) o) ≡ Some kinds.Space
    by None h = absurd (cc)
    by (Some n) h = born (get m.bodies (at n j)) h

none_up : (w : World) (s q : Path) → ((page : ℕ) → w.page s page ≡ None) → (ks : List ℕ) → flat_map (page_at w s q) ks ≡ []
none_up w s q none [] = refl
none_up w s q none (k ∷ ks) = rw (none k, none_up w s q none ks) refl

pub no_pages : (m : Contents) (root who : Who) (old : List CutPage) → IsPart m root who → (kind_there (world m) (place_of m who) ≡ Some kinds.Space → ⊥) →
    old ≡ old ++ pages_here m root who
no_pages m root who old part other =
    sym (append-nil old) ∙ ap (λ xs. old ++ xs) (sym (here_pages m root who part
    ∙ none_up (world m) (place_of m who) (below m root who) (λ page. by page ((world m).page (place_of m who) page) refl) (slots PAGES)))
  where
    by : (page : ℕ) (o : Option (List ℕ)) → (world m).page (place_of m who) page ≡ o → (world m).page (place_of m who) page ≡ None
    by page None e = e
    by page (Some words) e = absurd (other (page_in m (place_of m who) page (ap is_some e)))

-- ---- lists

pub one_object : (m : Contents) (root d : Who) (whos : List Who) (i : ℕ) (so_far new : List CutObject) (object : CutObject) → i < length whos →
    so_far ≡ map (object_here m root) (take i whos) → object ≡ object_here m root (get_or whos i d) → new ≡ so_far ++ object ∷ [] →
    new ≡ map (object_here m root) (take (i + 1) whos)
one_object m root d whos i so_far new object low begun is added =
    added ∙ ap (λ xs. xs ++ object ∷ []) begun ∙ ap (λ x. map (object_here m root) (take i whos) ++ x ∷ []) is
    ∙ sym (map-append (object_here m root) (take i whos) (get_or whos i d ∷ [])) ∙ ap (map (object_here m root)) (sym (take_more whos i d low))

pub more_pages : (m : Contents) (root d : Who) (whos : List Who) (i : ℕ) (so_far new : List CutPage) → i < length whos →
    so_far ≡ flat_map (pages_here m root) (take i whos) → new ≡ so_far ++ pages_here m root (get_or whos i d) →
    new ≡ flat_map (pages_here m root) (take (i + 1) whos)
more_pages m root d whos i so_far new low begun added =
    added ∙ ap (λ xs. xs ++ pages_here m root (get_or whos i d)) begun
    ∙ ap (λ xs. flat_map (pages_here m root) (take i whos) ++ xs) (sym (append-nil (pages_here m root (get_or whos i d))))
    ∙ sym (flat_map_append (pages_here m root) (take i whos) (get_or whos i d ∷ [])) ∙ ap (flat_map (pages_here m root)) (sym (take_more whos i d low))

map_map : {A B C : Type 0} (f : B → C) (g : A → B) (xs : List A) → map (λ x. f (g x)) xs ≡ map f (map g xs)
map_map f g [] = refl
map_map f g (x ∷ xs) = ap (λ ys. f (g x) ∷ ys) (map_map f g xs)

flat_map_map : {A B C : Type 0} (f : B → List C) (g : A → B) (xs : List A) → flat_map (λ x. f (g x)) xs ≡ flat_map f (map g xs)
flat_map_map f g [] = refl
flat_map_map f g (x ∷ xs) = ap (λ ys. f (g x) ++ ys) (flat_map_map f g xs)

pub whole_cut : (m : Contents) (root : Who) (whos items : List Who) {E : Type 0} (r : Result CutWorld E) → items ≡ whos →
    AreObjects m (path m root.space) root.slot whos → IfOk r (λ w. w.objects ≡ map (object_here m root) items) →
    IfOk r (λ w. w.pages ≡ flat_map (pages_here m root) items) → IfOk r (λ w. IsShown (cut (world m) (path m root.space) root.slot) w)
whole_cut m root whos items (Ok w) same are shown paged =
    let c : World = cut (world m) (path m root.space) root.slot in
    let qs = ap (map (below m root)) same ∙ belows m root whos ([] ∷ objects c) are in
    record {
      objects = shown ∙ map_map (object_there c) (below m root) items ∙ ap (map (object_there c)) qs;
      pages = paged ∙ flat_map_map (pages_there c) (below m root) items ∙ ap (flat_map (pages_there c)) qs;
    }
whole_cut m root whos items (Err e) same are shown paged = tt
