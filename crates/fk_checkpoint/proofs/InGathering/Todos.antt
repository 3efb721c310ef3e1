-- Where a gatherer begins next.
use Rattle.std.proofs.Common.{◌≡◌, ℕ, zero, suc, ◌<◌, ◌==◌, true, false, List, [], ◌∷◌, ◌++◌, map, length, take, drop, min, Some, refl, sym, ap}
use Rattle.std.proofs.Common.{subst, ◌∙◌, arith, append_assoc, eqb-true}
use Rattle.std.specs.Prelude.{slice_index, slice_get}
use Rattle.std.proofs.lemmas.List.{take_min as take-min, take_all}
use Rattle.fk_model.specs.declared.limits.TheConstants.{OWN_SPACE}
use Rattle.fk_model.specs.Places.{Path, Ptr}
use Rattle.fk_model.specs.Records.{word}
use Rattle.laws_checkpoint.specs.Foreign.{Task, way_from}
use Rattle.laws_checkpoint.specs.Gather as gathers
use Rattle.laws_checkpoint.specs.Assembly.{pointers_by, item_task, holder_task, gathered_tasks}
use Rattle.fk_checkpoint.specs.Seeking.Seeking.{up}
use Rattle.fk_checkpoint.proofs.InSeeking.Ways.{way_up, up_more}
use Rattle.fk_checkpoint.specs.declared.gathering.content.Item.{Item as CodeItem}
use Rattle.fk_checkpoint.specs.declared.gathering.content.Content.{Content as CodeContent}
use Rattle.fk_checkpoint.specs.declared.seeking.fields.Fields.{Fields}
use Rattle.fk_checkpoint.specs.Seeking.Fields.{fields_in}
use Rattle.fk_checkpoint.specs.Gathering.Gathering.{item_of, items_of, contents_of}
use Rattle.fk_checkpoint.specs.Gathering.Todos.{path_at, objects_at, later_spaces, behind, found}

pub take_most : (n : ℕ) (xs : List ℕ) → take (min n (length xs)) xs ≡ take n xs
take_most n xs = take-min n xs

-- ---- lists

next_item : {X : Type 0} (xs : List X) (n : ℕ) (x : X) → slice_get xs n ≡ Some x → drop n xs ≡ x ∷ drop (suc n) xs
next_item [] n x e = cc
next_item (y ∷ xs) zero x e = ap (λ z. z ∷ xs) (same e)
  where
    same : Some y ≡ Some x → y ≡ x
    same e = cc
next_item (y ∷ xs) (suc n) x e = next_item xs n x e

last_apart : (xs : List ℕ) (n : ℕ) → length xs ≡ suc n → xs ≡ take n xs ++ slice_index xs n ∷ []
last_apart [] n e = absurd (omega (arith, e))
last_apart (x ∷ []) zero e = refl
last_apart (x ∷ y ∷ xs) zero e = absurd (omega (arith, e))
last_apart (x ∷ xs) (suc n) e = ap (λ ys. x ∷ ys) (last_apart xs n (omega (arith, e)))

-- ---- objects

begun : (slot k : ℕ) (q : Path) (fs : List ℕ) (t : Task) (ts : List Task) (got : List Ptr) (rest : gathers.State) → (length fs == 0) ≡ false →
    gathers.begin_at slot (k ∷ q) fs t ts got rest ≡ gathers.Down OWN_SPACE (slot ∷ way_from [] q) t ts got
begun slot k q [] t ts got rest e = cc
begun slot k q (n ∷ fs) t ts got rest e = refl

passed : (slot k : ℕ) (q : Path) (fs : List ℕ) (t : Task) (ts : List Task) (got : List Ptr) (rest : gathers.State) → (length fs == 0) ≡ true →
    gathers.begin_at slot (k ∷ q) fs t ts got rest ≡ rest
passed slot k q [] t ts got rest e = refl
passed slot k q (n ∷ fs) t ts got rest e = let none = eqb-true (length (n ∷ fs)) 0 e in absurd (omega (arith, none))

behind_is : (contents : List CodeContent) (space place : ℕ) (item : CodeItem) → slice_get (objects_at contents space) place ≡ Some item →
    behind contents space place ≡ item_task (up (path_at contents space)) (item_of item) ∷ behind contents space (suc place)
behind_is contents space place item e =
    ap (λ items. map (item_task (up (path_at contents space))) (items_of items)
    ++ later_spaces contents space) (next_item (objects_at contents space) place item e)

pub todo_found : (contents : List CodeContent) (space place : ℕ) (item : CodeItem) (fields : Fields) (next deep : ℕ)
    → slice_get (objects_at contents space) place ≡ Some item →
    fields_in fields ≡ pointers_by (word (item_of item).words 0) → (length (fields_in fields) == 0) ≡ false → next ≡ suc place
    → deep ≡ length (path_at contents space) →
    (slot : ℕ) (got : List Ptr) →
    gathers.begin slot (behind contents space place) got
    ≡ found slot contents got (Some (record { space = space; next = next; slot = item.number; deep = deep; fields = fields }))
todo_found contents space place item fields next deep there its some after far slot got =
    let path = path_at contents space in
    let whole : take deep path ≡ path = ap (λ n. take n path) far ∙ take_all (length path) path (omega arith) in
    let fs = pointers_by (word (item_of item).words 0) in
    let begins = begun slot item.number (up path) fs (item_task (up path) (item_of item)) (behind contents space (suc place)) got
    (gathers.begin slot (behind contents space (suc place)) got)
    (subst (λ (gs : List ℕ). (length gs == 0) ≡ false) its some) in
    ap (λ ts. gathers.begin slot ts got) (behind_is contents space place item there) ∙ begins
    ∙ ap (λ way. gathers.Down OWN_SPACE (slot ∷ way) (item_task (up path) (item_of item)) (behind contents space (suc place)) got) (way_up path)
    ∙ rw (whole, its, after) refl

pub todo_passed : (contents : List CodeContent) (space place : ℕ) (item : CodeItem) (fields : Fields)
    → slice_get (objects_at contents space) place ≡ Some item →
    fields_in fields ≡ pointers_by (word (item_of item).words 0) → (length (fields_in fields) == 0) ≡ true → (slot : ℕ) (got : List Ptr) →
    gathers.begin slot (behind contents space place) got ≡ gathers.begin slot (behind contents space (suc place)) got
todo_passed contents space place item fields there its none slot got =
    let path = path_at contents space in
    let fs = pointers_by (word (item_of item).words 0) in
    ap (λ ts. gathers.begin slot ts got) (behind_is contents space place item there)
    ∙ passed slot item.number (up path) fs (item_task (up path) (item_of item)) (behind contents space (suc place)) got
    (gathers.begin slot (behind contents space (suc place)) got)
    (subst (λ (gs : List ℕ). (length gs == 0) ≡ true) its none)

-- ---- spaces

pub gathered_next : (contents : List CodeContent) (space : ℕ) → space < length contents →
    gathered_tasks (contents_of (drop space contents)) ≡ holder_task (up (path_at contents space)) ++ behind contents space 0
gathered_next [] space less = absurd (omega (arith, less))
gathered_next (c ∷ contents) zero less =
    append_assoc (holder_task (up c.path)) (map (item_task (up c.path)) (items_of c.objects)) (gathered_tasks (contents_of contents))
gathered_next (c ∷ contents) (suc space) less = gathered_next contents space (omega (arith, less))

pub holder_found : (contents : List CodeContent) (space deep key : ℕ) (fields : Fields) → space < length contents → length (path_at contents space) ≡ suc deep →
    key ≡ slice_index (path_at contents space) deep → fields_in fields ≡ 0 ∷ [] → (slot : ℕ) (got : List Ptr) →
    gathers.begin slot (gathered_tasks (contents_of (drop space contents))) got
    ≡ found slot contents got (Some (record { space = space; next = 0; slot = key; deep = deep; fields = fields }))
holder_found contents space deep key fields less long its first slot got =
    let path = path_at contents space in
    let place = take deep path in
    let shown : up path ≡ key ∷ up place = ap up (last_apart path deep long) ∙ up_more place (slice_index path deep) ∙ ap (λ k. k ∷ up place) (sym its) in
    ap (λ ts. gathers.begin slot ts got) (gathered_next contents space less) ∙ ap (λ q. gathers.begin slot (holder_task q ++ behind contents space 0) got) shown
    ∙ ap (λ way. gathers.Down OWN_SPACE (slot ∷ way) (record { path = key ∷ up place; fields = 0 ∷ []; strict = false }) (behind contents space 0) got)
    (way_up place)
    ∙ rw first refl

pub holder_passed : (contents : List CodeContent) (space : ℕ) → space < length contents → length (path_at contents space) ≡ 0 → (slot : ℕ) (got : List Ptr) →
    gathers.begin slot (gathered_tasks (contents_of (drop space contents))) got ≡ gathers.begin slot (behind contents space 0) got
holder_passed contents space less none slot got =
    ap (λ ts. gathers.begin slot ts got) (gathered_next contents space less)
    ∙ ap (λ q. gathers.begin slot (holder_task q ++ behind contents space 0) got) (empty (path_at contents space) none)
  where
    empty : (path : List ℕ) → length path ≡ 0 → up path ≡ []
    empty [] e = refl
    empty (k ∷ path) e = absurd (omega (arith, e))
