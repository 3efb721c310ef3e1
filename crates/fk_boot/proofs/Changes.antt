-- The worlds on the way to the first world of a scenario.
use Rattle.std.proofs.Common.{◌≡◌, ℕ, suc, ◌+◌, ◌*◌, ◌<◌, ◌≤◌, min, Bool, true, false, nat_lt, cond, List, [], ◌∷◌, ◌++◌, append-nil, length, get_or}
use Rattle.std.proofs.Common.{take, drop, refl, sym, ap, ◌∙◌, arith, add-one}
use Rattle.std.proofs.Math.ListN.{drop_of_length-le}
use Rattle.std.proofs.Math.Seq.{drop-cons}
use Rattle.std.proofs.lemmas.List.{take_min}
use Rattle.std.proofs.lemmas.Grind.{flat_map-append}
use Rattle.std.proofs.lemmas.Bool.Decides.{Decides-ltb}
use Rattle.std.specs.List.{flat_map}
use Rattle.fk_model.specs.Places.{Path}
use Rattle.fk_model.specs.World.{World, Change, apply, apply_all}
use Rattle.fk_model.specs.World.Change.{PutPage}
use Rattle.fk_model.specs.Searches.{slots}
use Rattle.fk_store.specs.Store.Contents.{Contents}
use Rattle.fk_store.specs.Store.Paths.{path}
use Rattle.fk_store.specs.Store.World.{world, IsSpace}
use Rattle.fk_boot.specs.FirstWorld.{page_words, program_page, zero_pages}

pub apply_all-append : (a b : List Change) (w : World) → apply_all (a ++ b) w ≡ apply_all b (apply_all a w)
unfolding apply_all
apply_all-append [] b w = refl
apply_all-append (c ∷ a) b w = apply_all-append a b (apply c w)

-- ---- pages

-- a page that is put leaves every space
pub space-put : (m n : Contents) (space page s : ℕ) (words : List ℕ) →
    world n ≡ apply (PutPage (path m space) page words) (world m) → path n ≡ path m → IsSpace m s → IsSpace n s
unfolding apply
space-put m n space page s words e p h = rw (e, p) h

-- all of a list where it is short, and its first words
pub first-words : (n : ℕ) (xs : List ℕ) → take (min (length xs) n) xs ≡ take n xs
first-words n xs = let back : min (length xs) n ≡ min n (length xs) = omega arith in rw back (take_min n xs)

-- a program that ends before a page has no part in it
pub no-part : (space : Path) (words : List ℕ) (page : ℕ) → length words ≤ page * 64 → program_page space words page ≡ []
no-part space words page h = by (nat_lt (page * 64) (length words)) refl
  where
    by : (b : Bool) → nat_lt (page * 64) (length words) ≡ b → cond b (PutPage space page (page_words (take 64 (drop (page * 64) words))) ∷ []) [] ≡ []
    by true e = absurd (omega (arith, (Decides-ltb (page * 64) (length words)).0 e))
    by false e = refl

pub some-part : (space : Path) (words : List ℕ) (page : ℕ) →
    page * 64 < length words → program_page space words page ≡ PutPage space page (page_words (take 64 (drop (page * 64) words))) ∷ []
some-part space words page h = let e = (Decides-ltb (page * 64) (length words)).1 h in rw e refl

-- one more page of a program
pub more-parts : (space : Path) (words : List ℕ) (page : ℕ) (w v u : World) →
    v ≡ apply_all (flat_map (program_page space words) (slots page)) w → u ≡ apply_all (program_page space words page) v
    → u ≡ apply_all (flat_map (program_page space words) (slots (page + 1))) w
unfolding slots
more-parts space words page w v u e f =
    rw (add-one, flat_map-append (program_page space words) (slots page) (page ∷ []), append-nil, apply_all-append, ← e) f

-- one more page of zeros
pub more-zeros : (space : Path) (pages : List ℕ) (i : ℕ) (w v t : World) → i < length pages → v ≡ apply (PutPage space (get_or pages i 0) (page_words [])) w
    → apply_all (zero_pages space (drop i pages)) w ≡ t → apply_all (zero_pages space (drop (i + 1) pages)) v ≡ t
unfolding apply_all
more-zeros space pages i w v t h e left =
    let next = rw (drop-cons pages i 0) at left in
    rw (add-one, e) next

-- ---- entries

-- one more entry, where the changes of those that are left lead to a world
pub more-entries : {X : Type 0} (f : X → List Change) (xs : List X) (i : ℕ) (x : X) (w v t : World) → i < length xs → x ≡ get_or xs i x → v ≡ apply_all (f x) w
    → apply_all (flat_map f (drop i xs)) w ≡ t → apply_all (flat_map f (drop (i + 1) xs)) v ≡ t
more-entries f xs i x w v t h is e left =
    let rest : drop i xs ≡ x ∷ drop (suc i) xs = drop-cons xs i x h ∙ ap (λ y. y ∷ drop (suc i) xs) (sym is) in
    let next = rw rest at left in
    let parted = rw (apply_all-append (f x) (flat_map f (drop (suc i) xs))) at next in
    rw (add-one, e) parted

-- the end of such a loop
pub no-entries : {X : Type 0} (f : X → List Change) (xs : List X) (i : ℕ) (w t : World) → length xs ≤ i → apply_all (flat_map f (drop i xs)) w ≡ t → w ≡ t
unfolding apply_all
no-entries f xs i w t h left = rw (drop_of_length-le xs h) at left

pub no-zeros : (space : Path) (pages : List ℕ) (i : ℕ) (w t : World) → length pages ≤ i → apply_all (zero_pages space (drop i pages)) w ≡ t → w ≡ t
unfolding apply_all
no-zeros space pages i w t h left = rw (drop_of_length-le pages h) at left

-- one list of changes after another
pub then-all : (a b : List Change) (u w v : World) → u ≡ apply_all a w → v ≡ apply_all b u → v ≡ apply_all (a ++ b) w
then-all a b u w v e f = rw (apply_all-append a b, ← e) f
