-- Replacing: pages that get other words stay there, and the world stays valid.
use Rattle.std.proofs.Common.{◌≡◌, ℕ, zero, suc, ◌+◌, ◌<◌, ◌≤◌, ◌==◌, ◌&&◌, Bool, true, false, cond, List, [], ◌∷◌, length, drop, All, Some}
use Rattle.std.proofs.Common.{is_some, IsSome, Result, Ok, Err, IsOk, OnOk, slice_index_or, refl, sym, ap, subst, ◌∙◌, arith}
use Rattle.std.proofs.lemmas.List.Elements.{All-head, All-tail}
use Rattle.fk_model.specs.declared.names.Who.{Who}
use Rattle.fk_model.specs.Objects.{Mode}
use Rattle.fk_model.specs.Objects.Mode.{Running}
use Rattle.fk_model.specs.Places.{Path, same_path}
use Rattle.fk_model.specs.Valid.{IsValid}
use Rattle.fk_model.specs.Who.{space_born}
use Rattle.fk_model.specs.World.{World, apply}
use Rattle.fk_model.specs.World.Change.{Alter, PutPage}
use Rattle.fk_model.specs.World.Edit.{Proceed}
use Rattle.laws_moves.proofs.InMachine.validity.Changes.{valid-apply, rooted-apply, paged-apply}
use Rattle.fk_kernel.specs.declared.replace.BurstPage.{BurstPage}
use Rattle.fk_store.specs.Store.Contents.{Contents}
use Rattle.fk_store.specs.Store.Paths.{path, place}
use Rattle.fk_store.specs.Store.World.{world}
use Rattle.fk_kernel.specs.Replaced.{IsPageThere, rewritten, replaced}

-- a page that is there is still there when one has got other words
pub stays : (path : ℕ → Path) (w : World) (s : Path) (number : ℕ) (words : List ℕ) (p : BurstPage) → IsPageThere path w p →
    IsPageThere path (apply (PutPage s number words) w) p
unfolding apply
stays path w s number words p there = (there.0, by (same_path (path p.space) s && p.page == number))
  where
    by : (same : Bool) → is_some (cond same (Some words) (w.page (path p.space) p.page)) ≡ true
    by true = refl
    by false = there.1

all-stay : (path : ℕ → Path) (w : World) (s : Path) (number : ℕ) (words : List ℕ) (ps : List BurstPage) → All (IsPageThere path w) ps →
    All (IsPageThere path (apply (PutPage s number words) w)) ps
all-stay path w s number words ps all k d less = stays path w s number words (slice_index_or ps k d) (all k d less)

-- ---- one after the other

next-page : {X : Type 0} (xs : List X) (n : ℕ) (d : X) → n < length xs → drop n xs ≡ slice_index_or xs n d ∷ drop (n + 1) xs
next-page xs n d less = here xs n d less ∙ ap (λ k. slice_index_or xs n d ∷ drop k xs) more
  where
    more : suc n ≡ n + 1
    more = omega arith

    here : {X : Type 0} (xs : List X) (n : ℕ) (d : X) → n < length xs → drop n xs ≡ slice_index_or xs n d ∷ drop (suc n) xs
    here [] n d less = absurd (omega (arith, less))
    here (x ∷ xs) zero d less = refl
    here (x ∷ xs) (suc n) d less = here xs n d (omega (arith, less))

pub rewritten-none : (path : ℕ → Path) (ps : List BurstPage) (n : ℕ) (w last : World) → length ps ≤ n → rewritten path (drop n ps) w ≡ last → w ≡ last
unfolding rewritten
rewritten-none path ps n w last short rest = ap (λ qs. rewritten path qs w) (sym (none ps n short)) ∙ rest
  where
    none : {X : Type 0} (xs : List X) (n : ℕ) → length xs ≤ n → drop n xs ≡ []
    none [] zero short = refl
    none [] (suc n) short = refl
    none (x ∷ xs) zero short = absurd (omega (arith, short))
    none (x ∷ xs) (suc n) short = none xs n (omega (arith, short))

pub rewritten-more : (path : ℕ → Path) (ps : List BurstPage) (n : ℕ) (d : BurstPage) (w : World) → n < length ps →
    rewritten path (drop (n + 1) ps) (apply (PutPage (path (slice_index_or ps n d).space) (slice_index_or ps n d).page (slice_index_or ps n d).words) w)
    ≡ rewritten path (drop n ps) w
unfolding rewritten
rewritten-more path ps n d w less = sym (ap (λ qs. rewritten path qs w) (next-page ps n d less))

pub still-there : (path : ℕ → Path) (ps : List BurstPage) (x : BurstPage) (w v : World) → v ≡ apply (PutPage (path x.space) x.page x.words) w →
    All (IsPageThere path w) ps → All (IsPageThere path v) ps
still-there path ps x w v becomes all =
    subst (λ u. All (IsPageThere path u) ps) (sym becomes) (all-stay path w (path x.space) x.page x.words ps all)

-- the page at a place of the list
pub first-there : (m : Contents) (old : ℕ → Path) (ps : List BurstPage) (i : ℕ) (d : BurstPage) → path m ≡ old → All (IsPageThere old (world m)) ps →
    i < length ps → IsPageThere (path m) (world m) (slice_index_or ps i d)
first-there m old ps i d same all less = subst (λ (p : ℕ → Path). IsPageThere p (world m) (slice_index_or ps i d)) (sym same) (all i d less)

-- one page more of the list
module _ (old : ℕ → Path) (m n : Contents) (ps : List BurstPage) (i : ℕ) (d : BurstPage) (same : path m ≡ old)
    (becomes : world n
    ≡ apply (PutPage (path m (slice_index_or ps i d).space) (slice_index_or ps i d).page (slice_index_or ps i d).words) (world m)) where
  becomes-so : world n ≡ apply (PutPage (old (slice_index_or ps i d).space) (slice_index_or ps i d).page (slice_index_or ps i d).words) (world m)
  becomes-so = becomes
      ∙ ap (λ (p : ℕ → Path). apply (PutPage (p (slice_index_or ps i d).space) (slice_index_or ps i d).page (slice_index_or ps i d).words) (world m)) same

  pub goes-rest : (last : World) → i < length ps → rewritten old (drop i ps) (world m) ≡ last → rewritten old (drop (i + 1) ps) (world n) ≡ last
  goes-rest last less so_far = ap (rewritten old (drop (i + 1) ps)) becomes-so ∙ rewritten-more old ps i d (world m) less ∙ so_far

  pub goes-there : All (IsPageThere old (world m)) ps → All (IsPageThere old (world n)) ps
  goes-there all = still-there old ps (slice_index_or ps i d) (world m) (world n) becomes-so all

pub ok-so : {X E : Type 0} (r : Result X E) (P : Type 0) → IsOk r → OnOk r P → P
ok-so (Ok x) P is h = h
ok-so (Err e) P is h = absurd (cc)

-- the pages, and then the thread
pub replaced-so : (m n : Contents) (v : World) (who : Who) (registers : List ℕ) (counter : ℕ) (pages : List BurstPage) →
    path m ≡ space_born (world m) →
    world n ≡ rewritten (path m) pages (world m) → path n ≡ path m →
    v ≡ apply (Alter (place (path n) who) (Proceed (Running registers) counter)) (world n) → v ≡ replaced (world m) who registers counter pages
replaced-so m n v who registers counter pages born rewrites paths proceeds =
    proceeds ∙ (λ i. apply (Alter (place (here i) who) (Proceed (Running registers) counter)) (pages-in i))
  where
    here : path n ≡ space_born (world m)
    here = paths ∙ born

    pages-in : world n ≡ rewritten (space_born (world m)) pages (world m)
    pages-in = rewrites ∙ ap (λ (p : ℕ → Path). rewritten p pages (world m)) born

-- ---- validity

pub valid-proceeded : (w : World) (x : Path) (mode : Mode) (counter : ℕ) → IsValid w → IsValid (apply (Alter x (Proceed mode counter)) w)
valid-proceeded w x mode counter valid = record {
  consistent = valid-apply (Alter x (Proceed mode counter)) w valid.consistent tt;
  rooted = rooted-apply (Alter x (Proceed mode counter)) w valid.rooted tt;
  paged = paged-apply (Alter x (Proceed mode counter)) w valid.paged tt;
}

pub valid-put : (w : World) (s : Path) (number : ℕ) (words : List ℕ) → IsSome (w.page s number) → IsValid w → IsValid (apply (PutPage s number words) w)
valid-put w s number words there valid = record {
  consistent = valid-apply (PutPage s number words) w valid.consistent (valid.paged s number there);
  rooted = rooted-apply (PutPage s number words) w valid.rooted (valid.paged s number there);
  paged = paged-apply (PutPage s number words) w valid.paged (valid.paged s number there);
}

pub valid-rewritten : (path : ℕ → Path) (ps : List BurstPage) (w : World) → All (IsPageThere path w) ps → IsValid w → IsValid (rewritten path ps w)
unfolding rewritten
valid-rewritten path [] w all valid = valid
valid-rewritten path (p ∷ ps) w all valid = valid-rewritten path ps (apply (PutPage (path p.space) p.page p.words) w)
    (all-stay path w (path p.space) p.page p.words ps (All-tail (IsPageThere path w) p ps all))
    (valid-put w (path p.space) p.page p.words (All-head (IsPageThere path w) p ps all).1 valid)
