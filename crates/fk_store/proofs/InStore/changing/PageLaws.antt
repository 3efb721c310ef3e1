-- Pages: a page put or taken away under a name is that at the path.
use Rattle.std.proofs.Common.{◌≡◌, ◌+◌, ◌≤◌, ℕ, Bool, true, false, cond, ◌&&◌, ◌==◌, List, [], ◌∷◌, ◌++◌, take, drop, Option, Some, None, unwrap_or, slice_set}
use Rattle.std.proofs.Common.{option_map}
use Rattle.std.proofs.Common.{is_some, length, refl, sym, ap, subst, ◌∙◌, arith}
use Rattle.fk_model.specs.declared.limits.TheConstants.{PAGE_WORDS}
use Rattle.std.proofs.lemmas.Bool.Decides.{nat_tests}
use Rattle.std.proofs.Math.Nat.{min-le_left}
use Rattle.std.proofs.lemmas.List.{length-append, length-drop, length-set, length-take, length-take-le}
use Rattle.std.specs.Ordering.{eq_by_cmp}
use Rattle.std.specs.FinMap.{FinMap, get, insert, remove, get-insert, get-remove}
use Rattle.fk_model.specs.declared.names.Who.{Who}
use Rattle.fk_model.specs.Places.{Path, same_path}
use Rattle.fk_model.specs.Objects.{kind_of, and_then}
use Rattle.fk_model.specs.TransferRows.{overwritten}
use Rattle.fk_model.specs.World.{apply}
use Rattle.fk_model.specs.World.Change.{PutPage, DropPage}
use Rattle.fk_model.specs.Valid.{kind_there}
use Rattle.fk_store.specs.Store.Names.{at, page_cmp}
use Rattle.fk_store.specs.Store.Contents.{Contents, birth_there, is_live}
use Rattle.fk_store.specs.Store.Paths.{path, space_at}
use Rattle.fk_store.specs.Store.Bodies.{body_by}
use Rattle.fk_store.specs.Store.World.{world, body_at, page_at, IsSpace}
use Rattle.fk_store.specs.Store.WellFormed.{IsWellFormed}
use Rattle.fk_store.proofs.InFreezing.NameLaws.{page_total, page_tied}
use Rattle.fk_store.proofs.InStore.finding.Walks.{same_space}
use Rattle.fk_store.proofs.InStore.finding.LookUps.{IsSpace-live}
use Rattle.fk_store.proofs.InStore.changing.Sets.{home-births, is_live-births, path-births, space_at-births, lost_apart}

tied : (n g space page : ℕ) → eq_by_cmp page_cmp (n, g) (space, page) ≡ (n == space && g == page)
tied n g space page = grind (arith, nat_tests)

abbrev pub with_pages : Contents → FinMap page_cmp (List ℕ) → Contents
with_pages m pages = record m { pages = pages }

module _ (m : Contents) (kept : IsWellFormed m) (pages : FinMap page_cmp (List ℕ)) where
  births : (who : Who) → birth_there (with_pages m pages) who ≡ birth_there m who
  births who = refl

  pub paths-pages : path (with_pages m pages) ≡ path m
  paths-pages = path-births m kept (with_pages m pages) births

  bodies-pages : (q : Path) → body_at (with_pages m pages) q ≡ body_at m q
  bodies-pages [] = refl
  bodies-pages (k ∷ s) =
      λ i. and_then (λ n. option_map (body_by (paths-pages i)) (get m.bodies (at n k))) (space_at-births m kept (with_pages m pages) births s i)

  -- other pages make the world with these pages
  world-pages : (new : Path → ℕ → Option (List ℕ)) → ((s : Path) (page : ℕ) → and_then (λ n. get pages (n, page)) (space_at m s) ≡ new s page) →
      world (with_pages m pages) ≡ record { body = body_at m; page = new; next = m.next }
  unfolding world
  world-pages new are = λ i. record {
    body = λ q. bodies-pages q i;
    page = λ s page. (ap (and_then (λ n. get pages (n, page))) (space_at-births m kept (with_pages m pages) births s) ∙ are s page) i;
    next = m.next;
  }

  pub kinds-pages : kind_there (world (with_pages m pages)) ≡ kind_there (world m)
  unfolding kind_there world
  kinds-pages = λ i x. option_map kind_of (bodies-pages x i)

  pub kept-pages : ((space page : ℕ) → is_some (get pages (space, page)) ≡ true → is_live m space ≡ true) →
      ((space page : ℕ) (words : List ℕ) → get pages (space, page) ≡ Some words → length words ≡ PAGE_WORDS) → IsWellFormed (with_pages m pages)
  kept-pages housed full = record {
    begun = kept.begun;
    alone = λ q n h. home-births m kept (with_pages m pages) births n ∙ kept.alone q n h;
    younger = kept.younger;
    born = kept.born;
    slots = kept.slots;
    housed = λ q h. is_live-births m kept (with_pages m pages) births q.space ∙ kept.housed q h;
    paged = λ space page h. is_live-births m kept (with_pages m pages) births space ∙ housed space page h;
    leads = kept.leads;
    sized = kept.sized;
    full = full;
  }

module _ (m : Contents) (kept : IsWellFormed m) (space page : ℕ) where
  module _ (words : List ℕ) (live : IsSpace m space) where
    pub put_page-world : world (with_pages m (insert m.pages (space, page) words)) ≡ apply (PutPage (path m space) page words) (world m)
    unfolding world apply
    put_page-world =
        world-pages m kept (insert m.pages (space, page) words) (λ s g. cond (same_path s (path m space) && g == page) (Some words) (page_at m s g)) pages
      where
        pages : (s : Path) (g : ℕ) → and_then (λ n. get (insert m.pages (space, page) words) (n, g))
            (space_at m s) ≡ cond (same_path s (path m space) && g == page) (Some words) (page_at m s g)
        pages s g = by (space_at m s) refl
          where
            by : (o : Option ℕ) → space_at m s ≡ o → and_then (λ n. get (insert m.pages (space, page) words) (n, g))
                o ≡ cond (same_path s (path m space) && g == page) (Some words) (and_then (λ n. get m.pages (n, g)) o)
            by None none = rw (lost_apart m kept (at space 0) (IsSpace-live m kept space live) s none) refl
            by (Some n) here = rw (get-insert page_total m.pages (space, page) words (n, g), tied n g space page, same_space m kept s n space here) refl

    pub put_page-kept : length words ≡ PAGE_WORDS → IsWellFormed (with_pages m (insert m.pages (space, page) words))
    put_page-kept long = kept-pages m kept (insert m.pages (space, page) words)
        (λ q g h. by q g (eq_by_cmp page_cmp (q, g) (space, page)) refl (rw (get-insert page_total m.pages (space, page) words (q, g)) at h))
        (λ q g other h. full q g other (eq_by_cmp page_cmp (q, g) (space, page)) (sym (get-insert page_total m.pages (space, page) words (q, g)) ∙ h))
      where
        full : (q g : ℕ) (other : List ℕ) (t : Bool) → cond t (Some words) (get m.pages (q, g)) ≡ Some other → length other ≡ PAGE_WORDS
        full q g other true is = let same : words ≡ other = cc in subst (λ words. length words ≡ PAGE_WORDS) same long
        full q g other false is = kept.full q g other is

        by : (q g : ℕ) (t : Bool) → eq_by_cmp page_cmp (q, g) (space, page) ≡ t →
            is_some (cond (eq_by_cmp page_cmp (q, g) (space, page)) (Some words) (get m.pages (q, g))) ≡ true → is_live m q ≡ true
        by q g true e h = let same : q ≡ space = ap (λ p. p.0) (page_tied (q, g) (space, page) e) in rw same (IsSpace-live m kept space live)
        by q g false e h = kept.paged q g (rw e at h)

  -- a page with another word has as many
  pub put_word-long : (at word : ℕ) → is_some (get m.pages (space, page)) ≡ true →
      length (slice_set (unwrap_or (get m.pages (space, page)) []) at word) ≡ PAGE_WORDS
  put_word-long at word there = by (get m.pages (space, page)) refl there
    where
      by : (o : Option (List ℕ)) → get m.pages (space, page) ≡ o → is_some o ≡ true → length (slice_set (unwrap_or o []) at word) ≡ PAGE_WORDS
      by None e some = absurd (cc)
      by (Some words) e some = length-set words at word ∙ kept.full space page words e

  -- and so has one with other words
  pub copy_words-long : (into at count : ℕ) (from : List ℕ) → into + count ≤ 64 → is_some (get m.pages (space, page)) ≡ true →
      length (overwritten (unwrap_or (get m.pages (space, page)) []) into (take count (drop at from))) ≡ PAGE_WORDS
  copy_words-long into at count from fits there = by (get m.pages (space, page)) refl there
    where
      long : (words new : List ℕ) → length words ≡ PAGE_WORDS → length new ≤ count → length (overwritten words into new) ≡ PAGE_WORDS
      long words new full few =
          let first = length-take-le into words (omega (arith, full, fits)) in
          let second = length-append new (drop (into + length new) words) in
          let third = length-drop (into + length new) words in
          let both = length-append (take into words) (new ++ drop (into + length new) words) in
          omega (arith, first, second, third, both, full, few, fits)

      by : (o : Option (List ℕ)) → get m.pages (space, page) ≡ o → is_some o ≡ true →
          length (overwritten (unwrap_or o []) into (take count (drop at from))) ≡ PAGE_WORDS
      by None e some = absurd (cc)
      by (Some words) e some =
          let e2 = length-take count (drop at from) in
          let least = min-le_left count (length (drop at from)) in
          long words (take count (drop at from)) (kept.full space page words e) (omega (arith, e2, least))

  pub drop_page-world : world (with_pages m (remove m.pages (space, page))) ≡ apply (DropPage (path m space) page) (world m)
  unfolding world apply
  drop_page-world = world-pages m kept (remove m.pages (space, page)) (λ s g. cond (same_path s (path m space) && g == page) None (page_at m s g)) pages
    where
      pages : (s : Path) (g : ℕ) →
          and_then (λ n. get (remove m.pages (space, page)) (n, g)) (space_at m s) ≡ cond (same_path s (path m space) && g == page) None (page_at m s g)
      pages s g = by (space_at m s) refl
        where
          none_either : (b : Bool) → ◌≡◌ {A = Option (List ℕ)} None (cond b None None)
          none_either true = refl
          none_either false = refl

          by : (o : Option ℕ) → space_at m s ≡ o → and_then (λ n. get (remove m.pages (space, page)) (n, g))
              o ≡ cond (same_path s (path m space) && g == page) None (and_then (λ n. get m.pages (n, g)) o)
          by None none = none_either (same_path s (path m space) && g == page)
          by (Some n) here = rw (get-remove page_total m.pages (space, page) (n, g), tied n g space page, same_space m kept s n space here) refl

  pub drop_page-kept : IsWellFormed (with_pages m (remove m.pages (space, page)))
  drop_page-kept = kept-pages m kept
      (remove m.pages (space, page)) (λ q g h. by q g (eq_by_cmp page_cmp (q, g) (space, page)) (rw (get-remove page_total m.pages (space, page) (q, g)) at h))
      (λ q g words h. full q g words (eq_by_cmp page_cmp (q, g) (space, page)) (sym (get-remove page_total m.pages (space, page) (q, g)) ∙ h))
    where
      full : (q g : ℕ) (words : List ℕ) (t : Bool) → cond t None (get m.pages (q, g)) ≡ Some words → length words ≡ PAGE_WORDS
      full q g words true is = absurd (cc)
      full q g words false is = kept.full q g words is

      by : (q g : ℕ) (t : Bool) → is_some (cond t None (get m.pages (q, g))) ≡ true → is_live m q ≡ true
      by q g true h = absurd (cc)
      by q g false h = kept.paged q g h
