-- Laying: pages that have been used, one behind the other.
use Rattle.std.proofs.Common.{◌≡◌, ℕ, zero, suc, ◌+◌, ◌<◌, true, false, cond, List, []}
use Rattle.std.proofs.Common.{◌∷◌, ◌++◌, length, take, slice_index_or, slice_set, refl, sym, ap, ◌∙◌, arith}
use Rattle.std.proofs.lemmas.List.{append-nil}
use Rattle.fk_burst.specs.declared.copies.copied.Copied.{Copied}
use Rattle.fk_kernel.specs.declared.replace.BurstPage.{BurstPage}
use Rattle.fk_burst.specs.Burst.Commits.{page_at, used_pages}

pub take_set : {X : Type 0} (xs : List X) (n : ℕ) (x : X) → n < length xs → take (suc n) (slice_set xs n x) ≡ take n xs ++ x ∷ []
take_set [] n x less = absurd (omega (arith, less))
take_set (y ∷ ys) zero x less = refl
take_set (y ∷ ys) (suc n) x less = ap (λ l. y ∷ l) (take_set ys n x (omega (arith, less)))

-- where no page behind the first two places is used
pub near_pages : (c : Copied) (space : ℕ) → slice_index_or c.used 2 false ≡ false → slice_index_or c.used 3 false ≡ false →
    used_pages 4 c space ≡ used_pages 2 c space
unfolding used_pages
near_pages c space third fourth =
    ap (λ u. used_pages 3 c space ++ cond u (page_at c space 3 ∷ []) []) fourth ∙ append-nil (used_pages 3 c space)
    ∙ ap (λ u. used_pages 2 c space ++ cond u (page_at c space 2 ∷ []) []) third ∙ append-nil (used_pages 2 c space)

pub none_laid : (c : Copied) (space : ℕ) (room : List BurstPage) → take 0 room ≡ used_pages 0 c space
unfolding used_pages
none_laid c space room = refl

module _ (c : Copied) (space k : ℕ) where
  pub laid_more : (room : List BurstPage) (laid : ℕ) → laid < length room → slice_index_or c.used k false ≡ true → take laid room ≡ used_pages k c space →
      take (laid + 1) (slice_set room laid (page_at c space k)) ≡ used_pages (k + 1) c space
  unfolding used_pages
  laid_more room laid less is so_far =
      let more : laid + 1 ≡ suc laid = omega arith in
      let next : suc k ≡ k + 1 = omega arith in
      ap (λ n. take n (slice_set room laid (page_at c space k))) more
      ∙ take_set room laid (page_at c space k) less
      ∙ ap (λ l. l ++ page_at c space k ∷ []) so_far
      ∙ ap (λ t. used_pages k c space ++ cond t (page_at c space k ∷ []) []) (sym is)
      ∙ ap (λ n. used_pages n c space) next

  abbrev page_of : ℕ → List ℕ → BurstPage
  page_of number words = record { space = space; page = number; words = words }

  pub laid_page : (room : List BurstPage) (laid number : ℕ) (words : List ℕ) → laid < length room → slice_index_or c.used k false ≡ true →
      number ≡ c.first + k → words ≡ slice_index_or c.words k [] → take laid room ≡ used_pages k c space →
      take (laid + 1) (slice_set room laid (page_of number words)) ≡ used_pages (k + 1) c space
  laid_page room laid number words less is place its so_far =
      (λ i. take (laid + 1) (slice_set room laid (page_of (place i) (its i)))) ∙ laid_more room laid less is so_far

  pub laid_same : (room : List BurstPage) (laid : ℕ) → slice_index_or c.used k false ≡ false → take laid room ≡ used_pages k c space →
      take laid room ≡ used_pages (k + 1) c space
  unfolding used_pages
  laid_same room laid is so_far =
      let next : suc k ≡ k + 1 = omega arith in
      so_far ∙ sym (append-nil (used_pages k c space))
      ∙ ap (λ t. used_pages k c space ++ cond t (page_at c space k ∷ []) []) (sym is)
      ∙ ap (λ n. used_pages n c space) next
