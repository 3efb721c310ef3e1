-- NextPages: the first page of a space from a number on.
use Rattle.std.proofs.Common.{◌≡◌, ℕ, zero, suc, ◌+◌, ◌<◌, ◌≤◌, false, cond, nat_le, Option, Some, None, option_map, is_some, IsSome, refl, sym, ap}
use Rattle.std.proofs.Common.{subst, arith}
use Rattle.std.proofs.lemmas.Bool.{lt-leb}
use Rattle.fk_model.specs.Places.{Path}
use Rattle.fk_model.specs.World.{World}
use Rattle.fk_model.specs.Searches.{lowest}
use Rattle.fk_model.specs.SpaceRows.{next_page}
use Rattle.fk_store.proofs.InStore.finding.ReachLaws.{lowest-first, lowest-none, lowest-zero}

abbrev pub from_on : World → Path → ℕ → ℕ → Option ℕ
from_on w s from page = cond (nat_le from page) (option_map (λ words. page) (w.page s page)) None

-- none of the pages below the first that is sought
pub none_below : (w : World) (s : Path) (from n : ℕ) → n ≤ from → lowest n (from_on w s from) ≡ None
none_below w s from zero le = lowest-zero (from_on w s from)
none_below w s from (suc n) le =
    let next : n + 1 ≡ suc n = omega arith in
    subst (λ k. lowest k (from_on w s from) ≡ None) next
    (lowest-none n (from_on w s from) (none_below w s from n (omega (arith, le)))
    (ap (λ t. cond t (option_map (λ words. n) (w.page s n)) None) (lt-leb from n (omega (arith, le)))))

pub none_there : {A : Type 0} (o : Option A) → is_some o ≡ false → o ≡ None
none_there None h = refl
none_there (Some a) h = absurd (cc)

module _ (w : World) (s : Path) (from i : ℕ) (before : lowest i (from_on w s from) ≡ None) where
  pub next-first : (o : Option ℕ) → o ≡ from_on w s from i → IsSome o → i < 256 → o ≡ next_page w s from
  unfolding next_page
  next-first o here some low = sym (lowest-first 256 i (from_on w s from) o before (sym here) some low)

  pub next-none : 256 ≤ i → i ≤ 256 → None ≡ next_page w s from
  unfolding next_page
  next-none past low = let end : i ≡ 256 = omega arith in sym (subst (λ n. lowest n (from_on w s from) ≡ None) end before)
