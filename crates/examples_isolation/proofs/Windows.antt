-- A stranger that stores in the subtree through mappings of others.
use Rattle.std.proofs.Common.{◌≡◌, ℕ, if◌then◌else◌, eqb, Bool, true, false, not, ◌||◌, List, [], ◌∷◌, Option, None, Some, refl, arith}
use Rattle.std.specs.Prelude.{slice_index, unwrap_or}
use Rattle.std.specs.List.{list_any}
use Rattle.fk_model.specs.Places.{Path, same_path, parent}
use Rattle.fk_model.specs.Objects.{Body, holds}
use Rattle.fk_model.specs.Objects.Body.{Space}
use Rattle.fk_model.specs.World.{World}
use Rattle.fk_model.specs.Searches.{pointers}
use Rattle.fk_model.specs.Valid.{kind_there}
use Rattle.fk_model.specs.Whole.{IsWhole}
use Rattle.fk_model.specs.Cut.{IsPlain}
use Rattle.fk_model.specs.Seen.{leads_near, IsStranger}
use Rattle.examples_moves.specs.Worked.{page_with, stores_at_r2}
use Rattle.examples_premises.specs.Premises.{within, pages_of}
use Rattle.examples_premises.proofs.Listed.{found, whole, plain}
use Rattle.examples_isolation.specs.Isolation.{isolated_worlds, windows, with_windows, storer}

abbrev all_there : List (Path × Body)
all_there = ([], Space 0 None) ∷ windows

home : ℕ → Path
unfolding same_path
home n = if eqb n 0 then [] else (if eqb n 1 then 1 ∷ [] else (if eqb n 3 then 2 ∷ [] else (if eqb n 4 then 3 ∷ [] else within 6)))

pub windows_whole : IsWhole with_windows
unfolding isolated_worlds home kind_there
windows_whole = whole with_windows all_there (page_with (2 ∷ []) 0 stores_at_r2 ∷ pages_of) (λ x. refl) (λ s g. refl) home (λ s. within 2) (within 0)
    refl refl refl (omega arith)

pub windows_plain : IsPlain with_windows [] 1
unfolding isolated_worlds
windows_plain = plain with_windows all_there (λ x. refl) [] 1 refl 1 None refl

-- what lies in the storer's space doesn't lead near
is_apart : Path → Body → Bool
unfolding same_path
is_apart x b = not (same_path (parent x) (2 ∷ [])) || not (list_any (leads_near (1 ∷ [])) (pointers b))

is_not : (b : Bool) → not b ≡ true → b ≡ false
is_not true h = cc
is_not false h = refl

pub stores_as_stranger : IsStranger with_windows [] 1 storer
unfolding isolated_worlds is_apart
stores_as_stranger = record { outside = refl; aside = refl; apart = λ k. by k (with_windows.body (k ∷ 2 ∷ [])) refl; no_talk = refl; no_fault = refl }
  where
    by : (k : ℕ) (o : Option Body) → with_windows.body (k ∷ 2 ∷ []) ≡ o → holds (λ b. list_any (leads_near (1 ∷ [])) (pointers b)) o ≡ false
    by k None e = refl
    by k (Some b) e = is_not _ (found is_apart all_there refl (k ∷ 2 ∷ []) b e)

abbrev pub first_word : World → ℕ
first_word v = slice_index (unwrap_or (v.page [] 2) []) 0
