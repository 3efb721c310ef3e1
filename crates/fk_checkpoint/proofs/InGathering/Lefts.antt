-- Where a reader begins next.
use Rattle.std.proofs.Common.{◌≡◌, ℕ, ◌<◌, List, [], ◌∷◌, ◌++◌, map, length, sym, ap, subst, ◌∙◌, arith}
use Rattle.std.proofs.lemmas.List.{reverse-append, length-reverse}
use Rattle.fk_model.specs.declared.limits.TheConstants.{OWN_SPACE}
use Rattle.fk_model.specs.Places.{Path}
use Rattle.laws_checkpoint.specs.Foreign.{way_from}
use Rattle.laws_checkpoint.specs.Contents as reads
use Rattle.laws_checkpoint.specs.Contents.{Content}
use Rattle.fk_checkpoint.specs.Seeking.Seeking.{up}
use Rattle.fk_checkpoint.proofs.InSeeking.Ways.{way_up}
use Rattle.fk_checkpoint.specs.Gathering.Gathering.{paths_left}

pub left_next : (left : List (List ℕ)) (p : List ℕ) → paths_left (left ++ p ∷ []) ≡ up p ∷ paths_left left
left_next left p = ap (λ places. map up places) (reverse-append left (p ∷ []))

pub begins_below : (slot : ℕ) (p : List ℕ) (left : List (List ℕ)) (got : List Content) → 0 < length p →
    reads.Down OWN_SPACE (slot ∷ p) (up p) (paths_left left) got ≡ reads.begin slot (paths_left (left ++ p ∷ [])) got
begins_below slot p left got some = by (up p) (way_up p) (subst (λ n. 0 < n) (sym (length-reverse p)) some)
    ∙ ap (λ qs. reads.begin slot qs got) (sym (left_next left p))
  where
    by : (q : Path) → way_from [] q ≡ p → 0 < length q → reads.Down OWN_SPACE (slot ∷ p) q (paths_left left) got ≡ reads.begin_at slot q (paths_left left) got
    by [] e some = absurd (omega (arith, some))
    by (j ∷ q) e some = ap (λ way. reads.Down OWN_SPACE (slot ∷ way) (j ∷ q) (paths_left left) got) (sym e)

pub begins_root : (slot : ℕ) (p : List ℕ) (left : List (List ℕ)) (got : List Content) → length p ≡ 0 →
    reads.Searches 0 [] (up p) (paths_left left) got ≡ reads.begin slot (paths_left (left ++ p ∷ [])) got
begins_root slot [] left got none = ap (λ qs. reads.begin slot qs got) (sym (left_next left []))
begins_root slot (k ∷ p) left got none = absurd (omega (arith, none))
