-- The way down to a space, by the slots from the root on.
use Rattle.std.proofs.Common.{◌≡◌, ℕ, zero, suc, ◌+◌, ◌<◌, List, [], ◌∷◌, ◌++◌, length, take, drop, reverse, map, min, refl, sym, ap, subst, ◌∙◌, arith}
use Rattle.std.specs.Prelude.{slice_index}
use Rattle.std.proofs.lemmas.List.{reverse-reverse, reverse-append, append_assoc, append-nil, length-reverse, take_min as take-min}
use Rattle.fk_model.specs.Places.{Path}
use Rattle.laws_checkpoint.specs.Foreign.{PLACES, way_from}
use Rattle.laws_checkpoint.specs.Walk as walks
use Rattle.laws_checkpoint.specs.Walk.{Met, space_at}
use Rattle.fk_model.specs.declared.limits.TheConstants.{OWN_SPACE}
use Rattle.laws_checkpoint.specs.Foreign as seeks
use Rattle.laws_checkpoint.specs.Assembly.{met_task}
use Rattle.fk_checkpoint.specs.declared.seeking.met.Met.{Met as CodeMet}
use Rattle.fk_checkpoint.specs.declared.seeking.seek.Look.TheVariants as looks
use Rattle.fk_checkpoint.specs.Seeking.Seeking.{up, met_of, mets_of, seek_of, tasks_behind}

way_onto : (below q : List ℕ) → way_from below q ≡ reverse q ++ below
way_onto below [] = refl
way_onto below (k ∷ q) = way_onto (k ∷ below) q ∙ sym (ap (λ xs. xs ++ below) (reverse-append (k ∷ []) q) ∙ append_assoc (reverse q) (k ∷ []) below)

pub way_up : (place : List ℕ) → way_from [] (up place) ≡ place
way_up place = way_onto [] (reverse place) ∙ append-nil (reverse (reverse place)) ∙ reverse-reverse place

pub up_more : (place : List ℕ) (k : ℕ) → up (place ++ k ∷ []) ≡ k ∷ up place
up_more place k = reverse-append place (k ∷ [])

pub next_way : (place : List ℕ) (gone : ℕ) → gone < length place → drop gone place ≡ slice_index place gone ∷ drop (suc gone) place
next_way [] gone less = absurd (omega (arith, less))
next_way (k ∷ place) zero less = refl
next_way (k ∷ place) (suc gone) less = next_way place gone (omega (arith, less))

pub take_min : (n : ℕ) (xs : List ℕ) → length xs ≡ 64 → take (min n 64) xs ≡ take n xs
take_min n xs long = subst (λ k. take (min n k) xs ≡ take n xs) long (take-min n xs)

-- generic: what is behind a place of a list
pub no_more : {X : Type 0} (xs : List X) (n : ℕ) → (n < length xs → ⊥) → drop n xs ≡ []
no_more [] zero past = refl
no_more [] (suc n) past = refl
no_more (x ∷ xs) zero past = absurd (past (omega arith))
no_more (x ∷ xs) (suc n) past = no_more xs n (λ less. past (omega (arith, less)))

begins_here : (slot : ℕ) (mets : List CodeMet) (at : ℕ) → at < length mets →
    seek_of slot mets (record { at = suc at; look = looks.Down 0 }) ≡ seeks.begin slot (tasks_behind mets at)
begins_here slot [] at less = absurd (omega (arith, less))
begins_here slot (m ∷ mets) zero less = ap (λ way. seeks.Down OWN_SPACE (slot ∷ way) (met_task (met_of m)) (map met_task (mets_of mets))) (sym (way_up m.place))
begins_here slot (m ∷ mets) (suc at) less = begins_here slot mets at (omega (arith, less))

one_more : (n : ℕ) → suc n ≡ n + 1
one_more n = omega arith

pub begins_next : (slot : ℕ) (mets : List CodeMet) (at : ℕ) → at < length mets →
    seek_of slot mets (record { at = at + 1; look = looks.Down 0 }) ≡ seeks.begin slot (tasks_behind mets at)
begins_next slot mets at less =
    subst (λ k. seek_of slot mets (record { at = k; look = looks.Down 0 }) ≡ seeks.begin slot (tasks_behind mets at)) (one_more at)
    (begins_here slot mets at less)

-- back to a space
pub reach_down : (slot : ℕ) (place : List ℕ) (from : ℕ) (got : List Met) → 0 < length place →
    walks.Down OWN_SPACE (slot ∷ place) (up place) from got ≡ walks.reach slot (up place) from got
reach_down slot place from got some = by (up place) (way_up place) (rw (length-reverse place) some)
  where
    by : (q : Path) → way_from [] q ≡ place → 0 < length q → walks.Down OWN_SPACE (slot ∷ place) q from got ≡ walks.reach slot q from got
    by [] e some = absurd (omega (arith, some))
    by (j ∷ q) e some = ap (λ way. walks.Down OWN_SPACE (slot ∷ way) (j ∷ q) from got) (sym e)

pub leaves_up : (slot : ℕ) (place : List ℕ) (last : ℕ) (got : List Met) → walks.leaves slot (up (place ++ last ∷ [])) got ≡ walks.reach slot (up place)
    (last + 1) got
leaves_up slot place last got = ap (λ q. walks.leaves slot q got) (up_more place last)
