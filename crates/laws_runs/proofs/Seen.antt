-- The moves of a history as a subtree sees them, up to the first that it sees as other.
use Rattle.std.proofs.Common.{◌≡◌, ◌⊎◌, inl, inr, ℕ, ◌+◌, ◌≤◌, true, false, List, [], ◌∷◌, ◌++◌, length, take, drop, Option, Some, None, refl, sym, ap, subst}
use Rattle.std.proofs.Common.{arith, ◌∙◌}
use Rattle.std.proofs.lemmas.List.{take-append-drop}
use Rattle.fk_model.specs.declared.moves.Move.{Move}
use Rattle.fk_model.specs.Places.{Path}
use Rattle.fk_model.specs.World.{World}
use Rattle.fk_model.specs.Runs.{Event, after, IsLegal, run as events_run}
use Rattle.fk_model.specs.Further.{Onward}
use Rattle.fk_model.specs.Seen.{IsSeen, FitsNoRow}
use Rattle.fk_model.specs.Seen.Seen.{Onwards, Unseen, Other}
use Rattle.laws_seen.proofs.Ways.{what_isnt_other}
use Rattle.laws_subtrees.specs.Further.Runs.{IsSeenRun, SeesNoOther}
use Rattle.laws_subtrees.specs.Further.Runs.IsSeenRun.{Ends, Sees, Misses}
use Rattle.laws_runs.specs.Cores.{House, Core, IsRun, world_at}
use Rattle.laws_runs.specs.Onwards.{events_of, between, RunGoesOn, MovesAreSeenOnce}
use Rattle.laws_runs.proofs.Onwards.{take_both, goes_on}
use Rattle.laws_runs.proofs.Events.{its_events}

-- ---- one move

module _ (w : World) (nester : Path) (slot : ℕ) (e : Event) where
  onward_fits : (m : Onward) → IsSeen w nester slot e (Onwards m) → FitsNoRow w (slot ∷ nester) e → ⊥
  onward_fits m seen (inl through) = let both = sym seen.0 ∙ through in cc
  onward_fits m seen (inr none) = let both = sym seen.1 ∙ none in cc

  onward_once : (m n : Onward) → IsSeen w nester slot e (Onwards m) → IsSeen w nester slot e (Onwards n) → m ≡ n
  onward_once m n seen also = let both : Some m ≡ Some n = sym seen.1 ∙ also.1 in cc

-- ---- lists of moves

module _ (nester : Path) (slot : ℕ) where
  sees : (w : World) (es : List Event) → IsLegal w es → SeesNoOther nester slot w es → (ms : List Onward) × IsSeenRun nester slot w es ms
  sees w [] legal none = ([], Ends w)
  sees w (e ∷ es) legal none = by (what_isnt_other w nester slot e none.0) (sees (after w e) es legal.1 none.1)
    where
      by : ((m : Onward) × IsSeen w nester slot e (Onwards m)) ⊎ IsSeen w nester slot e Unseen
          → (ms : List Onward) × IsSeenRun nester slot (after w e) es ms → (ms : List Onward) × IsSeenRun nester slot w (e ∷ es) ms
      by (inl onward) rest = (onward.0 ∷ rest.0, Sees w e es onward.0 rest.0 legal.0 onward.1 rest.1)
      by (inr unseen) rest = (rest.0, Misses w e es rest.0 legal.0 unseen rest.1)

  pub no_other : (w : World) (es : List Event) (ms : List Onward) → IsSeenRun nester slot w es ms → SeesNoOther nester slot w es
  no_other w _ _ (Ends _) = tt
  no_other w _ _ (Sees _ e es m ms ready seen rest) = ((λ other. onward_fits w nester slot e m seen other.0), no_other (after w e) es ms rest)
  no_other w _ _ (Misses _ e es ms ready seen rest) = ((λ other. other.1 seen.1), no_other (after w e) es ms rest)

  one : (w : World) (es : List Event) (ms ns : List Onward) → IsSeenRun nester slot w es ms → IsSeenRun nester slot w es ns → ms ≡ ns
  one w _ _ _ (Ends _) (Ends _) = refl
  one w _ _ _ (Sees _ e es m ms ready seen rest) (Sees _ _ _ n ns again also other) =
      let head = onward_once w nester slot e m n seen also in
      let tail = one (after w e) es ms ns rest other in
      ap (λ (x : Onward). x ∷ ms) head ∙ ap (λ (xs : List Onward). n ∷ xs) tail
  one w _ _ _ (Sees _ e es m ms ready seen rest) (Misses _ _ _ ns again also other) = absurd (onward_fits w nester slot e m seen also.0)
  one w _ _ _ (Misses _ e es ms ready seen rest) (Sees _ _ _ n ns again also other) = absurd (onward_fits w nester slot e n also seen.0)
  one w _ _ _ (Misses _ e es ms ready seen rest) (Misses _ _ _ ns again also other) = one (after w e) es ms ns rest other

pub seen_once : MovesAreSeenOnce
seen_once w nester slot es legal = record { sees = sees nester slot w es legal; no_other = no_other nester slot w es; one = one nester slot w es }

-- ---- in a history

legal-before : (w : World) (xs ys : List Event) → IsLegal w (xs ++ ys) → IsLegal w xs
legal-before w [] ys legal = tt
legal-before w (x ∷ xs) ys legal = (legal.0, legal-before (after w x) xs ys legal.1)

legal-behind : (w : World) (xs ys : List Event) → IsLegal w (xs ++ ys) → IsLegal (events_run w xs) ys
unfolding events_run
legal-behind w [] ys legal = legal
legal-behind w (x ∷ xs) ys legal = legal-behind (after w x) xs ys legal.1

legal_between : {J S A V : Type 0} (h : House J S A V) (first c : Core S A V) (past : List Move) (run : IsRun h first past c) (k n : ℕ) → k + n ≤ length past
    → IsLegal (world_at run k) (between run k n)
legal_between h first c past run k n low =
    let its = its_events h first run in
    let es = events_of run in
    let all : IsLegal first.world (take (k + n) es ++ drop (k + n) es) = subst (IsLegal first.world) (sym (take-append-drop (k + n) es)) its.legal in
    let front = legal-before first.world (take (k + n) es) (drop (k + n) es) all in
    subst (λ (w : World). IsLegal w (take n (drop k es))) (its.worlds k (omega (arith, low)))
    (legal-behind first.world (take k es) (take n (drop k es)) (subst (IsLegal first.world) (sym (take_both k n es)) front))

pub run_goes_on : {J S A V : Type 0} → RunGoesOn J S A V
run_goes_on h first c past run users tidy start left k n low nester slot plain none =
    let once = seen_once (world_at run k) nester slot (between run k n) (legal_between h first c past run k n low) in
    let seen = once.sees none in
    let on = goes_on h first users tidy start run left k n low nester slot seen.0 plain seen.1 in
    record {
      came = seen.0;
      seen = seen.1;
      only = λ ms its. once.one ms seen.0 its seen.1;
      plain = on.0;
      told = on.1.0;
      further = on.1.1;
    }
