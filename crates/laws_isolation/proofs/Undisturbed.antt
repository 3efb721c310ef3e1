-- Integrity, from the law of the cut and that of strangers.
use Rattle.std.proofs.Common.{◌≡◌, ℕ, ◌+◌, ◌≤◌, List, [], ◌∷◌, length, refl, arith}
use Rattle.fk_model.specs.Places.{Path}
use Rattle.fk_model.specs.World.{World}
use Rattle.fk_model.specs.Searches.{depth}
use Rattle.fk_model.specs.Runs.{Event, after, run}
use Rattle.fk_model.specs.Cut.{cut, IsPlain}
use Rattle.fk_model.specs.Further.{Onward, Told, IsFurther}
use Rattle.fk_model.specs.Further.Onward.{Own}
use Rattle.fk_model.specs.Further.IsFurther.{Still}
use Rattle.fk_model.specs.Seen.{IsSeen}
use Rattle.fk_model.specs.Seen.Seen.{Onwards, Unseen}
use Rattle.laws_moves.specs.Whole.Runnable.{IsRunnable, AreProper}
use Rattle.laws_moves.proofs.InWhole.Laws.{gives_one_number, keeps_runnable}
use Rattle.laws_subtrees.specs.Further.Runs.{IsSeenRun}
use Rattle.laws_subtrees.specs.Further.Runs.IsSeenRun.{Ends as SeenEnds, Sees, Misses}
use Rattle.laws_subtrees.proofs.InCut.joined.Every.{event_keeps}
use Rattle.laws_subtrees.proofs.InFurther.Runs.{proper_run_keeps}
use Rattle.laws_subtrees.proofs.InFurther.strangers.Laws.{strangers_move_unseen, strangers_act_unseen}
use Rattle.laws_isolation.specs.Integrity.{IsStrangersMove, StrangersLeaveTheCut, AreStrangersMoves, StrangersRunsLeaveTheCut, IsLeftToItself}
use Rattle.laws_isolation.specs.Integrity.{StrangersLeaveASubtreeToItself}
use Rattle.laws_isolation.specs.Integrity.IsStrangersMove.{OfThread, OfServer}
use Rattle.laws_isolation.specs.Integrity.IsLeftToItself.{Ends, Moves, Tries, Strangers}

-- ---- one move

pub strangers_leave_cut : StrangersLeaveTheCut
strangers_leave_cut w nester slot e whole plain windows fit ready strange =
    let missed = by strange in
    record { unseen = missed; plain = event_keeps w nester slot e whole plain fit ready Unseen missed; same = missed.1.0 }
  where
    by : IsStrangersMove w nester slot e → IsSeen w nester slot e Unseen
    by (OfThread stranger is) = strangers_move_unseen w nester slot e whole plain windows stranger is fit
    by (OfServer stranger is) = strangers_act_unseen w nester slot e whole plain windows stranger is ready

-- ---- lists of moves

seen_so : (nester : Path) (slot : ℕ) (w : World) (es : List Event) (ms : List Onward) → IsRunnable w → w.next + length es ≤ depth → AreProper w es →
    IsPlain w nester slot → IsLeftToItself nester slot w es ms → IsSeenRun nester slot w es ms
seen_so nester slot w _ _ runs left proper plain (Ends _) = SeenEnds w
seen_so nester slot w _ _ runs left proper plain (Moves _ e es x pick taken ms inside ready seen rest) =
    let one = gives_one_number w e runs proper.0 in
    let next = keeps_runnable w e runs proper.0 (omega (arith, left)) in
    let done = event_keeps w nester slot e runs.whole plain proper.0.fit ready (Onwards (Own x pick taken)) seen in
    Sees w e es (Own x pick taken) ms ready seen (seen_so nester slot (after w e) es ms next (omega (arith, one, left)) proper.1 done.0 rest)
seen_so nester slot w _ _ runs left proper plain (Tries _ e es ms inside ready seen rest) =
    let one = gives_one_number w e runs proper.0 in
    let next = keeps_runnable w e runs proper.0 (omega (arith, left)) in
    let stays = event_keeps w nester slot e runs.whole plain proper.0.fit ready Unseen seen in
    Misses w e es ms ready seen (seen_so nester slot (after w e) es ms next (omega (arith, one, left)) proper.1 stays rest)
seen_so nester slot w _ _ runs left proper plain (Strangers _ e es ms ready windows strange rest) =
    let one = gives_one_number w e runs proper.0 in
    let next = keeps_runnable w e runs proper.0 (omega (arith, left)) in
    let its = strangers_leave_cut w nester slot e runs.whole plain windows proper.0.fit ready strange in
    Misses w e es ms ready its.unseen (seen_so nester slot (after w e) es ms next (omega (arith, one, left)) proper.1 its.plain rest)

pub left_to_itself : StrangersLeaveASubtreeToItself
left_to_itself w nester slot es ms runs left proper plain alone =
    proper_run_keeps w nester slot es ms runs left proper (seen_so nester slot w es ms runs left proper plain alone) plain

-- ---- strangers alone

as_left : (nester : Path) (slot : ℕ) (w : World) (es : List Event) → AreStrangersMoves nester slot w es → IsLeftToItself nester slot w es []
as_left nester slot w [] strange = Ends w
as_left nester slot w (e ∷ es) strange = Strangers w e es [] strange.0 strange.1 strange.2 (as_left nester slot (after w e) es strange.3)

still_same : (c d : World) (told : List Told) → IsFurther c [] told d → d ≡ c
still_same c _ _ (Still _) = refl

pub strangers_runs_leave_cut : StrangersRunsLeaveTheCut
strangers_runs_leave_cut w nester slot es runs left proper plain strange =
    let its = left_to_itself w nester slot es [] runs left proper plain (as_left nester slot w es strange) in
    (its.0, still_same (cut w nester slot) (cut (run w es) nester slot) its.1.0 its.1.1)
