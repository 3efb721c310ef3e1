-- The laws for runs.
use Rattle.std.proofs.Common.{ℕ, ◌+◌, ◌≤◌, List, length, arith}
use Rattle.fk_model.specs.Places.{Path}
use Rattle.fk_model.specs.World.{World}
use Rattle.fk_model.specs.Searches.{depth}
use Rattle.fk_model.specs.Runs.{Event, after, run}
use Rattle.fk_model.specs.Further.{Onward}
use Rattle.fk_model.specs.Further.IsFurther.{Still, Then}
use Rattle.laws_subtrees.specs.Cut.CutLaws.{IsWatched}
use Rattle.laws_subtrees.specs.Cut.CutLaws.IsWatched.{Ends as WatchEnds, Sees as WatchSees, Misses as WatchMisses}
use Rattle.laws_subtrees.proofs.InCut.likeness.Instances.{cut-like, like-cut_world}
use Rattle.laws_subtrees.proofs.InCut.joined.Rebinding.{move_rebinds}
use Rattle.laws_subtrees.proofs.InCut.joined.Runs.{run_keeps}
use Rattle.laws_moves.specs.Whole.Runnable.{IsRunnable, AreProper}
use Rattle.laws_moves.proofs.InWhole.Laws.{gives_one_number, keeps_runnable}
use Rattle.laws_subtrees.specs.Further.Runs.{IsSeenRun, ProperRunKeepsCut, CutIsCutWorld, FurtherStaysCutWorld}
use Rattle.laws_subtrees.specs.Further.Runs.IsSeenRun.{Ends, Sees, Misses}

watch : (nester : Path) (slot : ℕ) (w : World) (es : List Event) (ms : List Onward) → IsRunnable w → w.next + length es ≤ depth → AreProper w es →
    IsSeenRun nester slot w es ms → IsWatched nester slot w ms (run w es)
unfolding run
watch nester slot w _ _ runs left proper (Ends _) = WatchEnds w
watch nester slot w _ _ runs left proper (Sees _ e es m ms ready seen rest) =
    let one = gives_one_number w e runs proper.0 in
    let next = keeps_runnable w e runs proper.0 (omega (arith, left)) in
    WatchSees w (run (after w e) es) e m ms runs.whole proper.0.fit ready seen
    (watch nester slot (after w e) es ms next (omega (arith, one, left)) proper.1 rest)
watch nester slot w _ _ runs left proper (Misses _ e es ms ready seen rest) =
    let one = gives_one_number w e runs proper.0 in
    let next = keeps_runnable w e runs proper.0 (omega (arith, left)) in
    WatchMisses w (run (after w e) es) e ms runs.whole proper.0.fit ready seen
    (watch nester slot (after w e) es ms next (omega (arith, one, left)) proper.1 rest)

pub proper_run_keeps : ProperRunKeepsCut
proper_run_keeps w nester slot es ms runs left proper seen plain = run_keeps w (run w es) nester slot ms (watch nester slot w es ms runs left proper seen) plain

pub cut_is_cut_world : CutIsCutWorld
cut_is_cut_world w nester slot plain = like-cut_world (cut-like w nester slot plain)

pub further_stays : FurtherStaysCutWorld
further_stays c _ _ _ (Still _) world = world
further_stays c later _ _ (Then _ d _ m ms told more one rest) world =
    further_stays d later ms more rest ((move_rebinds c m (λ i. i) world).stays told d one)
