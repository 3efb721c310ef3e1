-- The law of the cut for lists of moves.
use Rattle.std.proofs.Common.{ℕ, List, [], ◌++◌, subst}
use Rattle.fk_model.specs.Places.{Path}
use Rattle.fk_model.specs.World.{World}
use Rattle.fk_model.specs.Runs.{after}
use Rattle.fk_model.specs.Cut.{cut, IsPlain}
use Rattle.fk_model.specs.Further.{Onward, Told, IsFurther}
use Rattle.fk_model.specs.Further.IsFurther.{Still, Then}
use Rattle.fk_model.specs.Seen.Seen.{Onwards, Unseen}
use Rattle.laws_subtrees.specs.Cut.CutLaws.{IsWatched, RunKeepsCut}
use Rattle.laws_subtrees.specs.Cut.CutLaws.IsWatched.{Ends, Sees, Misses}
use Rattle.laws_subtrees.proofs.InCut.joined.Every.{event_keeps}

along : (nester : Path) (slot : ℕ) (w later : World) (ms : List Onward) → IsWatched nester slot w ms later → IsPlain w nester slot →
    IsPlain later nester slot × ((told : List Told) × IsFurther (cut w nester slot) ms told (cut later nester slot))
along nester slot w _ _ (Ends _) plain = (plain, ([], Still (cut w nester slot)))
along nester slot w later _ (Sees _ _ e m ms whole fit ready seen rest) plain =
    let one = event_keeps w nester slot e whole plain fit ready (Onwards m) seen in
    let more = along nester slot (after w e) later ms rest one.0 in
    (more.0, (one.1.0 ++ more.1.0, Then (cut w nester slot) (cut (after w e) nester slot) (cut later nester slot) m ms one.1.0 more.1.0 one.1.1 more.1.1))
along nester slot w later ms (Misses _ _ e _ whole fit ready seen rest) plain =
    let more = along nester slot (after w e) later ms rest (event_keeps w nester slot e whole plain fit ready Unseen seen) in
    (more.0, (more.1.0, subst (λ (c : World). IsFurther c ms more.1.0 (cut later nester slot)) seen.1.0 more.1.1))

pub run_keeps : RunKeepsCut
run_keeps w later nester slot ms watched plain = along nester slot w later ms watched plain
