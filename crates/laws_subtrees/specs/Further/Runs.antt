-- The laws of the cut for runs, with what a run supplies: its first world is runnable, and each of its moves is proper.
use Rattle.std.specs.Prelude.{ℕ, ◌+◌, ◌≤◌, List, [], ◌∷◌, length}
use Rattle.fk_model.specs.Places.{Path}
use Rattle.fk_model.specs.World.{World}
use Rattle.fk_model.specs.Searches.{depth}
use Rattle.fk_model.specs.Moves.{IsReady}
use Rattle.fk_model.specs.Runs.{Event, after, run}
use Rattle.fk_model.specs.Cut.{cut, IsPlain}
use Rattle.fk_model.specs.Further.{Onward, Told, IsFurther}
use Rattle.fk_model.specs.Seen.{IsSeen}
use Rattle.fk_model.specs.Seen.Seen.{Onwards, Unseen, Other}
use Rattle.laws_subtrees.specs.Cut.Likeness.{IsCutWorld}
use Rattle.laws_moves.specs.Whole.Runnable.{IsRunnable, AreProper}

-- moves of the world one after the other, each ready, and the moves as which a subtree sees them: none of them as other
pub data IsSeenRun (nester : Path) (slot : ℕ) : World → List Event → List Onward → Type 0 where
  Ends : (w : World) → IsSeenRun nester slot w [] []
  Sees : (w : World) (e : Event) (es : List Event) (m : Onward) (ms : List Onward) → IsReady w e.mover e.pick e.ask →
      IsSeen w nester slot e (Onwards m) → IsSeenRun nester slot (after w e) es ms → IsSeenRun nester slot w (e ∷ es) (m ∷ ms)
  Misses : (w : World) (e : Event) (es : List Event) (ms : List Onward) → IsReady w e.mover e.pick e.ask →
      IsSeen w nester slot e Unseen → IsSeenRun nester slot (after w e) es ms → IsSeenRun nester slot w (e ∷ es) ms

-- none of these moves, one after the other, is seen as other
abbrev pub SeesNoOther : Path → ℕ → World → List Event → Type 0
SeesNoOther nester slot w [] = Unit {0}
SeesNoOther nester slot w (e ∷ es) = (IsSeen w nester slot e Other → ⊥) × SeesNoOther nester slot (after w e) es

-- the subtree does the moves as which it sees those of the run, and ends where the run does
abbrev pub ProperRunKeepsCut : Type 0
ProperRunKeepsCut = (w : World) (nester : Path) (slot : ℕ) (es : List Event) (ms : List Onward) → IsRunnable w → w.next + length es ≤ depth → AreProper w es →
    IsSeenRun nester slot w es ms → IsPlain w nester slot →
    IsPlain (run w es) nester slot × ((told : List Told) × IsFurther (cut w nester slot) ms told (cut (run w es) nester slot))

-- the cut of a plain subtree is a world as a subtree that is seen alone is
abbrev pub CutIsCutWorld : Type 0
CutIsCutWorld = (w : World) (nester : Path) (slot : ℕ) → IsPlain w nester slot → IsCutWorld (cut w nester slot)

-- and each further run of such a world ends in one
abbrev pub FurtherStaysCutWorld : Type 0
FurtherStaysCutWorld = (c later : World) (ms : List Onward) (told : List Told) → IsFurther c ms told later → IsCutWorld c → IsCutWorld later
