-- Noninterference: what a subtree tells the outside is a function of its cut and of what came in.
use Rattle.std.specs.Prelude.{◌≡◌, ℕ, ◌+◌, ◌≤◌, List, length}
use Rattle.fk_model.specs.Places.{Path}
use Rattle.fk_model.specs.World.{World}
use Rattle.fk_model.specs.Searches.{depth}
use Rattle.fk_model.specs.Runs.{Event, run}
use Rattle.fk_model.specs.Cut.{cut, IsPlain}
use Rattle.fk_model.specs.Further.{Onward, Told, IsFurther}
use Rattle.laws_moves.specs.Whole.Runnable.{IsRunnable, AreProper}
use Rattle.laws_subtrees.specs.Further.Runs.{IsSeenRun}

-- a function: from one cut a list of moves tells one thing, and ends in one cut
abbrev pub IsOneWay : Type 0
IsOneWay = (c later also : World) (ms : List Onward) (told heard : List Told) → IsFurther c ms told later → IsFurther c ms heard also →
    (told ≡ heard) × (later ≡ also)

-- a run of the world from a runnable one on, in which a subtree is plain and sees no move as other. What comes in is the list of moves that
-- the subtree sees: which of its threads moves and whom that picks, how many words the outside takes of it, and what the outside does to it
pub record IsWatchedRun (w : World) (nester : Path) (slot : ℕ) (es : List Event) (came : List Onward) : Type 0 where
  pub runnable : IsRunnable w
  pub few : w.next + length es ≤ depth
  pub proper : AreProper w es
  pub plain : IsPlain w nester slot
  pub seen : IsSeenRun nester slot w es came

-- the subtree tells this, and nothing else can be told there; and what it tells leads to its cut after the run
pub record Tells (w : World) (nester : Path) (slot : ℕ) (es : List Event) (came : List Onward) (told : List Told) : Type 0 where
  pub plain : IsPlain (run w es) nester slot
  pub tells : IsFurther (cut w nester slot) came told (cut (run w es) nester slot)
  pub only : (heard : List Told) (later : World) → IsFurther (cut w nester slot) came heard later →
      (heard ≡ told) × (later ≡ cut (run w es) nester slot)

-- in both worlds the same is told, and both end in the same cut
pub record IsTheSameInBoth (w v : World) (nester other : Path) (slot place : ℕ) (es fs : List Event) (came : List Onward) : Type 0 where
  pub told : List Told
  pub in_one : Tells w nester slot es came told
  pub in_other : Tells v other place fs came told
  pub cuts : cut (run w es) nester slot ≡ cut (run v fs) other place

-- if two plain subtrees, of two worlds or of one, have the same cut, and see the same moves, they tell the outside the same and end in the same cut, whatever
-- else goes on in their worlds
abbrev pub Noninterference : Type 0
Noninterference = (w v : World) (nester other : Path) (slot place : ℕ) (es fs : List Event) (came : List Onward) →
    IsWatchedRun w nester slot es came → IsWatchedRun v other place fs came → cut w nester slot ≡ cut v other place →
    IsTheSameInBoth w v nester other slot place es fs came
