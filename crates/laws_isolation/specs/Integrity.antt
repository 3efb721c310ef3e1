-- Integrity: what strangers do leaves a plain subtree as it was.
use Rattle.std.specs.Prelude.{◌≡◌, ℕ, ◌+◌, ◌≤◌, true, List, [], ◌∷◌, length, Option}
use Rattle.fk_model.specs.Places.{Path, is_within}
use Rattle.fk_model.specs.World.{World}
use Rattle.fk_model.specs.Searches.{depth}
use Rattle.fk_model.specs.Moves.{IsReady}
use Rattle.fk_model.specs.Runs.{Event, after, run}
use Rattle.fk_model.specs.Valid.{is_fit}
use Rattle.fk_model.specs.Whole.{IsWhole}
use Rattle.fk_model.specs.Cut.{cut, IsPlain}
use Rattle.fk_model.specs.Further.{Onward, Told, IsFurther}
use Rattle.fk_model.specs.Further.Onward.{Own}
use Rattle.fk_model.specs.Seen.{IsSeen, IsStranger}
use Rattle.fk_model.specs.Seen.Seen.{Onwards, Unseen}
use Rattle.laws_moves.specs.Whole.Runnable.{IsRunnable, AreProper}
use Rattle.laws_subtrees.specs.Further.Strangers.{HasNoWindow, is_of_thread, is_of_server, IsStrangersPort}

-- a stranger makes the move: a thread that is one, a user's or a porter, or the native server of a port that is one's
pub data IsStrangersMove (w : World) (nester : Path) (slot : ℕ) (e : Event) : Type 0 where
  OfThread : IsStranger w nester slot e.mover → is_of_thread e.ask ≡ true → IsStrangersMove w nester slot e
  OfServer : IsStrangersPort w nester slot e.mover → is_of_server e.ask ≡ true → IsStrangersMove w nester slot e

-- ---- one move

-- the move isn't seen, and the subtree is plain after it and has the cut that it had
pub record IsUntouched (w : World) (nester : Path) (slot : ℕ) (e : Event) : Type 0 where
  pub unseen : IsSeen w nester slot e Unseen
  pub plain : IsPlain (after w e) nester slot
  pub same : cut (after w e) nester slot ≡ cut w nester slot

-- a ready move of a stranger isn't seen by a plain subtree, which stays plain, and its cut stays as it was. No mapping outside may lead to a region inside
abbrev pub StrangersLeaveTheCut : Type 0
StrangersLeaveTheCut = (w : World) (nester : Path) (slot : ℕ) (e : Event) → IsWhole w → IsPlain w nester slot → HasNoWindow w nester slot →
    is_fit w e.mover e.ask ≡ true → IsReady w e.mover e.pick e.ask → IsStrangersMove w nester slot e → IsUntouched w nester slot e

-- ---- lists of moves

-- moves one after the other, each ready, a stranger's, and made where no mapping outside leads to a region inside
abbrev pub AreStrangersMoves : Path → ℕ → World → List Event → Type 0
AreStrangersMoves nester slot w [] = Unit {0}
AreStrangersMoves nester slot w (e ∷ es) =
    IsReady w e.mover e.pick e.ask × HasNoWindow w nester slot × IsStrangersMove w nester slot e × AreStrangersMoves nester slot (after w e) es

-- after strangers' moves alone the subtree is plain, and its cut is what it was
abbrev pub StrangersRunsLeaveTheCut : Type 0
StrangersRunsLeaveTheCut = (w : World) (nester : Path) (slot : ℕ) (es : List Event) → IsRunnable w → w.next + length es ≤ depth → AreProper w es →
    IsPlain w nester slot → AreStrangersMoves nester slot w es → IsPlain (run w es) nester slot × (cut (run w es) nester slot ≡ cut w nester slot)

-- moves one after the other, each ready: of threads inside, with which the subtree sees its own moves or nothing; and of others, each of whom
-- is a stranger then, where no mapping outside leads to a region inside
pub data IsLeftToItself (nester : Path) (slot : ℕ) : World → List Event → List Onward → Type 0 where
  Ends : (w : World) → IsLeftToItself nester slot w [] []
  Moves : (w : World) (e : Event) (es : List Event) (x : Path) (pick : Option Path) (taken : ℕ) (ms : List Onward) →
      is_within (slot ∷ nester) e.mover ≡ true → IsReady w e.mover e.pick e.ask → IsSeen w nester slot e (Onwards (Own x pick taken)) →
      IsLeftToItself nester slot (after w e) es ms → IsLeftToItself nester slot w (e ∷ es) (Own x pick taken ∷ ms)
  Tries : (w : World) (e : Event) (es : List Event) (ms : List Onward) → is_within (slot ∷ nester) e.mover ≡ true → IsReady w e.mover e.pick e.ask →
      IsSeen w nester slot e Unseen → IsLeftToItself nester slot (after w e) es ms → IsLeftToItself nester slot w (e ∷ es) ms
  Strangers : (w : World) (e : Event) (es : List Event) (ms : List Onward) → IsReady w e.mover e.pick e.ask → HasNoWindow w nester slot →
      IsStrangersMove w nester slot e → IsLeftToItself nester slot (after w e) es ms → IsLeftToItself nester slot w (e ∷ es) ms

-- the subtree's own moves alone, as if the strangers had made none, are a further run of its cut, and end in the cut that it then has
abbrev pub StrangersLeaveASubtreeToItself : Type 0
StrangersLeaveASubtreeToItself = (w : World) (nester : Path) (slot : ℕ) (es : List Event) (ms : List Onward) → IsRunnable w →
    w.next + length es ≤ depth → AreProper w es → IsPlain w nester slot → IsLeftToItself nester slot w es ms →
    IsPlain (run w es) nester slot × ((told : List Told) × IsFurther (cut w nester slot) ms told (cut (run w es) nester slot))
