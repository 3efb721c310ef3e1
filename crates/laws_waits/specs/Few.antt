-- Few: whom one change of a thread, or of another object, can concern, and by which look-ups they are found.
use Rattle.std.specs.Prelude.{◌≡◌, ◌≤◌, Bool, true, false, ◌∷◌, Some}
use Rattle.fk_model.specs.Places.{Path, same_path, parent}
use Rattle.fk_model.specs.Objects.{Talk, Fault, Thread, holds}
use Rattle.fk_model.specs.World.{World, Edit, apply, serves}
use Rattle.fk_model.specs.World.Change.{Alter}
use Rattle.fk_model.specs.Searches.{thread_at, talk_at, fault_at, client_of, depth}
use Rattle.fk_model.specs.Valid.{IsValid}
use Rattle.laws_waits.specs.Touching.{IsThreadEdit}
use Rattle.laws_waits.specs.Stuck.{comes_to, is_served_by, Reason, IsStuck, IsUntouched}
use Rattle.laws_waits.specs.Stuck.Reason.{Waiting, WaitingOut, Barred}

-- x has to do with the thread at y: as the peer of its talk, or the taker of its fault; or y is the peer of x's talk
abbrev pub is_peer_of : World → Path → Path → Bool
is_peer_of w x y = holds (λ (talk : Talk). serves x talk.peer) (talk_at w y)

abbrev pub is_taker_of : World → Path → Path → Bool
is_taker_of w x y = holds (λ (fault : Fault). holds (serves x) fault.taker) (fault_at w y)

pub record IsNobodyTo (w : World) (x y : Path) : Type 0 where
  pub other : same_path x y ≡ false
  pub peer : is_peer_of w x y ≡ false
  pub taker : is_taker_of w x y ≡ false
  pub client : is_peer_of w y x ≡ false

-- after an edit of the thread at y it doesn't come to the set, and x doesn't serve it
pub record DoesntCome (w : World) (x y z : Path) (e : Edit) : Type 0 where
  pub comes : comes_to (apply (Alter y e) w) z y ≡ false
  pub served : holds (is_served_by x) (thread_at (apply (Alter y e) w) y) ≡ false

abbrev pub IsSpared : World → Path → Path → Edit → Reason → Type 0
IsSpared w x y e (Waiting set) = DoesntCome w x y (set ∷ parent x) e
IsSpared w x y e (WaitingOut set) = DoesntCome w x y (set ∷ parent x) e
IsSpared w x y e Barred = ⊥
IsSpared w x y e other = Unit {0}

-- an edit of a thread touches itself, these three, and the waits to which it comes
abbrev pub ThreadEditsTouchFew : Type 0
ThreadEditsTouchFew = (w : World) (y : Path) (t : Thread) (e : Edit) (x : Path) (r : Reason) → thread_at w y ≡ Some t →
    IsThreadEdit e → IsStuck w x r → IsNobodyTo w x y → IsSpared w x y e r → IsUntouched w (Alter y e) x r

-- each of the three is found by a look-up from y. The third is the one client that y serves
abbrev pub ClientsAreFound : Type 0
ClientsAreFound = (w : World) (x y : Path) → IsValid w → w.next ≤ depth → is_peer_of w y x ≡ true → client_of w y ≡ Some x
