-- Wakes: whom any change can concern, sorted by how they are found.
--
-- By name: the objects that it changes. By a look-up: who has to do with a thread that it stirs. By the queue at an object:
-- who locks, sleeps, waits, connects or holds there. By the space that is held. Where it changes memory, those that reach
-- far. And the waits to which somebody comes by it.
use Rattle.std.specs.Prelude.{◌≡◌, true, false}
use Rattle.std.specs.Prelude.{◌∷◌}
use Rattle.fk_model.specs.Places.{Path, parent, is_within}
use Rattle.fk_model.specs.World.{World, Change}
use Rattle.laws_moves.specs.Machine.Frame.{names_body}
use Rattle.laws_waits.specs.Few.{is_peer_of, is_taker_of}
use Rattle.laws_waits.specs.Stuck.{is_held, End, LeavesPage, LeavesPlace, BringsNobody, Reason, IsStuck, IsUntouched, LeavesHandle}
use Rattle.laws_waits.specs.Stuck.End.{Absent, Covered, Unclaimed, Closed, Unnamed}
use Rattle.laws_waits.specs.Stuck.Reason.{Resting, Beneath, Locking, Sleeping, Connecting, Receiving, Passing, Sending, Lacking, Ending, Holding, Waiting}
use Rattle.laws_waits.specs.Stuck.Reason.{WaitingOut, Barred}
use Rattle.laws_waits.specs.Touching.{remakes, stirs, repoints, reholds, LeavesMemory}

-- x is neither the peer of the talk of y, nor the taker of its fault, nor is y the peer of x's talk
pub record IsStranger (w : World) (x y : Path) : Type 0 where
  pub peer : is_peer_of w x y ≡ false
  pub taker : is_taker_of w x y ≡ false
  pub client : is_peer_of w y x ≡ false

-- the space above the other end isn't changed
abbrev pub LeavesCover : World → Change → End → Type 0
LeavesCover w c (Absent y) = Unit {0}
LeavesCover w c (Unnamed y k) = remakes c (k ∷ parent y) ≡ false
LeavesCover w c (Covered y space) = names_body w c space ≡ false
LeavesCover w c Unclaimed = Unit {0}
LeavesCover w c (Closed port space) = names_body w c space ≡ false

-- besides threads, what the reason reads isn't changed
abbrev pub LeavesRest : World → Change → Path → Reason → Type 0
LeavesRest w c x Resting = Unit {0}
LeavesRest w c x (Beneath space) = names_body w c space ≡ false
LeavesRest w c x (Locking m) = names_body w c (m ∷ parent x) ≡ false
LeavesRest w c x (Sleeping cond m) = (remakes c (cond ∷ parent x) ≡ false) × (remakes c (m ∷ parent x) ≡ false)
LeavesRest w c x (Connecting h port) = (repoints w c (h ∷ parent x) ≡ false) × (remakes c port ≡ false)
LeavesRest w c x (Receiving side into room reference far client) = LeavesPage w c (parent x) into far × LeavesHandle c (parent x) reference
LeavesRest w c x (Passing side reference client end) = LeavesCover w c end × LeavesHandle c (parent x) reference
LeavesRest w c x (Sending side address count far client end) = LeavesCover w c end × LeavesPage w c (parent x) address far
LeavesRest w c x (Lacking side address count far client y into room) =
    (names_body w c y ≡ false) × LeavesPage w c (parent x) address far × LeavesMemory w c
LeavesRest w c x (Ending y space) = names_body w c space ≡ false
LeavesRest w c x (Holding s j space) =
    LeavesPlace w c x s space × (names_body w c (j ∷ space) ≡ false) × ((q : Path) → is_within q space ≡ true → reholds w c q ≡ false)
LeavesRest w c x (Waiting set) = (names_body w c (set ∷ parent x) ≡ false) × BringsNobody w c x (set ∷ parent x)
LeavesRest w c x (WaitingOut set) =
    (names_body w c (set ∷ parent x) ≡ false) × BringsNobody w c x (set ∷ parent x)
    × ((space : Path) → is_held w space ≡ true → names_body w c space ≡ false)
LeavesRest w c x Barred = ⊥

-- so it is with every change: whoever isn't found in one of these ways isn't touched
abbrev pub ChangesTouchFew : Type 0
ChangesTouchFew = (w : World) (c : Change) (x : Path) (r : Reason) → IsStuck w x r → names_body w c x ≡ false →
    ((y : Path) → stirs w c y ≡ true → IsStranger w x y) → LeavesRest w c x r → IsUntouched w c x r
