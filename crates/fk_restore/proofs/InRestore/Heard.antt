-- What the machine makes of an answer is what the code makes of it.
use Rattle.std.proofs.Common.{◌≡◌, ◌+◌, ℕ, zero, suc, ◌<◌, ◌≤◌, Bool, true, false, cond, ◌==◌, ◌&&◌, List, [], ◌∷◌, drop, Option, Some, None, refl, arith}
use Rattle.fk_model.specs.declared.statuses.status.TheConstants.{OK}
use Rattle.fk_image.specs.declared.image.image.SpaceRec.{SpaceRec}
use Rattle.laws_restore.specs.Sites.Orders.{Order, is_port_in, passes}
use Rattle.laws_restore.specs.Sites.Orders.Order.{Readies, Leads, LeadsTop, Makes, Sets, Points, Gives, MakesPin, Pins, Takes, Checks, ParksTalk, ParksFault}
use Rattle.laws_restore.specs.Sites.Orders.Order.{LinksTalk, RaisesFault, LinksFault, Holds, Drops, DropsPin, Deadens}
use Rattle.laws_restore.specs.Restore.Restore.{State, State as states, drops, next, refused, looked_at}
use Rattle.laws_restore.specs.Rooms.Restoring.{bound_by}
use Rattle.laws_restore.specs.Rooms.Rooms.{rooms_from}
use Rattle.fk_restore.specs.Orders.Looks.{look_of}
use Rattle.fk_restore.specs.Restore.Restores.{missing, goes_on}

module _ (slot : ℕ) (ss : List SpaceRec) (pairs : List (ℕ × ℕ)) (os : List Order) (status : ℕ) (words : List ℕ) where
  abbrev After : Order → State
  After o = next slot (bound_by pairs) (rooms_from ss 0 ss) (states.Works (o ∷ os)) status words

  abbrev Code : Order → State
  Code o = goes_on ss pairs os (missing (look_of o) status words)

  same : (t : Bool) → cond t (states.Works os) (states.Works os) ≡ states.Works os
  same true = refl
  same false = refl

  looked : (i : ℕ) (t : Bool) → cond t (states.Works os) (refused (bound_by pairs) (rooms_from ss 0 ss) os (Some i))
      ≡ goes_on ss pairs os (cond t None (Some i))
  looked i true = refl
  looked i false = refl

  pub heard : (o : Order) → After o ≡ Code o
  heard (Readies r) = same (status == OK)
  heard (Leads r s q x) = same (status == OK)
  heard (LeadsTop r) = same (status == OK)
  heard (Makes s q x kind) = same (status == OK)
  heard (Sets s q x ws) = same (status == OK)
  heard (Points s q x r) = same (status == OK)
  heard (Gives s q page ws) = same (status == OK)
  heard MakesPin = same (status == OK)
  heard (Pins i) = looked i (status == OK)
  heard (Takes r) = same (status == OK)
  heard (Checks r i) = looked i (status == OK && is_port_in i words)
  heard (ParksTalk s q x i ws) = same (status == OK)
  heard (ParksFault s q x i taken ws) = same (status == OK)
  heard (LinksTalk s q x r u port server ws) = same (status == OK)
  heard (RaisesFault s q x r port ws) = same (status == OK)
  heard (LinksFault s q x r u port taker ws) = same (status == OK)
  heard (Holds s q x r holder) = same (status == OK)
  heard (Drops r) = same (status == OK)
  heard DropsPin = same (status == OK)
  heard (Deadens r) = same (status == OK)
