-- The restore of a subtree in a slot of a nester, as a machine: its first call makes the space, held; then it gives its script's
-- orders; and it releases. Where a slot of the nester holds no port it drops its scratch and destroys the new space again, object
-- by object. It knows from its image how many these are, since all of them are made before it looks for a port.
use Rattle.std.specs.Prelude.{ℕ, zero, suc, ◌+◌, Bool, true, false, ◌&&◌, ◌==◌, List, [], ◌∷◌, length, Option, Some, None, if◌then◌else◌}
use Rattle.std.specs.List.{list_any}
use Rattle.fk_model.specs.declared.limits.TheConstants.{OWN_SPACE}
use Rattle.fk_model.specs.declared.stage.Stage.TheVariants.{Destroy, SpaceMakeHeld, SpaceRelease}
use Rattle.fk_model.specs.declared.statuses.status.TheConstants.{OK}
use Rattle.fk_model.specs.Places.{Path}
use Rattle.laws_jobs.specs.Machines.{no_words, Head, Machine}
use Rattle.laws_jobs.specs.Machines.Head.{Stops, Asks}
use Rattle.laws_restore.specs.Sites.Orders.{Order, stage_of, words_of, passes}
use Rattle.laws_restore.specs.Sites.Orders.Order.{Pins, Checks, Drops}
use Rattle.laws_restore.specs.Restore.Rooms.{Room}
use Rattle.laws_restore.specs.Restore.Script.{P, T, U, D, leads_out, has, script}

-- how it ends: the subtree stands; its slot was taken; or the nester has no port for this slot of the image
pub data End : Type 0 where
  Done : End
  Occupied : End
  NoPort : (port : ℕ) → End

pub data State : Type 0 where
  Makes : State
  -- these orders are left, and then the release
  Works : (orders : List Order) → State
  -- these are left, and then so many more than one stages of destroying
  Clears : (orders : List Order) (more port : ℕ) → State
  Over : (end : End) → State

-- ---- a port that is missing

-- the slot of the nester in which an order looks for a port. Any other order is answered OK
abbrev pub looked_at : Order → Option ℕ
looked_at (Pins i) = Some i
looked_at (Checks r i) = Some i
looked_at other = None

-- of so many slots of the image, from one on, the first that something leads out to and that is bound there
abbrev pub lowest_bound : (ℕ → ℕ) → List Room → ℕ → ℕ → ℕ → ℕ
lowest_bound bind rooms j zero i = i
lowest_bound bind rooms j (suc n) i = if bind i == j && list_any (has (leads_out i)) rooms then i else lowest_bound bind rooms j n (suc i)

-- what stands beneath the new space: the spaces there, and what stands in each and in the new one
abbrev pub beneath : Path → ℕ
beneath [] = zero
beneath (k ∷ q) = suc zero

-- how many objects have to be destroyed again
abbrev pub objects : List Room → ℕ
objects [] = zero
objects (r ∷ rs) = (beneath r.path + length r.items) + objects rs

abbrev pub drops : List Order
drops = Drops P ∷ Drops T ∷ Drops U ∷ Drops D ∷ []

-- the scratch goes, then these, the pin and the space itself
abbrev pub refused : (ℕ → ℕ) → List Room → List Order → Option ℕ → State
refused bind rooms os None = Works os
refused bind rooms os (Some j) = Clears drops (suc (objects rooms)) (lowest_bound bind rooms j 240 0)

-- ---- the machine

-- what it asks for, or with what it ends
abbrev pub head : ℕ → State → Head End
head slot Makes = Asks (SpaceMakeHeld slot) no_words
head slot (Works []) = Asks (SpaceRelease OWN_SPACE slot) no_words
head slot (Works (o ∷ os)) = Asks (stage_of slot o) (words_of o)
head slot (Clears [] more port) = Asks (Destroy OWN_SPACE slot) no_words
head slot (Clears (o ∷ os) more port) = Asks (stage_of slot o) (words_of o)
head slot (Over end) = Stops end

abbrev pub next : ℕ → (ℕ → ℕ) → List Room → State → ℕ → List ℕ → State
next slot bind rooms Makes status words = if status == OK then Works (script slot bind rooms) else Over Occupied
next slot bind rooms (Works []) status words = Over Done
next slot bind rooms (Works (o ∷ os)) status words = if passes o status words then Works os else refused bind rooms os (looked_at o)
next slot bind rooms (Clears [] zero port) status words = Over (NoPort port)
next slot bind rooms (Clears [] (suc more) port) status words = Clears [] more port
next slot bind rooms (Clears (o ∷ os) more port) status words = Clears os more port
next slot bind rooms (Over end) status words = Over end

abbrev pub restore : ℕ → (ℕ → ℕ) → List Room → Machine State End
restore slot bind rooms = record { head = head slot; next = next slot bind rooms }

abbrev pub is_done : End → Bool
is_done Done = true
is_done other = false
