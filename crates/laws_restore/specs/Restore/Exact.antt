-- When a restore's next call is ready, and where exactly it is told of no port.
use Rattle.std.specs.Prelude.{◌≡◌, ℕ, ◌≤◌, true, false, ◌⊎◌, List, ◌∷◌}
use Rattle.std.specs.List.{list_any}
use Rattle.fk_model.specs.declared.limits.TheConstants.{LAST_USER_SLOT}
use Rattle.fk_model.specs.declared.stage.Stage.{Stage}
use Rattle.fk_model.specs.Places.{Path}
use Rattle.fk_model.specs.World.{World}
use Rattle.fk_model.specs.Runs.{Event}
use Rattle.fk_model.specs.Cut.{is_port}
use Rattle.laws_jobs.specs.Machines.{call_of, IsReadyAt, Interleaved, AtWork}
use Rattle.laws_jobs.specs.Machines.Head.{Stops, Asks}
use Rattle.laws_jobs.specs.Machines.Interleaved.{Here, Another, Own}
use Rattle.laws_jobs.specs.Jobs.{MayBegin}
use Rattle.laws_jobs.specs.Calls.{IsUnheldOutside}
use Rattle.laws_restore.specs.Sites.Orders.{stage_of}
use Rattle.laws_restore.specs.Sites.Orders.Order.{Pins}
use Rattle.laws_restore.specs.Restore.Rooms.{Room}
use Rattle.laws_restore.specs.Restore.Script.{has, leads_out}
use Rattle.laws_restore.specs.Restore.Roomed.{IsRoomed}
use Rattle.laws_restore.specs.Restore.Restore.{End, State, restore}
use Rattle.laws_restore.specs.Restore.Restore.End.{NoPort}
use Rattle.laws_restore.specs.Restore.Restore.State.{Makes}

-- its next call is ready wherever nothing outside the new space is held
abbrev pub RestoreIsReady : Type 0
RestoreIsReady = (slot birth : ℕ) (bind : ℕ → ℕ) (c : World) (rooms : List Room) (w v : World) (nester : Path) (t : State) (stage : Stage) (words : List ℕ)
    → slot ≤ LAST_USER_SLOT → IsRoomed bind c rooms → MayBegin w nester birth →
    AtWork (restore slot bind rooms) nester w Makes v t → (restore slot bind rooms).head t ≡ Asks stage words → IsUnheldOutside (slot ∷ nester) v
    → IsReadyAt v (call_of nester stage words)

-- ---- a missing port

-- of the slots that something leads out to and that are bound to one slot of the nester the lowest
pub record IsLowest (bind : ℕ → ℕ) (rooms : List Room) (port : ℕ) : Type 0 where
  pub low : port ≤ LAST_USER_SLOT
  pub leads : list_any (has (leads_out port)) rooms ≡ true
  pub least : (i : ℕ) → list_any (has (leads_out i)) rooms ≡ true → bind i ≡ bind port → port ≤ i

-- the pin is led to slot j of the nester, and no port stands there
abbrev pub IsMiss : Path → ℕ → ℕ → World → Stage → Type 0
IsMiss nester slot j w stage = (stage ≡ stage_of slot (Pins j)) × (is_port (w.body (j ∷ nester)) ≡ false)

-- somewhere in a run it is
abbrev pub Misses : (slot : ℕ) (bind : ℕ → ℕ) (rooms : List Room) (j : ℕ) {nester : Path} {w : World} {s : State} {es : List Event} {v : World} {t : State}
    → Interleaved (restore slot bind rooms) nester w s es v t → Type 0
Misses slot bind rooms j (Here w s sound) = ⊥
Misses slot bind rooms j (Another w s e es v t sound works move rest) = Misses slot bind rooms j rest
Misses slot bind rooms j {nester} (Own w s stage words es v t sound asked ready rest) = IsMiss nester slot j w stage ⊎ Misses slot bind rooms j rest

-- and the first time that it is led there
abbrev pub MissesFirst : (slot : ℕ) (bind : ℕ → ℕ) (rooms : List Room) (j : ℕ) {nester : Path} {w : World} {s : State} {es : List Event} {v : World} {t : State}
    → Interleaved (restore slot bind rooms) nester w s es v t → Type 0
MissesFirst slot bind rooms j (Here w s sound) = ⊥
MissesFirst slot bind rooms j (Another w s e es v t sound works move rest) = MissesFirst slot bind rooms j rest
MissesFirst slot bind rooms j {nester} (Own w s stage words es v t sound asked ready rest) =
    IsMiss nester slot j w stage ⊎ ((stage ≡ stage_of slot (Pins j) → ⊥) × MissesFirst slot bind rooms j rest)

-- a restore ends so exactly where it leads to a slot in which no port stands, which it does when it first leads there; and it tells
-- the lowest slot of the image bound there
pub record EndsByMiss (slot : ℕ) (bind : ℕ → ℕ) (rooms : List Room) {nester : Path} {w : World} {s : State} {es : List Event} {v : World} {t : State}
    (run : Interleaved (restore slot bind rooms) nester w s es v t) (end : End) : Type 0 where
  pub missed : (port : ℕ) → end ≡ NoPort port → IsLowest bind rooms port × MissesFirst slot bind rooms (bind port) run
  pub told : (j : ℕ) → Misses slot bind rooms j run → (port : ℕ) × (end ≡ NoPort port) × IsLowest bind rooms port × (bind port ≡ j)

-- a restore ends for want of a port exactly where it leads to a slot of the nester in which none stands, and tells the lowest slot of the image that is bound
-- there
abbrev pub NoPortIsExact : Type 0
NoPortIsExact = (slot birth : ℕ) (bind : ℕ → ℕ) (c : World) (rooms : List Room) (w v : World) (nester : Path) (t : State) (end : End) → slot ≤ LAST_USER_SLOT
    → IsRoomed bind c rooms → MayBegin w nester birth →
    (work : AtWork (restore slot bind rooms) nester w Makes v t) → (restore slot bind rooms).head t ≡ Stops end → EndsByMiss slot bind rooms work.run end
