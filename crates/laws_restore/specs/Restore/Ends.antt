-- What a restore is for the run in which it works, and how it ends.
use Rattle.std.specs.Prelude.{◌≡◌, ℕ, ◌+◌, ◌≤◌, IsSome, List, ◌∷◌, ◌++◌, length, None}
use Rattle.fk_model.specs.declared.limits.TheConstants.{LAST_USER_SLOT}
use Rattle.fk_model.specs.declared.stage.Stage.{Stage}
use Rattle.fk_model.specs.Places.{Path}
use Rattle.fk_model.specs.World.{World}
use Rattle.fk_model.specs.Holds.{holder_of}
use Rattle.fk_model.specs.Rebind.{rebound}
use Rattle.fk_model.specs.Cut.{cut}
use Rattle.laws_jobs.specs.Machines.{AtWork, calls_made, IsOwedCall}
use Rattle.laws_jobs.specs.Machines.Head.{Stops, Asks}
use Rattle.laws_jobs.specs.Jobs.{MayBegin, MeetsContract, Restores}
use Rattle.laws_restore.specs.Restore.Rooms.{Room}
use Rattle.laws_restore.specs.Restore.Script.{script}
use Rattle.laws_restore.specs.Restore.Roomed.{IsRoomed}
use Rattle.laws_restore.specs.Restore.Restore.{End, State, objects, restore, is_done}
use Rattle.laws_restore.specs.Restore.Restore.End.{Done, Occupied, NoPort}
use Rattle.laws_restore.specs.Restore.Restore.State.{Makes}

-- its slot was empty and the subtree stands there, unheld, with its ports bound; the slot was taken, and nothing was done; or the
-- slot was empty, and nothing stands there again
abbrev pub EndsSo : World → World → Path → ℕ → (ℕ → ℕ) → World → End → Type 0
EndsSo w v nester slot bind c Done = (w.body (slot ∷ nester) ≡ None) × (cut v nester slot ≡ rebound bind c) × (holder_of (v.body (slot ∷ nester)) ≡ None)
EndsSo w v nester slot bind c Occupied = IsSome (w.body (slot ∷ nester)) × (v ≡ w)
EndsSo w v nester slot bind c (NoPort port) = (w.body (slot ∷ nester) ≡ None) × ((q : Path) → v.body (q ++ slot ∷ nester) ≡ None)

-- a restore ends so: its slot was empty and the subtree stands there unheld; or it was empty, a port was missing and nothing stands there again; or it was
-- taken and nothing was done
abbrev pub RestoreEndsSo : Type 0
RestoreEndsSo = (slot birth : ℕ) (bind : ℕ → ℕ) (c : World) (rooms : List Room) (w v : World) (nester : Path) (t : State) (end : End) → slot ≤ LAST_USER_SLOT
    → IsRoomed bind c rooms → MayBegin w nester birth →
    AtWork (restore slot bind rooms) nester w Makes v t → (restore slot bind rooms).head t ≡ Stops end → EndsSo w v nester slot bind c end

-- each of its calls is owed: fit, of a porter's words, and such as leaves a world that can be saved
abbrev pub RestoreIsOwed : Type 0
RestoreIsOwed = (slot birth : ℕ) (bind : ℕ → ℕ) (c : World) (rooms : List Room) (w : World) (nester : Path) → slot ≤ LAST_USER_SLOT → IsRoomed bind c rooms
    → MayBegin w nester birth →
    ((stage : Stage) (words : List ℕ) → (restore slot bind rooms).head Makes ≡ Asks stage words → IsOwedCall w nester stage words) ×
    ((v : World) (t : State) → AtWork (restore slot bind rooms) nester w Makes v t → (stage : Stage) (words : List ℕ)
    → (restore slot bind rooms).head t ≡ Asks stage words → IsOwedCall v nester stage words)

-- so it meets a job's contract: its calls are owed, its porter stays while it has one to make, and no scratch is left at its end
abbrev pub RestoreMeetsContract : Type 0
RestoreMeetsContract = (slot birth : ℕ) (bind : ℕ → ℕ) (c : World) (rooms : List Room) → slot ≤ LAST_USER_SLOT → IsRoomed bind c rooms
    → MeetsContract (restore slot bind rooms) birth Makes

-- what a run wants of a restore: done, it leaves a plain subtree, which is the picture with its ports bound
abbrev pub RestoreRestores : Type 0
RestoreRestores = (slot birth : ℕ) (bind : ℕ → ℕ) (c : World) (rooms : List Room) (w : World) (nester : Path) → slot ≤ LAST_USER_SLOT
    → IsRoomed bind c rooms → Restores (restore slot bind rooms) birth slot bind c is_done w nester Makes

-- it makes no more calls than its script has orders, and as many more as it takes to clear
abbrev pub RestoreIsCounted : Type 0
RestoreIsCounted = (slot : ℕ) (bind : ℕ → ℕ) (rooms : List Room) (w v : World) (nester : Path) (t : State)
    → (work : AtWork (restore slot bind rooms) nester w Makes v t) →
    calls_made work ≤ length (script slot bind rooms) + (objects rooms + 7)
