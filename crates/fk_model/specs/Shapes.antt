-- Shapes: what holds of the parts of an object in every world that stays within the limits.
use Rattle.std.specs.Prelude.{◌≡◌, ℕ, ◌+◌, ◌≤◌, ◌<◌, Bool, false, ◌∷◌, length, Option, Some, None, ⊤}
use Rattle.fk_model.specs.declared.limits.TheConstants.{PAGES, SLOTS, MOST_STOPS}
use Rattle.fk_model.specs.Places.{Path}
use Rattle.fk_model.specs.Calls.{IsTodo, IsRest}
use Rattle.fk_model.specs.Objects.{Mode, Body}
use Rattle.fk_model.specs.Objects.Mode.{Running, Calling, Halted, Native}
use Rattle.fk_model.specs.Objects.Body.{Mapping, Region, Port, Portset, Thread_of}
use Rattle.fk_model.specs.World.{World}

-- ---- shapes, which need no world

-- a calling thread has the stages of a call before it and the rest beside them; any other has 16 registers
abbrev pub IsShapedMode : Mode → Type 0
IsShapedMode (Running g) = length g ≡ 16
IsShapedMode (Calling todo rest) = IsTodo todo × IsRest todo rest
IsShapedMode (Halted g code) = length g ≡ 16
IsShapedMode (Native g) = length g ≡ 16

-- a thread's mode is well shaped; of the other kinds nothing is asked
abbrev pub IsShaped : Body → Type 0
IsShaped (Thread_of t) = IsShapedMode t.mode
IsShaped other = ⊤

-- ---- ranges

-- one page or more, and none past the last page of a space
abbrev pub IsPageRange : ℕ → ℕ → Type 0
IsPageRange first count = (1 ≤ count) × (first + count ≤ PAGES)

-- the code of a halted thread is a byte
abbrev pub IsCodeInRange : Mode → Type 0
IsCodeInRange (Halted g code) = code ≤ 255
IsCodeInRange other = ⊤

-- a port is in no set, or no native server serves it and its set is a portset of the same space
abbrev pub IsMember : World → Path → Bool → Option ℕ → Type 0
IsMember w space served None = ⊤
IsMember w space served (Some set) = (served ≡ false) × (set < SLOTS) × (w.body (set ∷ space) ≡ Some Portset)

-- the numbers of an object in this space are within their limits, and a port's set is there
abbrev pub IsInRange : World → Path → Body → Type 0
IsInRange w space (Mapping m) = IsPageRange m.first m.count × (m.offset < PAGES)
IsInRange w space (Region r) = IsPageRange r.first r.count
IsInRange w space (Port set served) = IsMember w space served set
IsInRange w space (Thread_of t) = (t.stops ≤ MOST_STOPS) × IsCodeInRange t.mode
IsInRange w space other = ⊤
