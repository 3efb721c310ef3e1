-- Holds: which threads are free, and what is frozen for whom.
--
-- A space is frozen where it or a space above it is held. The holder of the outermost hold on the path decides there.
use Rattle.std.specs.Prelude.{Bool, true, false, not, ◌&&◌, ◌==◌, is_some, is_none, [], ◌∷◌, Option}
use Rattle.fk_model.specs.Places.{Path, Ptr, leads_to}
use Rattle.fk_model.specs.Places.Ptr.{At}
use Rattle.fk_model.specs.Objects.{Mode, Thread, Body, space_of, and_then, or_else, holds}
use Rattle.fk_model.specs.Objects.Mode.{Running, Calling, Halted, Native}
use Rattle.fk_model.specs.World.{World}

-- who holds a space, if what is there is a space that is held
abbrev pub holder_of : Option Body → Option Ptr
holder_of b = and_then (λ holder. holder) (and_then space_of b)

-- the holder of the outermost hold among x and the spaces above it
unfoldable pub decider : World → Path → Option Ptr
decider w [] = holder_of (w.body [])
decider w (k ∷ x) = or_else (decider w x) (holder_of (w.body (k ∷ x)))

-- the object, which may be a space, lies beneath a hold or is held
abbrev pub is_frozen : World → Path → Bool
is_frozen w x = is_some (decider w x)

-- and somebody else decides over it
abbrev pub is_frozen_for : World → Path → Path → Bool
is_frozen_for w me x = holds (λ holder. not (leads_to me holder)) (decider w x)

-- frozen, and this thread decides over it
abbrev pub is_decided_by : World → Path → Path → Bool
is_decided_by w me x = holds (leads_to me) (decider w x)

-- a pointer leads to what is frozen for a mover
abbrev pub leads_to_frozen : World → Path → Ptr → Bool
leads_to_frozen w me (At x) = is_frozen_for w me x
leads_to_frozen w me other = false

-- a user's thread that may go on: it runs or calls, hasn't halted, and is no porter
abbrev pub is_user : Mode → Bool
is_user (Running g) = true
is_user (Calling todo rest) = true
is_user (Halted g code) = false
is_user (Native g) = false

abbrev pub is_porter : Mode → Bool
is_porter (Native g) = true
is_porter other = false

-- a user thread in a space is free: nothing above it is held, it is not stopped, has no fault, and runs or calls
abbrev pub is_free : World → Path → Thread → Bool
is_free w space t = not (is_frozen w space) && t.stops == 0 && is_none t.fault && is_user t.mode

-- a porter in a space is free, as is the native server of a port there
abbrev pub is_unheld : World → Path → Bool
is_unheld w space = not (is_frozen w space)
