-- A world that is nobody's cut stays so, whoever moves.
use Rattle.fk_model.specs.World.{World}
use Rattle.fk_model.specs.Runs.{Event, after}
use Rattle.fk_model.specs.Sound.{IsUncut}

-- no row makes a pointer that stands in cuts alone, whatever is asked
abbrev pub MovesKeepUncut : Type 0
MovesKeepUncut = (w : World) (e : Event) → IsUncut w → IsUncut (after w e)
