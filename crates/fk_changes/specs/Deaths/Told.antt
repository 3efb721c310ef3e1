-- Told: which native server is told of a death.
use Rattle.std.specs.Prelude.{Option, Some, None}
use Rattle.fk_model.specs.Outcomes.{Said}
use Rattle.fk_model.specs.Outcomes.Said.{Nothing, Ended}
use Rattle.fk_model.specs.Places.{Path}
use Rattle.fk_model.specs.Places.Ptr.{At}

-- the native server of this port, if there is one, that its talk has ended
abbrev pub told_at : Option Path → Said
told_at None = Nothing
told_at (Some port) = Ended (At port)
