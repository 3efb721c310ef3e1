-- Readings: what a reader finds that answers nothing more.
use Rattle.fk_model.specs.Objects.{Body}
use Rattle.fk_model.specs.Objects.Body.{Cond}

-- a condition
abbrev pub found : Unit {0} → Body
found here = Cond
