-- Makes: what the making of an object is.
use Rattle.std.specs.Prelude.{◌≡◌, ℕ, ◌+◌, ◌-◌, ◌^◌, ◌<◌}
use Rattle.fk_model.specs.declared.body.Body as bodies_of
use Rattle.fk_model.specs.declared.body.Body.TheVariants as bodies
use Rattle.fk_model.specs.Places.{Path}
use Rattle.fk_model.specs.Objects.{Body}
use Rattle.fk_model.specs.Objects.Body.{Space}
use Rattle.fk_model.specs.World.{Change}
use Rattle.fk_model.specs.World.Change.{Make, MakeSpace}

-- a space takes the next birth number of the world
abbrev pub making : Path → Body → Change
making x (Space birth holder) = MakeSpace x holder
making x other = Make x other

-- a space has the next birth number, and there is one after it
abbrev pub IsNext : ℕ → bodies_of.Body → Type 0
IsNext next (bodies.Space birth holder) = (birth ≡ next) × (birth < 2 ^ 32 - 1)
IsNext next other = Unit {0}

-- the next birth number once the object is made
abbrev pub next_by : ℕ → bodies_of.Body → ℕ
next_by next (bodies.Space birth holder) = next + 1
next_by next other = next
