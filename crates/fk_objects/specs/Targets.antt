-- Targets: what pointers are counted to.
use Rattle.std.specs.Prelude.{ℕ, Option, Some, None}
use Rattle.fk_model.specs.declared.names.Who.{Who}
use Rattle.fk_model.specs.Places.{Path}
use Rattle.fk_store.specs.Store.Paths.{place}

-- an object, or else the space in which it would stand
abbrev pub target_by : (ℕ → Path) → ℕ → Option Who → Path
target_by p space None = p space
target_by p space (Some who) = place p who
