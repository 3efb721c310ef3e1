-- Connects: threads at the stage that waits for a server.
use Rattle.std.specs.Prelude.{ℕ, Bool, List, ◌∷◌, Option, Some, None, is_some}
use Rattle.fk_model.specs.declared.stage.Stage.{Stage}
use Rattle.fk_model.specs.declared.stage.Stage.TheVariants.{Connect}

-- the handle of the port to which a thread connects whose first stage does
abbrev pub connect_first : List Stage → Option ℕ
connect_first (Connect h ∷ later) = Some h
connect_first other = None

-- these stages begin with a connect
abbrev pub is_connecting : List Stage → Bool
is_connecting todo = is_some (connect_first todo)
