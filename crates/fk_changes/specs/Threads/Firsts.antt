-- Firsts: the stage at which a thread is.
use Rattle.std.specs.Prelude.{◌≡◌, List, [], ◌∷◌, ⊤}
use Rattle.fk_model.specs.declared.stage.Stage.{Stage}

-- it is the first of these stages, where there are any
abbrev pub IsFirst : Stage → List Stage → Type 0
IsFirst stage [] = ⊤
IsFirst stage (first ∷ later) = first ≡ stage
