-- Firsts: a stage is the first of its caller's call, or the caller is in none.
use Rattle.std.proofs.Common.{◌≡◌, List, [], ◌∷◌, refl}
use Rattle.fk_model.specs.declared.stage.Stage.{Stage}
use Rattle.fk_calls.specs.Calls.Rows.{IsFirst}

pub first_todo : (stage : Stage) (later todo : List Stage) → todo ≡ stage ∷ later → IsFirst stage todo
first_todo stage later todo is = rw is refl

pub first_idle : (stage : Stage) (todo : List Stage) → todo ≡ [] → IsFirst stage todo
first_idle stage todo is = rw is tt
