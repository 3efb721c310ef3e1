-- What is read is added to the objects before it.
use Rattle.std.specs.Prelude.{ℕ, List, [], ◌∷◌, ◌++◌, Result, Ok}
use Rattle.fk_image.specs.declared.image.image.Rec.{Rec}
use Rattle.fk_image.specs.declared.image.image.ObjectRec.{ObjectRec}
use Rattle.fk_image.specs.declared.format.stop.Stop.{Stop}
use Rattle.fk_image.specs.Format.Fields.{◌>>=◌}

-- the objects and one more, and the bytes behind it
abbrev pub with_object : List ObjectRec → Result (ObjectRec × List ℕ) Stop → Result (List ObjectRec × List ℕ) Stop
with_object objects read = read >>= λ x. Ok (objects ++ x.0 ∷ [], x.1)

-- the same, of which the slot is known
abbrev pub with_body : List ObjectRec → ℕ → Result (Rec × List ℕ) Stop → Result (List ObjectRec × List ℕ) Stop
with_body objects slot read = read >>= λ x. Ok (objects ++ record { slot = slot; body = x.0 } ∷ [], x.1)
