-- What a stack gives.
use Rattle.std.specs.Prelude.{◌≡◌, List, [], ◌∷◌, Option, Some, None}

-- the next item is taken away, if there is one
abbrev pub Pops : {A : Type 0} → Option A → List A → List A → Type 0
Pops None old new = (old ≡ []) × (new ≡ [])
Pops (Some x) old new = old ≡ x ∷ new
