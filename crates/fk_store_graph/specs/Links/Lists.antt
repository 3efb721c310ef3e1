-- Lists in which no element stands twice.
use Rattle.std.specs.Prelude.{List, [], ◌∷◌}
use Rattle.fk_model.proofs.walks.Members.{IsIn}

abbrev pub Differ : {A : Type 0} → List A → Type 0
Differ [] = Unit {0}
Differ (x ∷ xs) = (IsIn x xs → ⊥) × Differ xs
