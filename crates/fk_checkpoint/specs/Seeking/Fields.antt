-- Fields that are left, as a list.
use Rattle.std.specs.Prelude.{ℕ, List, [], ◌∷◌}
use Rattle.fk_checkpoint.specs.declared.seeking.fields.Fields.{Fields}
use Rattle.fk_checkpoint.specs.declared.seeking.fields.Fields.TheVariants.{Nothing, Zero, Two, Three, ZeroTwo, TwoThree, OneToThree, ZeroToThree}

-- which they are
abbrev pub fields_in : Fields → List ℕ
fields_in Nothing = []
fields_in Zero = 0 ∷ []
fields_in Two = 2 ∷ []
fields_in Three = 3 ∷ []
fields_in ZeroTwo = 0 ∷ 2 ∷ []
fields_in TwoThree = 2 ∷ 3 ∷ []
fields_in OneToThree = 1 ∷ 2 ∷ 3 ∷ []
fields_in ZeroToThree = 0 ∷ 1 ∷ 2 ∷ 3 ∷ []
