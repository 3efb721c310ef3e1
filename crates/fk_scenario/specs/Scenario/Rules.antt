-- The rules that native servers have here.
use Rattle.std.specs.Prelude.{ℕ, List, [], ◌∷◌, codes}
use Rattle.fk_model.specs.declared.moves.Rule.{Rule}
use Rattle.fk_model.specs.declared.moves.Rule.TheVariants.{Echo, Feed, Sum}

-- by name
abbrev pub server_rules : List (List ℕ × Rule)
server_rules = (codes "echo", Echo) ∷ (codes "feed", Feed) ∷ (codes "sum", Sum) ∷ []
