-- The rules that native servers may have.
use Rattle.std.specs.Prelude.{ℕ, List, map, String, string_bytes}
use Rattle.std.specs.declared.alloc.Global.{Global}
use Rattle.fk_model.specs.declared.moves.Rule.{Rule}

-- names and rules, in order
abbrev pub rules_view : List (String Global × Rule) → List (List ℕ × Rule)
rules_view rules = map (λ r. (string_bytes r.0, r.1)) rules
