-- The rules of a table of responders.
use Rattle.std.specs.Prelude.{ℕ, List, map, string_bytes}
use Rattle.fk_model.specs.declared.moves.Rule.{Rule}
use Rattle.fk_responders.specs.declared.table.Table.{Table}

-- names and rules for native servers, as scenarios have them
abbrev pub Rules : Type 0
Rules = List (List ℕ × Rule)

-- those of a table's responders, in order; the type of a table has those of its closures
abbrev pub rules_of : {A B : Type 0} {Answers : A → Type 0} {Sees : B → Type 0} {answers : _} {sees : _} → Table A B Answers Sees answers sees → Rules
rules_of table = map (λ r. (string_bytes r.name, r.rule)) table.list.items
