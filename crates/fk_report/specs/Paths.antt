-- Paths, as a report has them.
use Rattle.std.specs.Prelude.{ℕ, List, ◌++◌, reverse, codes, decimal}
use Rattle.std.specs.List.{flat_map}

-- a slash before each slot, from the root inwards
abbrev pub down_text : List ℕ → List ℕ
down_text path = flat_map (λ slot. codes "/" ++ decimal slot) path

-- the same of a path in which the root's slot stands last
abbrev pub path_text : List ℕ → List ℕ
path_text path = down_text (reverse path)
