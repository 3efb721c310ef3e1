-- Held: spaces that are told of, or all.
use Rattle.std.specs.Prelude.{◌≡◌, ◌⊎◌, ℕ, Bool, true, List}
use Rattle.fk_model.proofs.walks.Members.{IsIn}

-- a birth number is among the held, or these aren't counted any more
abbrev pub IsTold : List ℕ × Bool → ℕ → Type 0
IsTold held n = (held.1 ≡ true) ⊎ IsIn n held.0
