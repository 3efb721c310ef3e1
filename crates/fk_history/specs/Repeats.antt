-- What contracts see of a history: the list of its moves, of which those that are the same one after the other are kept as one, and its room.
use Rattle.std.specs.Prelude.{ℕ, List, [], ◌∷◌, ◌++◌, replicate, refl}
use Rattle.std.specs.Coded.{Coded, code_by, coded×, coded_list, coded_ℕ}
use Rattle.fk_model.specs.declared.moves.Move.{Move}
use Rattle.fk_model.specs.contracts.moves.Move as move
use Rattle.fk_history.specs.declared.repeats.Repeat.{Repeat}

-- the moves, and of how many there is room for
pub record Kept : Type 0 where
  pub moves : List Move
  pub room : ℕ

abbrev pub kept_code : Coded Kept
kept_code = code_by (List Move × ℕ) (coded× (coded_list move.the_row.coded) coded_ℕ)
    (λ k. (k.moves, k.room)) (λ p. record { moves = p.0; room = p.1 }) (λ _. refl)

-- the moves that such repeats are
abbrev pub moves_in : List Repeat → List Move
moves_in [] = []
moves_in (r ∷ rs) = replicate r.times r.m ++ moves_in rs
