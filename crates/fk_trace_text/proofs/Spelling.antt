-- A trace that is read to its end, whatever the moves.
use Rattle.std.proofs.Common.{◌≡◌, ℕ, ◌+◌, ◌≤◌, List, [], ◌∷◌, ◌++◌, length, ap, sym, ◌∙◌, arith, length-append}
use Rattle.std.specs.Bool.{⊤}
use Rattle.fk_model.specs.declared.moves.Move.{Move}
use Rattle.fk_trace_text.specs.Trace.{move_text, ended_line, trace_text, AreLegal, BeginsWith}
use Rattle.fk_trace_text.proofs.Traces.{AreLegal-more, trace_text-more}

-- so many moves are spelled, and the rest follows
pub record IsSpelledUpTo (trace rest : List ℕ) (index : ℕ) : Type 0 where
  pub moves : List Move
  pub legal : AreLegal (λ _ _. ⊤) moves
  pub spelled : trace ≡ trace_text moves ++ rest
  pub count : index ≡ length moves
  pub within : index + length rest ≤ length trace

pub one_more : (trace rest after : List ℕ) (index : ℕ) (move : Move) → IsSpelledUpTo trace rest index → BeginsWith rest move after
    → IsSpelledUpTo trace after (index + 1)
one_more trace rest after index move is begins =
    let size = ap length begins.spelled in
    let one = length-append (ended_line (move_text move)) after in
    let two = length-append (move_text move) (10 ∷ []) in
    let room = is.within in
    let count = is.count in
    let longer = length-append is.moves (move ∷ []) in
    record {
      moves = is.moves ++ move ∷ [];
      legal = AreLegal-more (λ _ _. ⊤) is.moves move is.legal begins.range tt;
      spelled = is.spelled ∙ (ap (λ xs. trace_text is.moves ++ xs) begins.spelled ∙ sym (trace_text-more is.moves move after));
      count = omega (arith, count, longer);
      within = omega (arith, room, size, one, two);
    }
