-- The playing of a trace: which moves may follow which, and why one isn't played.
use Rattle.std.specs.Prelude.{◌≡◌, ◌<◌, ℕ, List, length, Result, Ok, Err}
use Rattle.fk_model.specs.declared.moves.Move.{Move}
use Rattle.laws_runs.specs.Cores.{IsRun}
use Rattle.fk_core.specs.Cores.Cores.{RunCore, house, IsReadyMove}
use Rattle.fk_trace_text.specs.Trace.{BeginsWith, IsFirstBad}
use Rattle.fk_workers.specs.declared.books.plays.PlayFail.{PlayFail}
use Rattle.fk_workers.specs.declared.books.plays.PlayFail.TheVariants.{Trace, NoMemory}
use Rattle.fk_workers.specs.Books.Shown.{Shown, MayLack}
use Rattle.fk_workers.specs.Books.Told.{Told}

-- a move may follow those that are done: the budget has one more, and the move is ready after them
abbrev pub MayPlay : Shown → List Move → Move → Type 0
MayPlay first done move = (length done < first.budget) × ((c : RunCore) × IsRun (house first.jobs) first.core done c × IsReadyMove first.jobs c move)

-- the text begins with the line of a move that may be made, and may lack memory
abbrev pub NextMayLack : Shown → List ℕ → Type 0
NextMayLack s text = (m : Move) × (after : List ℕ) × BeginsWith text m after × MayLack s m

-- why a trace isn't played: its first bad line, or want of memory, also for room for as many moves as the budget has
abbrev pub IsCause : (List Move → Move → Type 0) → List ℕ → PlayFail → Type 0
IsCause MayFollow text (Trace index) = IsFirstBad MayFollow text index
IsCause MayFollow text NoMemory = Unit {0}

-- what comes of the trace of these moves: their book, or there is no memory for it
abbrev pub GivesMoves : {C : Type 0} → List Move → Result (Told C) PlayFail → Type 0
GivesMoves moves (Ok book) = book.history ≡ moves
GivesMoves moves (Err NoMemory) = Unit {0}
GivesMoves moves (Err (Trace index)) = ⊥
