-- Callers: a caller, and what a reader finds, by paths.
use Rattle.std.specs.Prelude.{ℕ, List, Result, Ok, Err}
use Rattle.fk_model.specs.Outcomes as outcomes
use Rattle.fk_model.specs.Places.{Path}
use Rattle.fk_changes.specs.declared.readers.caller.Caller.{Caller}

-- the caller by paths, where those of spaces are these; a porter gives these words
abbrev pub caller_by : (ℕ → Path) → Caller → List ℕ → outcomes.Caller
caller_by p c words = record { space = p c.who.space; slot = c.who.slot; is_porter = c.is_porter; words = words }

-- what a reader finds, by paths
abbrev pub mapped : {A B : Type 0} → (A → B) → Result A ℕ → Result B ℕ
mapped f (Ok a) = Ok (f a)
mapped f (Err status) = Err status
