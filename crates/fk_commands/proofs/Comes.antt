-- What a command comes to, from what its parts come to.
use Rattle.std.proofs.Common.{ℕ, Bool, true, false, List, [], Result, Ok, Err}
use Rattle.std.specs.Bool.{OnFalse}
use Rattle.fk_commands.specs.declared.outcome.Outcome.{Outcome}
use Rattle.fk_commands.specs.declared.prepared.Prepared.{Prepared}
use Rattle.fk_commands.specs.declared.status.Status.{Status}
use Rattle.fk_commands.specs.Outcomes.{without_report}
use Rattle.fk_commands.specs.Prepared.{ComesTo}
use Rattle.fk_commands.specs.Status.{was_cut_short}

-- one fact of an outcome and an output gives another
pub comes-also : (P Q : Outcome → List ℕ → Type 0) →
    ((outcome : Outcome) (text : List ℕ) → P outcome text → Q outcome text) → (r : Result Prepared Status) → ComesTo P r → ComesTo Q r
comes-also P Q f (Ok run) comes = (f _ _ comes.0, comes.1)
comes-also P Q f (Err status) comes = by (was_cut_short status) comes
  where
    by : (b : Bool) → OnFalse b (P (without_report status) []) → OnFalse b (Q (without_report status) [])
    by true h = tt
    by false h = f _ _ h
