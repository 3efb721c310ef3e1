-- A player to whom cores are lent.
use Rattle.std.proofs.Common.{Bool, Result, Ok, Err, subst, sym}
use Rattle.fk_core.specs.Cores.Cores.{RunCore}
use Rattle.fk_first.specs.Lent.{IsPlayed, ArePlayed}
use Rattle.fk_first.specs.Lent.ArePlayed.{Goes}

-- behind one more call, or where there was none
pub plays-on : {P E : Type 0} (plays : P → RunCore → Bool → P → Type 0) (IsLent : RunCore → Type 0) (before now : P) (answer : Result Bool E) (after : P) →
    ArePlayed plays IsLent before now → IsPlayed plays IsLent now answer after → ArePlayed plays IsLent before after
plays-on plays IsLent before now (Ok answer) after are (core, lent, played) = Goes now core answer after are lent played
plays-on plays IsLent before now (Err lacking) after are same = subst (λ p. ArePlayed plays IsLent before p) (sym same) are
