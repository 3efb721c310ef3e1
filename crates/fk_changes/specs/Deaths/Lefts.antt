-- Lefts: who is still to be looked at.
use Rattle.fk_changes.specs.declared.deaths.rounds.Left.{Left}
use Rattle.fk_changes.specs.declared.deaths.rounds.Left.TheVariants.{Client, Nobody, Unknown}

abbrev pub IfNobody : Left → Type 0 → Type 0
IfNobody (Client who) P = Unit {0}
IfNobody Nobody P = P
IfNobody Unknown P = Unit {0}
