use Rattle.fk_waits.specs.Causes.Causes.{AreTaken}
use Rattle.fk_waits.proofs.causes.causes.Causes.empty_within.Given as goal

abbrev pub invariant-loop-at : goal.invariant-loop-at
invariant-loop-at l = AreTaken l.self l.from l.at
