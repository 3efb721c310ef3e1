use Rattle.fk_turns.proofs.InWhys.Waited.{IsFound}
use Rattle.fk_turns.proofs.whys.causes.outermost_above.Given as goal

abbrev pub invariant-loop-space : goal.invariant-loop-space
invariant-loop-space l = IsFound l.store l.fn.who l.at l.found

abbrev pub decreases-loop-space : goal.decreases-loop-space
decreases-loop-space l = l.at.space
