use Rattle.std.proofs.Common.{◌-◌}
use Rattle.fk_turns.proofs.next.taking.takes_first_of.Given as goal

abbrev pub decreases-loop-from : goal.decreases-loop-from
decreases-loop-from l = 256 - l.from
