use Rattle.std.proofs.Common.{◌-◌}
use Rattle.fk_turns.proofs.next.taking.first_to_take.Given as goal

abbrev pub decreases-loop-slot : goal.decreases-loop-slot
decreases-loop-slot l = 256 - l.from
