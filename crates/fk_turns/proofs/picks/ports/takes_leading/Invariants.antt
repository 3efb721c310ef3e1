use Rattle.std.proofs.Common.{◌≡◌, true, length}
use Rattle.fk_turns.proofs.InPicks.Leading.{AreToCome}
use Rattle.fk_turns.proofs.picks.ports.takes_leading.Given as goal

-- each by whom somebody is picked is yet to come
abbrev pub invariant-loop-from : goal.invariant-loop-from
invariant-loop-from l = l.leaders.1 ≡ true → AreToCome l.store l.picker l.fn.port l.leaders.0

abbrev pub decreases-loop-from : goal.decreases-loop-from
decreases-loop-from l = length l.leaders.0
