use Rattle.std.proofs.Common.{◌-◌}
use Rattle.fk_waits.proofs.InCauses.Order.{IsHalved}
use Rattle.fk_waits.proofs.causes.names.place_within.Given as goal

abbrev pub invariant-loop-low : goal.invariant-loop-low
invariant-loop-low l = IsHalved l.items l.own l.low l.high

abbrev pub decreases-loop-low : goal.decreases-loop-low
decreases-loop-low l = l.high - l.low
