use Rattle.std.proofs.Common.{◌-◌, length}
use Rattle.fk_image.proofs.InPointers.Within.{EndsFrom}
use Rattle.fk_image.proofs.pointers.places.end_of.Given as goal

abbrev pub invariant-loop-end : goal.invariant-loop-end
invariant-loop-end l = EndsFrom l.spaces l.space l.end

abbrev pub decreases-loop-end : goal.decreases-loop-end
decreases-loop-end l = length l.spaces - l.end
