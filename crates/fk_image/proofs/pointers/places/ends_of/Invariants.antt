use Rattle.std.proofs.Common.{◌≤◌, length}
use Rattle.fk_image.specs.Pointers.Places.{KnowsFrom}
use Rattle.fk_image.proofs.pointers.places.ends_of.Given as goal

abbrev pub invariant-loop-space : goal.invariant-loop-space
invariant-loop-space l = (l.space ≤ length l.spaces) × KnowsFrom l.space l.spaces l.ends.items

abbrev pub decreases-loop-space : goal.decreases-loop-space
decreases-loop-space l = l.space
