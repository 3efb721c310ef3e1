use Rattle.std.proofs.Common.{◌≡◌, ◌++◌, drop}
use Rattle.fk_checkpoint.proofs.assembly.links.wide.Given as goal

abbrev pub invariant-loop-slot : goal.invariant-loop-slot
invariant-loop-slot l = l.wide.items ++ drop l.slot-index l.place ≡ l.place
