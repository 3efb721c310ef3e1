use Rattle.std.proofs.Common.{◌≡◌, replicate, None}
use Rattle.fk_sides.proofs.came.open_places.Given as goal

-- so many are made
abbrev pub invariant-loop-k : goal.invariant-loop-k
invariant-loop-k l = l.blocks.items ≡ replicate l._k None
