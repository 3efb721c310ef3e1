use Rattle.std.proofs.Common.{◌≡◌, ◌++◌, replicate}
use Rattle.fk_history.proofs.repeats.write.Given as goal

-- so many are written
abbrev pub invariant-loop-k : goal.invariant-loop-k
invariant-loop-k l = l.all.items ≡ l.fn.all.items ++ replicate l._k l.m
