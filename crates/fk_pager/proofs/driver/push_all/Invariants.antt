use Rattle.std.proofs.Common.{◌≡◌, ◌++◌, replicate}
use Rattle.fk_pager.proofs.driver.push_all.Given as goal

-- so many are pushed
abbrev pub invariant-loop-k : goal.invariant-loop-k
invariant-loop-k l = l.moves.items ≡ l.fn.moves.items ++ replicate l._k l.m
