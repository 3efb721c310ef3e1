use Rattle.std.proofs.Common.{arith}
use Rattle.fk_waits.proofs.causes.names.place_of.Goals as goal

pub returns-then-comes_last-clause-before : goal.returns-then-comes_last-clause-before
returns-then-comes_last-clause-before c k d low = let last = rw c.if-comes_last.true at c.comes_last.ensures.last in last k d low

pub returns-then-comes_last-clause-behind : goal.returns-then-comes_last-clause-behind
returns-then-comes_last-clause-behind c k d from low = absurd (omega (arith, from, low))
