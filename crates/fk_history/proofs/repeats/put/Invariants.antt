use Rattle.std.proofs.Common.{◌≡◌, ◌+◌, ◌≤◌, ◌++◌, length, replicate, vec_capacity}
use Rattle.fk_history.specs.Repeats.{moves_in}
use Rattle.fk_history.proofs.repeats.put.Given as goal

-- with those that are left, all are put
abbrev pub invariant-loop-left : goal.invariant-loop-left
invariant-loop-left l =
    (moves_in l.repeats.items ++ replicate l.left l.m ≡ moves_in l.fn.repeats.items ++ replicate l.times l.m)
    × (length l.repeats.items + l.left ≤ length l.fn.repeats.items + l.times)
    × (vec_capacity l.repeats ≡ vec_capacity l.fn.repeats)

abbrev pub decreases-loop-left : goal.decreases-loop-left
decreases-loop-left l = l.left
