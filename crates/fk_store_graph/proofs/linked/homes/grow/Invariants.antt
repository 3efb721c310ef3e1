use Rattle.std.proofs.Common.{◌≡◌, ℕ, ◌+◌, ◌-◌, length}
use Rattle.fk_store_graph.specs.Linked.Homes.{home_at}
use Rattle.fk_store_graph.proofs.linked.homes.grow.Given as goal

-- nothing is told anew
abbrev pub invariant-loop-homes : goal.invariant-loop-homes
invariant-loop-homes l = (n : ℕ) → home_at l.homes.items n ≡ home_at l.initial.homes.items n

abbrev pub decreases-loop-homes : goal.decreases-loop-homes
decreases-loop-homes l = l.birth + 1 - length l.homes.items
