use Rattle.std.proofs.Common.{◌≡◌, ◌-◌, ℕ, length}
use Rattle.fk_store.specs.Holds.Frozen.{mark_at}
use Rattle.fk_store.proofs.holds.frozen.Frozen.room.Given as goal

-- nothing is told anew
abbrev pub invariant-loop-self : goal.invariant-loop-self
invariant-loop-self l = (n : ℕ) → mark_at l.self-inside.marks.items n ≡ mark_at l.initial.self-inside.marks.items n

abbrev pub decreases-loop-self : goal.decreases-loop-self
decreases-loop-self l = l.space - length l.self-inside.marks.items
