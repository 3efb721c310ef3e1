use Rattle.std.proofs.Common.{◌≡◌, ◌≤◌, ℕ, length, drop}
use Rattle.fk_image.specs.Image.Objects.{kind_in}
use Rattle.fk_image.specs.Image.Kinds.{kind_at}
use Rattle.fk_image.proofs.image.kinds.table_of.Given as goal

abbrev pub invariant-loop-at : goal.invariant-loop-at
invariant-loop-at l = (l.at ≤ length l.items) × (length l.numbers.items ≡ 256) × ((n : ℕ) → kind_at l.numbers.items n ≡ kind_in (drop l.at l.items) n)

abbrev pub decreases-loop-at : goal.decreases-loop-at
decreases-loop-at l = l.at
