use Rattle.std.proofs.Common.{◌-◌, length}
use Rattle.fk_sides.specs.Blocks.{IsFilledTo}
use Rattle.fk_sides.proofs.blocks.first_open.Given as goal

-- all before it have come
abbrev pub invariant-loop-first : goal.invariant-loop-first
invariant-loop-first l = IsFilledTo l.blocks l.first

abbrev pub decreases-loop-first : goal.decreases-loop-first
decreases-loop-first l = length l.blocks - l.first
