use Rattle.std.proofs.Common.{◌≡◌, ◌++◌, drop}
use Rattle.fk_sides.specs.Blocks.{spelled}
use Rattle.fk_sides.proofs.blocks.join.Given as goal

-- with those that are left, all are added
abbrev pub invariant-loop-block : goal.invariant-loop-block
invariant-loop-block l = l.out.items ++ spelled (drop l.block-index l.blocks) ≡ spelled l.blocks
