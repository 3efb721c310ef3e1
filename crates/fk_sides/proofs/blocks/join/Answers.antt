use Rattle.std.proofs.Common.{arith}
use Rattle.fk_sides.proofs.Coming.{joined_more}
use Rattle.fk_sides.proofs.blocks.join.Goals as goal

pub loop-block-preserved : goal.loop-block-preserved
loop-block-preserved c = joined_more c.args.blocks.now c.loop-block.block-index _ _ _ (omega arith) c.in_ok-add_block.ensures c.loop-block.invariant
