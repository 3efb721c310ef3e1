use Rattle.std.proofs.Common.{◌≡◌, length, arith}
use Rattle.fk_sides.proofs.Cuts.{counted_so}
use Rattle.fk_sides.proofs.blocks.counted.Goals as goal

pub returns : goal.returns
returns c =
    let bytes = c.args.block.now.bytes in
    let long : length c.args.block.now.bytes ≡ 512 = omega arith in
    rw c.min-len.ensures (counted_so _ _ _ bytes c.from.ensures long)
