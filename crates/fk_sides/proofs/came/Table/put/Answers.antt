use Rattle.std.proofs.Common.{refl}
use Rattle.fk_sides.proofs.Coming.{filled_put}
use Rattle.fk_sides.proofs.came.Table.put.Goals as goal

pub first_open-self-requires : goal.first_open-self-requires
first_open-self-requires c =
    let self = c.args.self.now in
    rw c.as_slice.ensures.value
    (filled_put self.blocks.items _ self.first c.args.at c.args.block (record { within = self.within; filled = self.filled }) c.requires refl)
