use Rattle.std.proofs.Common.{List, Option, subst}
use Rattle.std.proofs.lemmas.Bool.{OnTrue_at, OnFalse_at}
use Rattle.fk_sides.specs.declared.blocks.Block.{Block}
use Rattle.fk_sides.specs.Blocks.{IsOpen, IsIdle}
use Rattle.fk_sides.proofs.Coming.{idles}
use Rattle.fk_sides.proofs.came.Table.take.Goals as goal

pub fill-requires : goal.fill-requires
fill-requires c = subst (λ (bs : List (Option Block)). IsOpen bs c.args.number) c.as_slice.ensures.value (OnTrue_at c.if-is_open.true c.is_open.ensures.yes)

pub returns-then-is_open-clause-comes : goal.returns-then-is_open-clause-comes
returns-then-is_open-clause-comes c = c.fill.ensures.comes

pub returns-else-is_open-clause-comes : goal.returns-else-is_open-clause-comes
returns-else-is_open-clause-comes c =
    let self = c.args.self.now in
    let idle : IsIdle self.blocks.items c.args.number =
    subst (λ (bs : List (Option Block)). IsIdle bs c.args.number) c.as_slice.ensures.value (OnFalse_at c.if-is_open.false c.is_open.ensures.no) in
    λ got total its begins. idles self.blocks.items self.first got c.args.number total c.args.block
    (record { to = record { within = self.within; filled = self.filled }; open_at = self.open_at }) idle its begins
