use Rattle.std.proofs.Common.{List, Option, ap, ◌∙◌, arith}
use Rattle.fk_sides.specs.declared.blocks.Block.{Block}
use Rattle.fk_sides.specs.Blocks.{spelled}
use Rattle.laws_migrate.specs.Images.{read_bytes}
use Rattle.fk_sides.proofs.Coming.{opens, reads, set_back}
use Rattle.fk_sides.proofs.came.Table.fill.Goals as goal

pub returns-then-first-many-clause-comes : goal.returns-then-first-many-clause-comes
returns-then-first-many-clause-comes c =
    let many = c.len-many.ensures in
    let below = c.if-first-many.true in
    λ got total its begins. opens c.args.self.now.blocks.items c.put.new.self.blocks.items c.put.new.self.first got c.args.at total c.args.block c.requires its begins
    c.put.ensures c.put.new.self.open_at (omega (arith, many, below))

pub returns-in-Ok-clause-comes : goal.returns-in-Ok-clause-comes
returns-in-Ok-clause-comes c =
    let many = c.len-many.ensures in
    let past = c.if-first-many.false in
    λ got total its begins. reads c.args.self.now.blocks.items c.put.new.self.blocks.items c.put.new.self.first got c.args.at total c.args.block _ c.requires its begins
    c.put.ensures (record { within = c.put.new.self.within; filled = c.put.new.self.filled }) (omega (arith, many, past))
    (c.in-Ok.ensures ∙ ap (λ (bs : List (Option Block)). read_bytes (spelled bs)) c.as_slice.ensures.value)

pub returns-in-Err-clause-lacking : goal.returns-in-Err-clause-lacking
returns-in-Err-clause-lacking c =
    rw c.put.ensures (set_back c.args.self.now.blocks.items c.args.at _ c.requires.within c.requires.none)
