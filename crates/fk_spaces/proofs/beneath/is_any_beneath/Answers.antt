use Rattle.std.proofs.Common.{arith}
use Rattle.fk_store.specs.Store.Paths.{path}
use Rattle.fk_spaces.proofs.PorterScans.{none_among, nowhere_among}
use Rattle.fk_spaces.proofs.beneath.is_any_beneath.Goals as goal

pub returns-then-is_held_beneath : goal.returns-then-is_held_beneath
returns-then-is_held_beneath c = c.is_held_beneath.ensures.some c.if-is_held_beneath.true

pub loop-index-preserved : goal.loop-index-preserved
loop-index-preserved c =
    none_among c.args.store.now (path c.args.store.now c.args.outer) c.args.births.now c.loop-index.index c.loop-index.invariant
    (c.is_held_beneath.ensures.none c.if-is_held_beneath.false)

pub returns : goal.returns
returns c = nowhere_among c.args.store.now (path c.args.store.now c.args.outer) c.args.births.now c.loop-index.index
    (omega arith) c.requires.all c.loop-index.invariant
