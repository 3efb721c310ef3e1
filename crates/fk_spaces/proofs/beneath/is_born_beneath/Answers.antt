use Rattle.std.proofs.Common.{arith}
use Rattle.fk_store.specs.Store.Paths.{path}
use Rattle.fk_spaces.proofs.PorterScans.{none_so_far, is_nowhere}
use Rattle.fk_spaces.proofs.beneath.is_born_beneath.Goals as goal

pub returns-then-is_held_beneath : goal.returns-then-is_held_beneath
returns-then-is_held_beneath c = c.is_held_beneath.ensures.some c.if-is_held_beneath.true

pub loop-space-preserved : goal.loop-space-preserved
loop-space-preserved c =
    none_so_far c.args.store.now (path c.args.store.now c.args.outer) c.loop-space.space c.loop-space.invariant
    (c.is_held_beneath.ensures.none c.if-is_held_beneath.false)

pub returns : goal.returns
returns c = is_nowhere c.args.store.now (path c.args.store.now c.args.outer) c.held_births.ensures
    (λ n low. c.loop-space.invariant n (omega (arith, low, c.next_birth-space-end.ensures)))
