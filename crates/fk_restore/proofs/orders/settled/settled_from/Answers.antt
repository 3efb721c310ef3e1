use Rattle.std.proofs.Common.{sym, ◌∙◌}
use Rattle.fk_restore.proofs.orders.settled.settled_from.Goals as goal

pub loop-next-preserved : goal.loop-next-preserved
loop-next-preserved c = (sym c.in-Some.ensures.goes.rest ∙ c.loop-next.invariant.0, c.in-Some.ensures.goes.place)

pub loop-next-smaller : goal.loop-next-smaller
loop-next-smaller c = c.in-Some.ensures.goes.fewer
