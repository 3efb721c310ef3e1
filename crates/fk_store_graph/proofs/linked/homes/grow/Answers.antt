use Rattle.std.proofs.Common.{◌∙◌}
use Rattle.fk_store_graph.proofs.InLinked.HomeLaws.{home_more}
use Rattle.fk_store_graph.proofs.linked.homes.grow.Goals as goal

pub loop-homes-preserved : goal.loop-homes-preserved
loop-homes-preserved c = rw c.in_ok-push.ensures.items (λ n. home_more _ n ∙ c.loop-homes.invariant n)
