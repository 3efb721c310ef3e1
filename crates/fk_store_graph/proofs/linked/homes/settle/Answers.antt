use Rattle.fk_store_graph.proofs.InLinked.HomeLaws.{home_put}
use Rattle.fk_store_graph.proofs.linked.homes.settle.Goals as goal

pub returns-in-Some : goal.returns-in-Some
returns-in-Some c n = rw c.in-Some.is (home_put _ c.in-Some.birth c.args.key n (c.requires _ c.in-Some.is))
