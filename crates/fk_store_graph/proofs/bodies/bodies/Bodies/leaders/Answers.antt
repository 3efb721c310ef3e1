use Rattle.std.proofs.Common.{sym, ◌∙◌, arith}
use Rattle.fk_store_graph.proofs.InBodies.LeaderSums.{leaders-all, leaders-sum}
use Rattle.fk_store_graph.proofs.InLinked.LinkedLaws.{have_heads}
use Rattle.fk_store_graph.proofs.bodies.bodies.Bodies.leaders.Goals as goal

pub new-requires-clause-small : goal.new-requires-clause-small
new-requires-clause-small c = λ k is. c.filed.ensures.small k c.args.who (c.filed.ensures.filed c.args.who k (sym c.key.ensures.key ∙ is))

pub new-requires-clause-long : goal.new-requires-clause-long
new-requires-clause-long c = λ k is. have_heads c.self.inside.objects _ c.filed.ensures c.self.invariant.long c.args.who k (sym c.key.ensures.key ∙ is)

pub returns-clause-all : goal.returns-clause-all
returns-clause-all c = λ all. rw (← c.self.view_is)
    (leaders-all c.self.inside.objects c.filed.ensures c.self.invariant.leads c.args.who c.key.result c.new.result.0 c.key.ensures.key c.new.ensures.leaders)

pub returns-clause-sums : goal.returns-clause-sums
returns-clause-sums c = λ all. rw (← c.self.view_is)
    (leaders-sum c.self.inside.objects c.filed.ensures c.self.invariant.leads c.args.who c.key.result c.new.result.0 c.key.ensures.key c.new.ensures.leaders)

pub returns-clause-few : goal.returns-clause-few
returns-clause-few c = let few = c.new.ensures.few in omega (arith, few)
