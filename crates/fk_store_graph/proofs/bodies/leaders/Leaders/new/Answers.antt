use Rattle.std.proofs.Common.{Some, refl, arith}
use Rattle.fk_store_graph.specs.Linked.Nodes.{node_of}
use Rattle.fk_store_graph.specs.Linked.Walks.{AreLeaders}
use Rattle.fk_store_graph.specs.Linked.Bodied.{owner}
use Rattle.fk_store_graph.proofs.InBodies.LeaderWalks.{nodes_there, few_names}
use Rattle.fk_store_graph.proofs.InLinked.LinkedLaws.{head_node}
use Rattle.fk_store_graph.proofs.bodies.leaders.Leaders.new.Goals as goal

pub walk-requires-clause-there : goal.walk-requires-clause-there
walk-requires-clause-there c = rw c.head_of.ensures (let long = c.requires.long c.in-Some.key c.in-Some.is in omega (arith, long))

pub walk-requires-clause-head : goal.walk-requires-clause-head
walk-requires-clause-head c = rw c.head_of.ensures (head_node c.in-Some.key)

pub invariant_of-result : goal.invariant_of-result
invariant_of-result c =
    let are : AreLeaders (owner c.args.objects.now) (node_of c.in-Some.key 2) c.walk.result = rw c.head_of.ensures at c.walk.ensures.all _ c.requires.rings in
    nodes_there c.args.objects.now c.walk.result are

pub returns-in-Some-clause-leaders : goal.returns-in-Some-clause-leaders
returns-in-Some-clause-leaders c = rw c.in-Some.is (record {
  nodes = c.walk.result;
  are = rw c.head_of.ensures at c.walk.ensures.all _
      c.requires.rings;
  named = refl;
})

pub returns-in-Some-clause-few : goal.returns-in-Some-clause-few
returns-in-Some-clause-few c = let few = few_names c.args.objects.now c.walk.result in let low = c.walk.ensures.few in omega (arith, few, low)

pub returns-in-None-clause-leaders : goal.returns-in-None-clause-leaders
returns-in-None-clause-leaders c = rw c.in-None.is refl
