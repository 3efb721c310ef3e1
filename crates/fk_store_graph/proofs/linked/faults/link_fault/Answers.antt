use Rattle.std.proofs.Common.{ap, ◌∙◌, sym, arith}
use Rattle.fk_model.specs.Objects.{and_then}
use Rattle.fk_store_graph.specs.Linked.Bodied.{head_by}
use Rattle.fk_store_graph.proofs.InLinked.FaultLaws.{fault_head, fault_within}
use Rattle.fk_store_graph.proofs.InLinked.LinkedLaws.{kept_put, pointer_node}
use Rattle.fk_store_graph.proofs.linked.faults.link_fault.Goals as goal

pub point-requires-clause-node : goal.point-requires-clause-node
point-requires-clause-node c = rw c.node_of.ensures (let long = c.requires.long in let few = c.requires.field in omega (arith, long, few))

pub point-requires-clause-pointer : goal.point-requires-clause-pointer
point-requires-clause-pointer c =
    rw c.node_of.ensures (pointer_node c.args.key c.args.field c.requires.field (λ two. let low = c.requires.low in absurd (omega (arith, low, two))))

pub point-requires-clause-within : goal.point-requires-clause-within
point-requires-clause-within c = λ h is.
    fault_within c.args.objects.now _ c.args.fault c.args.field c.requires.low c.requires.heads h (sym c.head_by_fault.ensures ∙ is)

pub point-requires-clause-head : goal.point-requires-clause-head
point-requires-clause-head c = λ h is. fault_head c.args.objects.now c.args.fault c.args.field c.requires.low h (sym c.head_by_fault.ensures ∙ is)

pub returns-then-not-is_same-clause-rings : goal.returns-then-not-is_same-clause-rings
returns-then-not-is_same-clause-rings c = λ owner was are.
    let rings = rw (c.node_of.ensures, c.head_by_fault.ensures) at c.point.ensures.rings in rings owner are

pub returns-else-not-is_same-clause-rings : goal.returns-else-not-is_same-clause-rings
returns-else-not-is_same-clause-rings c = λ owner was are. kept_put _ owner c.args.key c.args.field _
    (was ∙ ap (and_then (head_by c.args.objects.now))
    (sym c.target_of_fault.ensures ∙ c.is_same.ensures c.if-not-is_same.false ∙ c.target_of_fault-2.ensures)) are
