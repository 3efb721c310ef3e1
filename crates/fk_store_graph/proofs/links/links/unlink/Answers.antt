use Rattle.std.proofs.Common.{sym, ◌∙◌, arith}
use Rattle.std.proofs.lemmas.Bool.Decides.{nat_tests}
use Rattle.fk_store_graph.proofs.InLinks.NodeLaws.{are_within, linked_left, rings_left, rings_idle}
use Rattle.fk_store_graph.proofs.links.links.unlink.Goals as goal

pub returns-then-next_of-node-clause-rings : goal.returns-then-next_of-node-clause-rings
returns-then-next_of-node-clause-rings c owner are = rings_idle _ c.args.node c.requires.pointer (sym c.next_of.ensures ∙ c.if-next_of-node.true) owner are

pub returns-then-next_of-node-clause-alone : goal.returns-then-next_of-node-clause-alone
returns-then-next_of-node-clause-alone c = sym c.next_of.ensures ∙ c.if-next_of-node.true

pub take_out-requires-clause-within : goal.take_out-requires-clause-within
take_out-requires-clause-within c = are_within _ c.requires.linked

pub returns-clause-linked : goal.returns-clause-linked
returns-clause-linked c = linked_left _ _ c.args.node c.requires.linked c.take_out.ensures.long c.take_out.ensures.next c.take_out.ensures.prev

pub returns-clause-rings : goal.returns-clause-rings
returns-clause-rings c owner are = rings_left _ _ c.args.node c.requires.linked c.take_out.ensures.long c.take_out.ensures.next
    c.take_out.ensures.prev c.requires.pointer owner are

pub returns-clause-alone : goal.returns-clause-alone
returns-clause-alone c = c.take_out.ensures.next c.args.node ∙ grind (arith, nat_tests)
