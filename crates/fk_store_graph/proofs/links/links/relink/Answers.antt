use Rattle.std.proofs.Common.{arith}
use Rattle.fk_store_graph.proofs.InLinks.NodeLaws.{next_within, linked_joined, rings_joined}
use Rattle.fk_store_graph.proofs.links.links.relink.Goals as goal

pub put_behind-requires-clause-behind : goal.put_behind-requires-clause-behind
put_behind-requires-clause-behind c = next_within _ c.args.head c.unlink.ensures.linked
    (let long = c.unlink.ensures.long in let low = c.requires.within in omega (arith, long, low))

pub returns-clause-linked : goal.returns-clause-linked
returns-clause-linked c = linked_joined _ _ c.args.node c.args.head c.unlink.ensures.linked c.unlink.ensures.alone c.requires.pointer c.requires.head
    c.put_behind.ensures.long c.put_behind.ensures.next c.put_behind.ensures.prev

pub returns-clause-rings : goal.returns-clause-rings
returns-clause-rings c owner are = rings_joined _ _ c.args.node c.args.head c.unlink.ensures.linked c.unlink.ensures.alone c.requires.pointer c.requires.head
    c.put_behind.ensures.long c.put_behind.ensures.next c.put_behind.ensures.prev owner (c.unlink.ensures.rings owner are)
