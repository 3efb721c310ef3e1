use Rattle.std.proofs.Common.{sym, ◌∙◌}
use Rattle.fk_store_graph.proofs.InLinks.NodeLaws.{next_within, nobody_there, somebody_there}
use Rattle.fk_store_graph.proofs.links.links.Links.first.Goals as goal

pub returns-then-node-head-clause-none : goal.returns-then-node-head-clause-none
returns-then-node-head-clause-none c = λ h owner are n field leads.
    nobody_there _ c.args.head c.requires.head owner (sym c.next_of-node.ensures ∙ c.if-node-head.true) (rw (← c.self.view_is) at are) n field leads

pub returns-else-node-head-clause-some : goal.returns-else-node-head-clause-some
returns-else-node-head-clause-some c = λ owner are.
    rw c.next_of-node.ensures (somebody_there _ c.args.head c.requires.head owner (λ is. c.if-node-head.false (c.next_of-node.ensures ∙ is))
    (rw (← c.self.view_is) at are))

pub returns-else-node-head-clause-within : goal.returns-else-node-head-clause-within
returns-else-node-head-clause-within c =
    rw (c.next_of-node.ensures, ← c.self.view_is) (next_within _ c.args.head c.self.invariant (rw (← c.self.view_is) at c.requires.there))
