use Rattle.std.proofs.Common.{refl, sym}
use Rattle.fk_store_graph.proofs.InBodies.LeaderWalks.{name_comes, name_gone, no_names, rest_there}
use Rattle.fk_store_graph.proofs.bodies.leaders.next_named.Goals as goal

pub returns-in_err-node-clause-none : goal.returns-in_err-node-clause-none
returns-in_err-node-clause-none c = λ none. no_names _ _ _ (c.in_err-node.ensures.none refl)

pub returns-in_err-entry-clause-none : goal.returns-in_err-entry-clause-none
returns-in_err-entry-clause-none c = λ none. absurd (name_gone _ c.in_ok-node.node _ _ c.in_ok-node.ensures.some c.requires c.in_err-entry.ensures.entry)

pub returns-clause-some : goal.returns-clause-some
returns-clause-some c = name_comes _ c.in_ok-node.node c.in_ok-entry.entry.now _ _ c.in_ok-node.ensures.some c.in_ok-entry.ensures.entry

pub returns-clause-nodes : goal.returns-clause-nodes
returns-clause-nodes c = rest_there _ c.in_ok-node.node _ _ c.in_ok-node.ensures.some c.requires
