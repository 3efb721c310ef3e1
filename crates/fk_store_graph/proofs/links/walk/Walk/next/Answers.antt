use Rattle.std.proofs.Common.{◌≡◌, [], arith}
use Rattle.std.proofs.lemmas.Bool.Decides.{nat_tests}
use Rattle.fk_store_graph.specs.Links.Links.{next_at}
use Rattle.fk_store_graph.specs.Links.Walks.{walked}
use Rattle.fk_store_graph.proofs.InLinks.NodeLaws.{next_within}
use Rattle.fk_store_graph.proofs.InLinks.WalkLaws.{none_left, none_at_head, one_comes}
use Rattle.fk_store_graph.proofs.links.walk.Walk.next.Goals as goal
use Rattle.fk_store_graph.proofs.links.walk.Walk.next.Goals.{then-self-eq0-via-then-self-eq0, then-self-eq0-via-else-self-eq0+then-self}

pub returns-then-self-eq0-clause-none : goal.returns-then-self-eq0-clause-none
returns-then-self-eq0-clause-none c = λ none.
    let s = c.self.inside in
    let ended : walked s.left (next_at s.links.now.items) s.head s.node ≡ [] = elim c.then-self-eq0.branch [
      | then-self-eq0-via-then-self-eq0 w ↦ none_left (next_at s.links.now.items) s.head s.left s.node (grind (arith, nat_tests))
      | then-self-eq0-via-else-self-eq0+then-self w ↦ none_at_head (next_at s.links.now.items) s.head s.left s.node (grind (arith, nat_tests))
    ] in
    rw (← c.self.view_is) (ended, ended)

pub returns-clause-some : goal.returns-clause-some
returns-clause-some c =
    let s = c.self.inside in
    let next = next_at s.links.now.items in
    rw (← c.self.view_is, c.next_of-self-inside.ensures) (one_comes next s.head s.left s.node (grind (arith, nat_tests)) (grind (arith, nat_tests)))

pub invariant_of-self : goal.invariant_of-self
invariant_of-self c = (c.self.invariant.0, rw c.next_of-self-inside.ensures (next_within _ c.self.inside.node c.self.invariant.0 c.self.invariant.1))
