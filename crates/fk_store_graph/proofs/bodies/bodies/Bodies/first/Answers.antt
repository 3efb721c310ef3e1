use Rattle.fk_store_graph.proofs.InBodies.PlayLaws.{player_found, nobody_found, nobody_there, players_told}
use Rattle.fk_store_graph.proofs.bodies.bodies.Bodies.first.Goals as goal

pub returns-in_err-key-clause-none : goal.returns-in_err-key-clause-none
returns-in_err-key-clause-none c = λ none. rw (← c.self.view_is)
    (nobody_found c.self.inside.objects c.filed.ensures c.args.part
    (nobody_there c.self.inside.objects c.filed.ensures c.args.part c.self.invariant.leads (rw c.whose.ensures at c.in_err-key.ensures.key)))

pub first_told-requires : goal.first_told-requires
first_told-requires c = players_told c.self.inside.objects c.filed.ensures c.args.part c.self.invariant.told c.in_ok-key.key
    (rw c.whose.ensures at c.in_ok-key.ensures.key)
    c.told_of_part.result c.told_of_part.ensures

pub returns : goal.returns
returns c = rw (← c.self.view_is) (record {
  some = player_found c.self.inside.objects c.filed.ensures c.args.part c.first_told.result c.first_told.ensures.some;
  none = λ none. nobody_found c.self.inside.objects c.filed.ensures c.args.part (c.first_told.ensures.none none);
})
