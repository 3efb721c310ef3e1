use Rattle.fk_store.proofs.InStore.finding.Outside.{leaders-there}
use Rattle.fk_store.proofs.store.store.Store.leaders.Goals as goal

pub returns : goal.returns
returns c = λ all. rw (← c.self.view_is) (leaders-there _ c.self.invariant c.args.who c.leaders.result.0 (c.leaders.ensures.all all))
