use Rattle.std.proofs.Common.{◌∙◌}
use Rattle.fk_store.proofs.InStore.finding.Outside.{hits-there}
use Rattle.fk_store.proofs.store.store.Store.hits.Goals as goal

pub returns-clause-hits : goal.returns-clause-hits
returns-clause-hits c = c.hits.ensures.hits ∙ rw (← c.self.view_is) (hits-there _ c.self.invariant c.args.to c.args.from)
