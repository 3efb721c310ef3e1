use Rattle.fk_store.proofs.InStore.finding.Leading.{leading}
use Rattle.fk_store.proofs.store.store.Store.leads.Goals as goal

pub returns : goal.returns
returns c = λ test null dead leads. leading test null dead leads _
