use Rattle.fk_model.specs.Searches.{client_at}
use Rattle.fk_store.proofs.InStore.finding.Players.{one_guest}
use Rattle.fk_store.proofs.store.store.Store.client_at.Goals as goal

pub returns : goal.returns
unfolding client_at
returns c = record {
  client = λ valid. c.first.ensures.same (one_guest _ valid _);
  some = c.first.ensures.some;
  live = c.first.ensures.live;
}
