use Rattle.fk_model.specs.Searches.{client_of}
use Rattle.fk_store.proofs.InStore.finding.Players.{one_client}
use Rattle.fk_store.proofs.store.store.Store.client_of.Goals as goal

pub returns : goal.returns
unfolding client_of
returns c = record {
  client = λ valid. c.first.ensures.same (one_client _ valid _);
  some = c.first.ensures.some;
  live = c.first.ensures.live;
}
