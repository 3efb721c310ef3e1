use Rattle.fk_model.specs.Searches.{faulter_of}
use Rattle.fk_store.proofs.InStore.finding.Players.{one_faulter}
use Rattle.fk_store.proofs.store.store.Store.faulter_of.Goals as goal

pub returns : goal.returns
unfolding faulter_of
returns c = record {
  faulter = λ valid. c.first.ensures.same (one_faulter _ valid _);
  some = c.first.ensures.some;
  live = c.first.ensures.live;
}
