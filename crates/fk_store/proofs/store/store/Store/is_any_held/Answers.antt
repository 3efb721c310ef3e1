use Rattle.fk_store.proofs.InStore.finding.HoldLaws.{decider-free}
use Rattle.fk_store.proofs.store.store.Store.is_any_held.Goals as goal

pub returns : goal.returns
returns c = λ none. rw (← c.self.view_is) (decider-free _ (c.is_any_held.ensures none))
