use Rattle.std.proofs.Common.{refl, sym, ◌∙◌}
use Rattle.fk_store.proofs.InStore.finding.HoldLaws.{decider-none}
use Rattle.fk_store.proofs.InStore.finding.Walks.{path-home}
use Rattle.fk_store.proofs.store.store.Store.space_frozen_for.Goals as goal

pub returns-in-None : goal.returns-in-None
returns-in-None c = rw (← c.self.view_is, decider-none _ c.self.invariant c.args.space (sym c.home.ensures ∙ c.in-None.is)) refl

pub returns-in-Some : goal.returns-in-Some
returns-in-Some c = rw (
  ← c.self.view_is,
  path-home _ c.self.invariant c.args.space c.in-Some.who (sym c.home.ensures ∙ c.in-Some.is),
) (rw (← c.self.view_is) at c.frozen_for.ensures)
