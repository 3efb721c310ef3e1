use Rattle.std.proofs.Common.{sym, ◌∙◌}
use Rattle.fk_store.proofs.InStore.finding.HoldLaws.{is_frozen-none, is_frozen-some}
use Rattle.fk_store.proofs.store.store.Store.is_decided.Goals as goal

pub returns-in-None : goal.returns-in-None
returns-in-None c = rw (← c.self.view_is) (is_frozen-none _ c.self.invariant c.args.space (sym c.home.ensures ∙ c.in-None.is))

pub returns-in-Some : goal.returns-in-Some
returns-in-Some c = rw (c.is_some.ensures, ← c.self.view_is) (is_frozen-some _
    c.self.invariant c.args.space c.in-Some.who c.decider.result (sym c.home.ensures ∙ c.in-Some.is) (rw (← c.self.view_is) at c.decider.ensures.decider))
