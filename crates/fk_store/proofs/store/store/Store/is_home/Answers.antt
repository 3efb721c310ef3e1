use Rattle.std.proofs.Common.{sym, ◌∙◌}
use Rattle.fk_store.proofs.InStore.finding.Within.{home_none, home_some}
use Rattle.fk_store.proofs.store.store.Store.is_home.Goals as goal

pub returns-in-None : goal.returns-in-None
returns-in-None c =
    rw (← c.self.view_is) (home_none _ c.self.invariant c.args.base (rw (← c.self.view_is) at c.requires.base) c.args.who
    (sym c.home.ensures ∙ c.in-None.is))

pub returns-in-Some : goal.returns-in-Some
returns-in-Some c = c.eq.ensures
    ∙ rw (← c.self.view_is) (home_some _ c.self.invariant c.args.base (rw (← c.self.view_is) at c.requires.base) c.args.who
    c.in-Some.home (sym c.home.ensures ∙ c.in-Some.is))
