use Rattle.std.proofs.Common.{sym, ap, is_some, ◌∙◌}
use Rattle.fk_store.proofs.InStore.changing.Residents.{plain-empty, space-residents}
use Rattle.fk_store.proofs.store.store.Store.has_residents.Goals as goal

pub returns-in-None : goal.returns-in-None
returns-in-None c = rw (← c.self.view_is) (plain-empty _ c.self.invariant c.args.who c.birth.result c.birth.ensures c.in-None.is)

pub returns-in-Some : goal.returns-in-Some
returns-in-Some c = c.is_some.ensures ∙ ap is_some c.first_resident.ensures
    ∙ rw (← c.self.view_is) (space-residents _ c.self.invariant c.args.who c.in-Some.space (sym c.in-Some.is ∙ c.birth.ensures))
