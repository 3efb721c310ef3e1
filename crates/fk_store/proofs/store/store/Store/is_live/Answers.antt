use Rattle.fk_store.proofs.InStore.finding.Enumerated.{tells-root, tells-other}
use Rattle.fk_store.proofs.store.store.Store.is_live.Goals as goal

pub returns-then-space-eq0 : goal.returns-then-space-eq0
returns-then-space-eq0 c = rw (← c.self.view_is) (tells-root _ c.self.invariant c.args.space c.if-space-eq0.true)

pub returns-else-space-eq0 : goal.returns-else-space-eq0
returns-else-space-eq0 c =
    rw (c.is_some.ensures, ← c.self.view_is) (tells-other _ c.self.invariant c.args.space c.if-space-eq0.false c.home.result c.home.ensures)
