use Rattle.std.proofs.Common.{sym, ◌∙◌}
use Rattle.fk_store.proofs.InStore.finding.LookUps.{page-path}
use Rattle.fk_store.proofs.store.store.Store.page.Goals as goal

pub returns : goal.returns
returns c = rw (← c.self.view_is) (c.at.ensures ∙ sym (page-path _ c.self.invariant c.args.space c.args.page))
