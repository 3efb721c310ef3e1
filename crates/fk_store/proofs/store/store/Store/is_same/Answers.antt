use Rattle.std.proofs.Common.{sym}
use Rattle.fk_store.proofs.InStore.finding.Within.{same_spaces}
use Rattle.fk_store.proofs.store.store.Store.is_same.Goals as goal

pub returns : goal.returns
returns c = rw (← c.self.view_is) (sym (same_spaces _ c.self.invariant c.args.space c.args.other (rw (← c.self.view_is) at c.requires.other)))
