use Rattle.std.proofs.Common.{sym, ◌∙◌}
use Rattle.fk_store.proofs.InFreezing.FreezeLaws.{none_above}
use Rattle.fk_store.proofs.freezing.tree.Tree.may_be_frozen.Goals as goal

pub returns : goal.returns
returns c = λ off. rw (← c.self.view_is) (none_above _ _ c.self.invariant.frozen c.args.space (sym c.at.ensures ∙ off))
