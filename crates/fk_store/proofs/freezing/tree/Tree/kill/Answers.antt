use Rattle.std.proofs.Common.{sym, ◌∙◌}
use Rattle.fk_store.proofs.InFreezing.TreeLaws.{tree_killed}
use Rattle.fk_store.proofs.freezing.tree.Tree.kill.Goals as goal

pub invariant_of-self : goal.invariant_of-self
invariant_of-self c = tree_killed _ _ c.args.who c.kill.ensures (rw (← c.self.view_is) at c.requires.known) _ _ _ c.self.invariant
    (λ n apart told. c.forget.ensures n (λ is. apart (sym c.birth.ensures ∙ is)) told)
