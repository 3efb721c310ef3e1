use Rattle.std.proofs.Common.{not, refl, sym, ap, inl, inr, ◌∙◌, arith}
use Rattle.fk_store.proofs.InHolds.HeldLaws.{read_in, told_pushed, told_anyway}
use Rattle.fk_store.proofs.holds.held.Held.note.Goals as goal

pub returns-in-Some-clause-here : goal.returns-in-Some-clause-here
returns-in-Some-clause-here c = inr (read_in _ c.in-Some._at c.args.space c.in-Some.ensures.some.0 c.in-Some.ensures.some.1)

pub returns-else-is_err-clause-here : goal.returns-else-is_err-clause-here
returns-else-is_err-clause-here c = rw c.push.ensures.items (told_pushed _ _ _ c.args.space (c.is_err.ensures.negation ∙ ap not c.if-is_err.false))

pub returns-else-is_err-clause-others : goal.returns-else-is_err-clause-others
returns-else-is_err-clause-others c = rw (← c.self.view_is, c.push.ensures.items) (told_anyway _ _ _ c.args.space)
