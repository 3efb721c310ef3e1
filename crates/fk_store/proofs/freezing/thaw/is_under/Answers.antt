use Rattle.std.proofs.Common.{inl, inr, sym, ◌∙◌}
use Rattle.fk_store.proofs.InFreezing.FreezeLaws.{not_under}
use Rattle.fk_store.proofs.freezing.thaw.is_under.Goals as goal

pub returns-then-at-clause-yes : goal.returns-then-at-clause-yes
returns-then-at-clause-yes c = λ yes. inr (sym c.at.ensures ∙ c.if-at.true)

pub returns-clause-yes : goal.returns-clause-yes
returns-clause-yes c = λ yes. inl (sym c.is_held.ensures ∙ yes)

pub returns-clause-no : goal.returns-clause-no
returns-clause-no c = λ no. not_under c.args.bodies.now _ c.args.who (sym c.is_held.ensures ∙ no) (sym c.at.ensures ∙ c.if-at.false)
