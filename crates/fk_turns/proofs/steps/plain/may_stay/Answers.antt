use Rattle.std.proofs.Common.{sym, ◌∙◌}
use Rattle.fk_turns.proofs.InSteps.Went.{alone_if, anyway}
use Rattle.fk_turns.proofs.steps.plain.may_stay.Goals as goal

pub returns-clause-ran : goal.returns-clause-ran
returns-clause-ran c = anyway c.marks_nobody.result c.if-not-ran.false

pub returns-clause-alone : goal.returns-clause-alone
returns-clause-alone c =
    anyway c.marks_nobody.result (alone_if c.args.touched.now (sym c.touches_nobody.ensures ∙ c.if-not-touches_nobody.false))

pub returns-clause-on : goal.returns-clause-on
returns-clause-on c = let on = rw c.if-not-goes_on.false at c.goes_on.ensures.on in anyway c.marks_nobody.result (on c.if-not-ran.false)

pub returns-clause-user : goal.returns-clause-user
returns-clause-user c = let user = rw c.if-not-goes_on.false at c.goes_on.ensures.user in anyway c.marks_nobody.result user
