use Rattle.std.proofs.Common.{sym, ◌∙◌}
use Rattle.fk_turns.proofs.InSteps.Went.{anyway, on_going}
use Rattle.fk_turns.specs.Moved.Kept.{is_user_at}
use Rattle.fk_turns.proofs.steps.resting.rests.Goals as goal

pub returns-clause-stays : goal.returns-clause-stays
returns-clause-stays c = anyway c.is_user.result c.if-not-stays.false

pub returns-clause-alone : goal.returns-clause-alone
returns-clause-alone c = anyway c.is_user.result (sym c.touches_only.ensures ∙ c.if-not-touches_only.false)

pub returns-clause-calm : goal.returns-clause-calm
returns-clause-calm c = let calm = rw c.if-not-is_calm.false at c.is_calm.ensures in anyway c.is_user.result calm

pub returns-clause-none : goal.returns-clause-none
returns-clause-none c = let none = rw c.if-not-marks_nobody.false at c.marks_nobody.ensures.none in anyway c.is_user.result none

pub returns-clause-user : goal.returns-clause-user
returns-clause-user c = on_going c.is_user.result (is_user_at c.args.store.now c.args.mover) c.is_user.ensures (λ is. is)
