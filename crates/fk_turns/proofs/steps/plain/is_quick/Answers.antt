use Rattle.fk_turns.proofs.InSteps.Went.{anyway, off_anyway, turned_if}
use Rattle.fk_turns.proofs.steps.plain.is_quick.Goals as goal

pub returns-clause-turned : goal.returns-clause-turned
returns-clause-turned c =
    let was = c.args.turns.now in
    let now = c.turn.new.self in
    turned_if c.turn.result c.args.mover was.waits was.marks now.waits now.marks c.turn.ensures.turned c.turn.ensures.stood c.turn.ensures.none
    c.turn.ensures.marks

pub returns-clause-alone : goal.returns-clause-alone
returns-clause-alone c = let alone = rw c.if-not-is_gentle.false at c.is_gentle.ensures.alone in anyway c.turn.result alone

pub returns-clause-gentle : goal.returns-clause-gentle
returns-clause-gentle c = let gentle = rw c.if-not-is_gentle.false at c.is_gentle.ensures.gentle in anyway c.turn.result gentle

pub returns-clause-up : goal.returns-clause-up
returns-clause-up c = let up = rw c.if-not-goes_on.false at c.goes_on.ensures.up in anyway c.turn.result up

pub returns-clause-user : goal.returns-clause-user
returns-clause-user c = let user = rw c.if-not-goes_on.false at c.goes_on.ensures.user in anyway c.turn.result user

pub returns-clause-marks : goal.returns-clause-marks
returns-clause-marks c = off_anyway c.turn.result c.turn.ensures.marks

pub returns-clause-on : goal.returns-clause-on
returns-clause-on c = let on = rw c.if-not-goes_on.false at c.goes_on.ensures.on in anyway c.turn.result on
