use Rattle.fk_turns.proofs.InSteps.Went.{anyway, off_anyway, turned_if}
use Rattle.fk_turns.proofs.steps.plain.is_apart.Goals as goal

pub returns-clause-turned : goal.returns-clause-turned
returns-clause-turned c =
    let was = c.args.turns.now in
    let now = c.turn.new.self in
    turned_if c.turn.result c.args.mover was.waits was.marks now.waits now.marks c.turn.ensures.turned c.turn.ensures.stood c.turn.ensures.none
    c.turn.ensures.marks

pub returns-clause-none : goal.returns-clause-none
returns-clause-none c = let none = rw c.if-not-is_none_queued.false at c.is_none_queued.ensures in anyway c.turn.result none

pub returns-clause-apart : goal.returns-clause-apart
returns-clause-apart c = let apart = rw c.if-not-are_apart.false at c.are_apart.ensures.apart in anyway c.turn.result apart

pub returns-clause-named : goal.returns-clause-named
returns-clause-named c = let named = rw c.if-not-are_apart.false at c.are_apart.ensures.named in anyway c.turn.result named

pub returns-clause-up : goal.returns-clause-up
returns-clause-up c = let up = rw c.if-not-goes_on.false at c.goes_on.ensures.up in anyway c.turn.result up

pub returns-clause-user : goal.returns-clause-user
returns-clause-user c = let user = rw c.if-not-goes_on.false at c.goes_on.ensures.user in anyway c.turn.result user

pub returns-clause-marks : goal.returns-clause-marks
returns-clause-marks c = off_anyway c.turn.result c.turn.ensures.marks
