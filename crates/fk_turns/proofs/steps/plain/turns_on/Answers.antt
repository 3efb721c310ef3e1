use Rattle.fk_turns.proofs.InSteps.Went.{anyway, off_anyway, turned_if}
use Rattle.fk_turns.proofs.steps.plain.turns_on.Goals as goal

pub returns-clause-turned : goal.returns-clause-turned
returns-clause-turned c =
    let was = c.args.turns.now in
    let now = c.turn.new.self in
    turned_if c.turn.result c.args.mover was.waits was.marks now.waits now.marks c.turn.ensures.turned c.turn.ensures.stood c.turn.ensures.none
    c.turn.ensures.marks

pub returns-clause-up : goal.returns-clause-up
returns-clause-up c = let up = rw c.if-not-can_go_on.false at c.can_go_on.ensures in anyway c.turn.result up

pub returns-clause-marks : goal.returns-clause-marks
returns-clause-marks c = off_anyway c.turn.result c.turn.ensures.marks
