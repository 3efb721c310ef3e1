use Rattle.fk_turns.proofs.InSteps.Beside.{both_true, then_true}
use Rattle.fk_turns.proofs.InSteps.Unknown.{any_unknown, dead_unknown, few_if, made_unknown, shifted_unknown}
use Rattle.fk_turns.proofs.steps.plain.are_unknown.Goals as goal

pub returns-in-Few : goal.returns-in-Few
returns-in-Few c =
    rw c.in-Few.is
    (few_if c.args.store.now c.args.turns.now.waits c.in-Few.first c.in-Few.second c.in-Few.third c.are_few_unknown.result c.are_few_unknown.ensures.first
    c.are_few_unknown.ensures.second c.are_few_unknown.ensures.third)

pub returns-in-Makes : goal.returns-in-Makes
returns-in-Makes c =
    rw c.in-Makes.is (then_true c.is_apart_at.result (made_unknown c.args.store.now c.args.turns.now.waits c.in-Makes.object) c.is_apart_at.ensures)

pub returns-in-Any : goal.returns-in-Any
returns-in-Any c = rw c.in-Any.is (any_unknown c.args.store.now c.args.turns.now.waits)

pub returns-in-Dies : goal.returns-in-Dies
returns-in-Dies c =
    rw c.in-Dies.is (then_true c.is_unknown.result (dead_unknown c.args.store.now c.args.turns.now.waits c.in-Dies.object) c.is_unknown.ensures)

pub returns-in-Moves : goal.returns-in-Moves
returns-in-Moves c =
    rw c.in-Moves.is
    (both_true c.is_shifted_apart.result (shifted_unknown c.args.store.now c.args.turns.now.waits c.in-Moves.object c.in-Moves.slot)
    c.is_shifted_apart.ensures.from c.is_shifted_apart.ensures.to)
