use Rattle.std.proofs.Common.{refl, sym, ◌∙◌}
use Rattle.fk_turns.proofs.InSteps.Beside.{any_apart, both_true, dead_apart, made_apart, shifted_apart, stays_named, then_true}
use Rattle.fk_turns.proofs.InSteps.Went.{anyway}
use Rattle.fk_turns.proofs.steps.plain.are_apart.Goals as goal

pub returns-in-Few-clause-apart : goal.returns-in-Few-clause-apart
returns-in-Few-clause-apart c = rw c.in-Few.is c.are_few_apart.ensures

pub returns-in-Few-clause-named : goal.returns-in-Few-clause-named
returns-in-Few-clause-named c =
    rw c.in-Few.is
    (anyway c.are_few_apart.result refl)

pub returns-in-Makes-clause-apart : goal.returns-in-Makes-clause-apart
returns-in-Makes-clause-apart c =
    rw c.in-Makes.is
    (then_true c.is_apart_at.result (made_apart c.args.store.now c.args.mover c.args.turns.now.waits c.in-Makes.object) c.is_apart_at.ensures)

pub returns-in-Makes-clause-named : goal.returns-in-Makes-clause-named
returns-in-Makes-clause-named c =
    rw c.in-Makes.is
    (anyway c.is_apart_at.result refl)

pub returns-in-Any-clause-apart : goal.returns-in-Any-clause-apart
returns-in-Any-clause-apart c =
    rw c.in-Any.is
    (any_apart c.args.store.now c.args.mover c.args.turns.now.waits)

pub returns-in-Any-clause-named : goal.returns-in-Any-clause-named
returns-in-Any-clause-named c = rw c.in-Any.is refl

pub returns-in-Dies-clause-apart : goal.returns-in-Dies-clause-apart
returns-in-Dies-clause-apart c =
    rw c.in-Dies.is
    (then_true c.is_apart_at-in-Dies.result (dead_apart c.args.store.now c.args.mover c.args.turns.now.waits c.in-Dies.object) c.is_apart_at-in-Dies.ensures)

pub returns-in-Dies-clause-named : goal.returns-in-Dies-clause-named
returns-in-Dies-clause-named c =
    rw c.in-Dies.is
    (anyway c.is_apart_at-in-Dies.result refl)

pub returns-else-is_same-clause-apart : goal.returns-else-is_same-clause-apart
returns-else-is_same-clause-apart c =
    rw c.in-Moves.is
    (both_true c.is_shifted_apart.result
    (shifted_apart c.args.store.now c.args.mover c.args.turns.now.waits c.in-Moves.object c.in-Moves.slot)
    c.is_shifted_apart.ensures.from c.is_shifted_apart.ensures.to)

pub returns-else-is_same-clause-named : goal.returns-else-is_same-clause-named
returns-else-is_same-clause-named c =
    rw c.in-Moves.is
    (anyway c.is_shifted_apart.result (stays_named c.args.mover c.in-Moves.object c.in-Moves.slot (sym c.is_same.ensures ∙ c.if-is_same.false)))
