use Rattle.std.proofs.Common.{sym, ◌∙◌}
use Rattle.fk_turns.proofs.InSteps.Beside.{one_named, one_none, one_own, then_true}
use Rattle.fk_turns.proofs.steps.plain.is_one_apart.Goals as goal

pub returns-then-is_same : goal.returns-then-is_same
returns-then-is_same c =
    rw c.in-Some.is (one_own c.args.store.now c.args.mover c.args.turns.now.waits c.in-Some.who (sym c.is_same.ensures ∙ c.if-is_same.true))

pub returns-else-is_same : goal.returns-else-is_same
returns-else-is_same c =
    rw c.in-Some.is (then_true c.is_apart_at.result (one_named c.args.store.now c.args.mover c.args.turns.now.waits c.in-Some.who) c.is_apart_at.ensures)

pub returns-in-None : goal.returns-in-None
returns-in-None c = rw c.in-None.is (one_none c.args.store.now c.args.mover c.args.turns.now.waits)
