use Rattle.fk_turns.proofs.InSteps.Beside.{then_true}
use Rattle.fk_turns.proofs.InSteps.Unknown.{one_unknown}
use Rattle.fk_turns.proofs.steps.plain.is_one_unknown.Goals as goal

pub returns-in-Some : goal.returns-in-Some
returns-in-Some c =
    rw c.in-Some.is (then_true c.is_unknown.result (one_unknown c.args.turns.now.waits c.in-Some.who) c.is_unknown.ensures)

pub returns-in-None : goal.returns-in-None
returns-in-None c = rw c.in-None.is (λ x is. absurd (cc))
