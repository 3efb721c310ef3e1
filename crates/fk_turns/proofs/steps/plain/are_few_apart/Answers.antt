use Rattle.fk_turns.proofs.InSteps.Beside.{few_apart, then_true}
use Rattle.fk_turns.proofs.steps.plain.are_few_apart.Goals as goal

pub returns : goal.returns
returns c =
    let first = rw c.if-not-is_one_apart.false at c.is_one_apart.ensures in
    let second = rw c.if-not-is_one_apart-2.false at c.is_one_apart-2.ensures in
    then_true c.is_one_apart-3.result
    (few_apart c.args.store.now c.args.mover c.args.turns.now.waits c.args.first c.args.second c.args.third first second) c.is_one_apart-3.ensures
