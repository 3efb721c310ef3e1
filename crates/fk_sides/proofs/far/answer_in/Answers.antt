use Rattle.std.proofs.Common.{take}
use Rattle.fk_sides.proofs.far.answer_in.Goals as goal

pub returns-in-Clears-clause-heard : goal.returns-in-Clears-clause-heard
returns-in-Clears-clause-heard c =
    let answer = c.args.answer.now in
    rw c.in-Clears.is (c.cleared.ensures c.args.restore.now c.args.restore.now.slot answer.status (take answer.len answer.words))
