use Rattle.std.proofs.lemmas.Bool.{OnTrue_at}
use Rattle.fk_waits.proofs.InWaits.Last.{last_stays}
use Rattle.fk_waits.proofs.waits.waits.Waits.settle.Goals as goal

pub returns-then-is_settled : goal.returns-then-is_settled
returns-then-is_settled c =
    last_stays c.args.thread c.args.cause c.args.self.now c.once.ensures (OnTrue_at c.if-is_settled.true c.is_settled.ensures)
