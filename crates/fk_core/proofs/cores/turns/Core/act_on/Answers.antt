use Rattle.std.proofs.lemmas.Bool.{OnTrue_at, OnFalse_at}
use Rattle.fk_core.proofs.InCores.Lacking.{same_core}
use Rattle.fk_core.proofs.cores.turns.Core.act_on.Goals as goal

pub returns-then-act_at-clause-advanced : goal.returns-then-act_at-clause-advanced
returns-then-act_at-clause-advanced g c = OnTrue_at c.if-act_at.true c.act_at.ensures.made

pub returns-clause-advanced : goal.returns-clause-advanced
returns-clause-advanced g c =
    let self = c.args.self.now in
    let nay = c.if-act_at.false in
    same_core self.kernel _ self.services.list _ self.jobs _ self.events _ (OnFalse_at nay c.act_at.ensures.kernel) (OnFalse_at nay c.act_at.ensures.services)
    (OnFalse_at nay c.act_at.ensures.queue) (OnFalse_at nay c.act_at.ensures.events)
