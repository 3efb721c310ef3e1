use Rattle.std.proofs.Common.{[]}
use Rattle.fk_calls.proofs.InCalls.Talking.{may_pass}
use Rattle.fk_calls.proofs.calls.going.talks.may_pass.Goals as goal

pub returns : goal.returns
returns c =
    rw c.is_some.ensures (may_pass c.args.store.now c.args.who c.requires.unheld c.requires.free c.args.side c.requires.at c.handing.result
    (c.handing.ensures.outcome []) c.handing.ensures.fits)
