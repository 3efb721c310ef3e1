use Rattle.std.proofs.Common.{[], refl}
use Rattle.fk_calls.proofs.InCalls.Talking.{may_send}
use Rattle.fk_calls.proofs.calls.going.talks.may_send.Goals as goal

pub moving-requires-clause-calling : goal.moving-requires-clause-calling
moving-requires-clause-calling c = rw c.requires.at.todo refl

pub returns : goal.returns
returns c =
    rw c.is_some.ensures (may_send c.args.store.now c.args.who c.requires.unheld c.requires.free c.args.side c.args.address c.args.count c.requires.at c.moving.result
    (c.moving.ensures.outcome []) c.moving.ensures.fits)
