use Rattle.std.proofs.Common.{[], refl}
use Rattle.fk_calls.proofs.InCalls.Judged.{moving_judged}
use Rattle.fk_calls.proofs.calls.judging.stage_moving.Goals as goal

pub moving-requires-clause-calling : goal.moving-requires-clause-calling
moving-requires-clause-calling c = rw (c.requires.at.todo, c.in-ClientSend.is) refl

pub returns-in-ClientSend : goal.returns-in-ClientSend
returns-in-ClientSend c = moving_judged c.args.store.now c.args.m.now _ c.moving.result c.requires.free
    (rw c.in-ClientSend.is at c.requires.at) refl (c.moving.ensures.outcome []) c.moving.ensures.fits

pub moving-requires-in-ServerSend-clause-calling : goal.moving-requires-in-ServerSend-clause-calling
moving-requires-in-ServerSend-clause-calling c = rw (c.requires.at.todo, c.in-ServerSend.is) refl

pub returns-in-ServerSend : goal.returns-in-ServerSend
returns-in-ServerSend c = moving_judged c.args.store.now c.args.m.now _ c.moving-in-ServerSend.result c.requires.free
    (rw c.in-ServerSend.is at c.requires.at) refl (c.moving-in-ServerSend.ensures.outcome []) c.moving-in-ServerSend.ensures.fits
