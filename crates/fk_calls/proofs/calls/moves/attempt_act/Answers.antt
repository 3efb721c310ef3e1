use Rattle.fk_calls.proofs.InCalls.Touches.{acting}
use Rattle.fk_calls.proofs.calls.moves.attempt_act.Goals as goal

pub returns-in-Some-clause-touched : goal.returns-in-Some-clause-touched
returns-in-Some-clause-touched c =
    acting c.args.store.now c.args.m.now c.args.ask.now c.client_of-client.result c.requires.act c.client_of-client.ensures
