use Rattle.std.proofs.Common.{[]}
use Rattle.fk_calls.proofs.InCalls.Talking.{has_passed}
use Rattle.fk_calls.proofs.calls.going.talks.over.Goals as goal

pub returns : goal.returns
returns c =
    has_passed c.args.store.now c.args.who c.requires.unheld c.requires.free c.in-Some.handed c.hands.new.store c.args.side
    c.requires.valid c.names.ensures.few c.requires.at (c.in-Some.ensures.outcome []) c.in-Some.ensures.fits c.in-Some.ensures.turn c.in-Some.ensures.meets
    c.in-Some.ensures.receiver c.hands.ensures
