use Rattle.std.proofs.Common.{[]}
use Rattle.fk_calls.proofs.InCalls.Signalling.{has_woken}
use Rattle.fk_calls.proofs.calls.signalling.signal.Goals as goal

pub returns-clause-woken : goal.returns-clause-woken
returns-clause-woken c =
    has_woken c.args.store.now c.wakes.new.store c.args.who c.args.cond c.in-Some.mutex c.args.slot c.requires.valid c.names.ensures.few
    c.requires.unheld c.requires.signals c.wakes.ensures.paths (c.in-Ok.ensures []) c.in-Some.ensures.mutex c.in-Some.ensures.asleep
    c.wakes.ensures.world
