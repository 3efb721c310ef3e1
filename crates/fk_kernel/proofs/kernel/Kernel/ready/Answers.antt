use Rattle.std.proofs.Common.{sym}
use Rattle.fk_kernel.proofs.Promises.{prompt-ready}
use Rattle.fk_kernel.proofs.kernel.Kernel.ready.Goals as goal

pub returns-clause-prompt : goal.returns-clause-prompt
returns-clause-prompt c prompt =
    c.ready.ensures.1 (prompt-ready c.self.inside.store c.args.m.now c.args.ask.now c.names.ensures.born (rw (sym c.self.view_is) at prompt))
