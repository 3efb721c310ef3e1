use Rattle.fk_calls.proofs.InCalls.Pointing.{pointing_ready}
use Rattle.fk_calls.proofs.calls.straight.is_pointing_ready.Goals as goal

pub returns-then-holds_the_only : goal.returns-then-holds_the_only
returns-then-holds_the_only c words =
    rw c.may_pick.ensures (pointing_ready c.args.store.now c.args.who words c.args.chooses c.args.pick c.args.verdict.now c.args.set.object c.args.set.to
    c.args.set.answers c.requires.set (c.holds_the_only.ensures c.if-holds_the_only.true))
