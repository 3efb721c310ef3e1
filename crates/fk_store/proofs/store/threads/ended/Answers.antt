use Rattle.std.proofs.Common.{◌≡◌, length, arith}
use Rattle.fk_store.proofs.InStore.changing.ThreadLaws.{ended-calling, ended-other}
use Rattle.fk_store.proofs.store.threads.ended.Goals as goal

pub returns-in-Calling-clause-edit : goal.returns-in-Calling-clause-edit
returns-in-Calling-clause-edit c p =
    let long : length c.args.thread.regs ≡ 16 = omega arith in
    rw c.from.ensures (ended-calling p c.args.thread c.args.status long c.in-Calling.is)

pub returns-in_default-clause-edit : goal.returns-in_default-clause-edit
returns-in_default-clause-edit c p = ended-other p c.args.thread c.args.status c.in_default.not-Calling
