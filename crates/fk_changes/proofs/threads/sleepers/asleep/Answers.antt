use Rattle.std.proofs.Common.{◌≡◌, length, arith}
use Rattle.fk_changes.proofs.InThreads.CallCodes.{fallen-code, with_code}
use Rattle.fk_changes.proofs.InThreads.Falling.{fall_edit}
use Rattle.fk_changes.proofs.threads.sleepers.asleep.Goals as goal

pub returns-in-Calling-clause-edit : goal.returns-in-Calling-clause-edit
returns-in-Calling-clause-edit c p cond mutex first = let long : length c.args.thread.regs ≡ 16 = omega arith in
    rw c.fallen-thread.ensures (fall_edit p c.args.thread cond mutex long c.in-Calling.is first)

pub returns-in-Calling-clause-call : goal.returns-in-Calling-clause-call
returns-in-Calling-clause-call c call = let long : length c.args.thread.regs ≡ 16 = omega arith in
    rw c.fallen-thread.ensures (with_code _ _ (fallen-code c.args.thread.regs long (rw c.in-Calling.is at call)))
