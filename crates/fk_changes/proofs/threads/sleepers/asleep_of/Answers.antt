use Rattle.std.proofs.Common.{◌≡◌, length, sym, ◌∙◌, arith}
use Rattle.fk_changes.proofs.InThreads.SleeperLaws.{asleep_thread, alone_if}
use Rattle.fk_changes.proofs.threads.sleepers.asleep_of.Goals as goal

pub returns-in-Calling-clause-mutex : goal.returns-in-Calling-clause-mutex
returns-in-Calling-clause-mutex c p = let long : length c.args.thread.now.regs ≡ 16 = omega arith in
    c.asleep_in.ensures ∙ sym (asleep_thread p c.args.thread.now c.args.cond long c.in-Calling.is)

pub returns-in-Calling-clause-alone : goal.returns-in-Calling-clause-alone
returns-in-Calling-clause-alone c = let long : length c.args.thread.now.regs ≡ 16 = omega arith in
    alone_if c.args.thread.now c.args.cond _ long c.in-Calling.is c.asleep_in.ensures
