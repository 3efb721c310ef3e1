use Rattle.std.proofs.Common.{◌≡◌, length, arith}
use Rattle.fk_changes.proofs.InThreads.CallCodes.{awake-code, with_code}
use Rattle.fk_changes.proofs.InThreads.SleeperLaws.{wake_edit}
use Rattle.fk_changes.proofs.threads.sleepers.awake.Goals as goal

pub returns-clause-edit : goal.returns-clause-edit
returns-clause-edit c p cond at = let long : length c.args.thread.regs ≡ 16 = omega arith in wake_edit p c.args.thread cond c.args.mutex long at

pub returns-clause-call : goal.returns-clause-call
returns-clause-call c = let long : length c.args.thread.regs ≡ 16 = omega arith in with_code _ _ (awake-code c.args.thread.regs c.args.mutex long)
