use Rattle.std.proofs.Common.{◌≡◌, length, arith, sym, ◌∙◌}
use Rattle.fk_changes.proofs.InThreads.ShiftLaws.{receives_some, receives_none}
use Rattle.fk_changes.proofs.threads.shifts.receive_of.Goals as goal

pub returns-then-is_receive : goal.returns-then-is_receive
returns-then-is_receive c p = let long : length c.args.thread.now.regs ≡ 16 = omega arith in
    receives_some c.args.side p c.args.thread.now long c.in-Calling.is (sym c.is_receive.ensures ∙ c.if-is_receive.true)

pub returns-else-is_receive : goal.returns-else-is_receive
returns-else-is_receive c p = let long : length c.args.thread.now.regs ≡ 16 = omega arith in
    receives_none c.args.side p c.args.thread.now long c.in-Calling.is (sym c.is_receive.ensures ∙ c.if-is_receive.false)
