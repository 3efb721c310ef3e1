use Rattle.std.proofs.Common.{◌≡◌, length, arith, sym, ◌∙◌}
use Rattle.fk_changes.proofs.InThreads.ShiftLaws.{awaits_thread}
use Rattle.fk_changes.proofs.threads.shifts.awaited_by.Goals as goal

pub returns-in-Calling : goal.returns-in-Calling
returns-in-Calling c p = let long : length c.args.thread.now.regs ≡ 16 = omega arith in
    c.awaited_in.ensures ∙ sym (awaits_thread p c.args.thread.now long c.in-Calling.is)
