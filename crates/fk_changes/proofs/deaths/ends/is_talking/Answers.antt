use Rattle.std.proofs.Common.{◌≡◌, length, sym, ◌∙◌, arith}
use Rattle.fk_changes.proofs.InDeaths.Talking.{talking_thread}
use Rattle.fk_changes.proofs.deaths.ends.is_talking.Goals as goal

pub returns-in-Calling : goal.returns-in-Calling
returns-in-Calling c p = let long : length c.args.thread.now.regs ≡ 16 = omega arith in
    c.begins_talking.ensures ∙ sym (talking_thread p c.args.thread.now c.args.side long c.in-Calling.is)
