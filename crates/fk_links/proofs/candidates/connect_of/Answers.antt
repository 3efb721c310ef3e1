use Rattle.std.proofs.Common.{◌≡◌, length, arith, sym, ◌∙◌}
use Rattle.fk_links.proofs.Handles.{connects_some, connects_none}
use Rattle.fk_links.proofs.candidates.connect_of.Goals as goal

pub returns-then-is_connect : goal.returns-then-is_connect
returns-then-is_connect c = let long : length c.args.thread.now.regs ≡ 16 = omega arith in
    connects_some c.args.thread.now long c.in-Calling.is (sym c.is_connect.ensures ∙ c.if-is_connect.true)

pub returns-else-is_connect : goal.returns-else-is_connect
returns-else-is_connect c = let long : length c.args.thread.now.regs ≡ 16 = omega arith in
    connects_none c.args.thread.now long c.in-Calling.is (sym c.is_connect.ensures ∙ c.if-is_connect.false)
