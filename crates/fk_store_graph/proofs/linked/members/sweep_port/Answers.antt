use Rattle.std.proofs.Common.{sym, ◌∙◌}
use Rattle.fk_store_graph.proofs.InLinked.MemberLaws.{no_port, no_member, one_member}
use Rattle.fk_store_graph.proofs.linked.members.sweep_port.Goals as goal

pub returns-in_default : goal.returns-in_default
returns-in_default c = no_port c.args.sweep _ c.filed.ensures c.args.slot c.in_default.ensures.key

pub returns-else-is_member : goal.returns-else-is_member
returns-else-is_member c = no_member c.args.sweep _ c.filed.ensures c.args.slot c.in-Some.key c.in-Some.ensures.key
    (sym c.is_member.ensures ∙ c.if-is_member.false)

pub returns-then-is_member : goal.returns-then-is_member
returns-then-is_member c = one_member c.args.sweep _ c.filed.ensures c.args.slot c.in-Some.key c.in-Some.ensures.key _
    (sym c.is_member.ensures ∙ c.if-is_member.true) c.sweep_one.ensures
