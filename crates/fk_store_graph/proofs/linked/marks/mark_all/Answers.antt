use Rattle.std.proofs.Common.{sym, ◌∙◌}
use Rattle.fk_store_graph.proofs.InLinked.MarkLaws.{still_same, still_more, is_set, page_marked, member_marked, unasked, pages_alone}
use Rattle.fk_store_graph.proofs.linked.marks.mark_all.Goals as goal

pub returns-then-is_of_pages-clause-still : goal.returns-then-is_of_pages-clause-still
returns-then-is_of_pages-clause-still c = still_more c.args.objects.now c.mark.new.self c.args.who.space _ c.mark.ensures.marks

pub returns-then-is_of_pages-clause-marked : goal.returns-then-is_of_pages-clause-marked
returns-then-is_of_pages-clause-marked c = page_marked _ c.args.who c.args.body.now
    (pages_alone c.args.body.now (sym c.is_of_pages.ensures ∙ c.if-is_of_pages.true))
    (is_set c.args.objects.now c.mark.new.self c.args.who.space _ c.mark.ensures.marks)

pub returns-then-is_port_in_set-clause-still : goal.returns-then-is_port_in_set-clause-still
returns-then-is_port_in_set-clause-still c = still_more c.args.objects.now c.mark-then-is_port_in_set.new.self c.args.who.space _
    c.mark-then-is_port_in_set.ensures.marks

pub returns-then-is_port_in_set-clause-marked : goal.returns-then-is_port_in_set-clause-marked
returns-then-is_port_in_set-clause-marked c = member_marked _ c.args.who c.args.body.now (sym c.is_of_pages.ensures ∙ c.if-is_of_pages.false)
    (is_set c.args.objects.now c.mark-then-is_port_in_set.new.self c.args.who.space _ c.mark-then-is_port_in_set.ensures.marks)

pub returns-else-is_port_in_set-clause-still : goal.returns-else-is_port_in_set-clause-still
returns-else-is_port_in_set-clause-still c = still_same c.args.objects.now

pub returns-else-is_port_in_set-clause-marked : goal.returns-else-is_port_in_set-clause-marked
returns-else-is_port_in_set-clause-marked c = unasked _ c.args.who c.args.body.now (sym c.is_of_pages.ensures ∙ c.if-is_of_pages.false)
    (sym c.is_port_in_set.ensures ∙ c.if-is_port_in_set.false)
