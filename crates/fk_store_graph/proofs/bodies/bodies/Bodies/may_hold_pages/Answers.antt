use Rattle.std.proofs.Common.{sym, ap, ◌∙◌}
use Rattle.fk_store_graph.specs.Linked.Tables.{mark_at}
use Rattle.fk_store_graph.specs.Linked.Marks.{is_of_pages, page_mark}
use Rattle.fk_store_graph.proofs.InLinked.MarkLaws.{none_unmarked}
use Rattle.fk_store_graph.proofs.bodies.bodies.Bodies.may_hold_pages.Goals as goal

pub returns : goal.returns
returns c off k b group = rw (← c.self.view_is)
    (none_unmarked c.self.inside.objects (λ x. is_of_pages x) page_mark c.self.invariant.pages c.args.space k b
    (ap (mark_at c.self.inside.objects.marks c.args.space) group ∙ sym c.is_marked.ensures ∙ off))
