use Rattle.std.proofs.Common.{ap, is_some}
use Rattle.fk_store_graph.proofs.InLinked.MarkLaws.{still_same, this_marked, none_marked}
use Rattle.fk_store_graph.proofs.linked.marks.mark_again.Goals as goal

pub mark_all-requires : goal.mark_all-requires
mark_all-requires c = ap is_some c.in-Some.ensures.found

pub returns-in-Some-clause-marked : goal.returns-in-Some-clause-marked
returns-in-Some-clause-marked c = this_marked _ _ c.args.key c.in-Some.entry.now c.in-Some.ensures.entry c.mark_all.ensures.marked

pub returns-in_default-clause-still : goal.returns-in_default-clause-still
returns-in_default-clause-still c = still_same c.args.objects.now

pub returns-in_default-clause-marked : goal.returns-in_default-clause-marked
returns-in_default-clause-marked c = none_marked _ _ c.args.key c.in_default.ensures.entry
