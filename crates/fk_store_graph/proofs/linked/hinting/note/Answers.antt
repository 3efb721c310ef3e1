use Rattle.std.proofs.Common.{sym}
use Rattle.fk_store_graph.proofs.InLinked.TellLaws.{nowhere_told, retold_none, still_none}
use Rattle.fk_store_graph.proofs.linked.hinting.note.Goals as goal

pub returns-in_default-clause-told : goal.returns-in_default-clause-told
returns-in_default-clause-told c = nowhere_told _ c.args.lead c.args.key c.in_default.ensures.key

pub returns-in_default-clause-kept : goal.returns-in_default-clause-kept
returns-in_default-clause-kept c = still_none _

pub returns-in_default-clause-same : goal.returns-in_default-clause-same
returns-in_default-clause-same c = retold_none _
