use Rattle.std.proofs.Common.{sym, ◌∙◌, arith}
use Rattle.fk_store_graph.proofs.InLeads.PointerLaws.{single_past}
use Rattle.fk_store_graph.proofs.leads.targets.ends.Goals as goal

pub returns-then-is_single-clause-past : goal.returns-then-is_single-clause-past
returns-then-is_single-clause-past c = λ i past few. single_past c.args.body.now (sym c.is_single.ensures ∙ c.if-is_single.true) i past
