use Rattle.std.proofs.Common.{sym}
use Rattle.fk_store_graph.proofs.linked.hinting.one_more.Goals as goal

-- it is the same one, or the other leads there no more
pub returns-then-other-key-clause-kept : goal.returns-then-other-key-clause-kept
returns-then-other-key-clause-kept c = λ b i there leads. sym c.if-other-key.true

pub returns-else-leads-clause-kept : goal.returns-else-leads-clause-kept
returns-else-leads-clause-kept c = λ b i there leads. absurd (c.leads.ensures c.if-leads.false b i there leads)
