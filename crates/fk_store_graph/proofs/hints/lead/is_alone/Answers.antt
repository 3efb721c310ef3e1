use Rattle.std.proofs.Common.{sym, ◌∙◌}
use Rattle.fk_store_graph.proofs.InHints.FieldLaws.{idle}
use Rattle.fk_store_graph.proofs.hints.lead.is_alone.Goals as goal

pub returns-in-None : goal.returns-in-None
returns-in-None c = λ h. idle _ _ (sym c.is_some.ensures ∙ c.if-is_some.false) (sym c.in-None.is)
