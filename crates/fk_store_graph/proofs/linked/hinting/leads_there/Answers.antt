use Rattle.std.proofs.Common.{◌≡◌, ◌≢◌, Option, Some, ◌∙◌}
use Rattle.fk_store_graph.specs.declared.hints.lead.Lead.{Lead}
use Rattle.fk_store_graph.proofs.InLeads.PointerLaws.{not_there}
use Rattle.fk_store_graph.proofs.linked.hinting.leads_there.Goals as goal

turned : (o p : Option Lead) (l : Lead) → o ≡ p → o ≢ Some l → p ≢ Some l
turned o p l is off h = off (is ∙ h)

pub returns : goal.returns
returns c = λ no. not_there c.args.body.now c.args.lead c.requires
    (turned c.led.result _ c.args.lead c.led.ensures (c.is_lead.ensures c.if-is_lead.false))
    (turned c.led-2.result _ c.args.lead c.led-2.ensures (c.is_lead-2.ensures no))
