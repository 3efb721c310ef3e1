use Rattle.std.proofs.Common.{sym, ap, ◌∙◌}
use Rattle.fk_model.specs.Objects.{holds}
use Rattle.fk_store_graph.specs.Leads.Marks.{is_member}
use Rattle.fk_store_graph.proofs.InLinked.BodyLaws.{no-body, body-of}
use Rattle.fk_store_graph.proofs.linked.members.is_member.Goals as goal

pub returns-in-None : goal.returns-in-None
returns-in-None c = sym (ap (holds is_member) (no-body _ c.args.key (sym c.in-None.ensures.entry)))

pub returns-in-Some : goal.returns-in-Some
returns-in-Some c = c.is_port_in_set.ensures ∙ sym (ap (holds is_member) (body-of _ c.args.key c.in-Some.entry.now (sym c.in-Some.ensures.entry)))
