use Rattle.std.proofs.Common.{sym, ap, ◌∙◌}
use Rattle.fk_model.specs.Objects.{and_then}
use Rattle.fk_store_graph.specs.Linked.Births.{stored_birth}
use Rattle.fk_store_graph.proofs.InLinked.BodyLaws.{no-body, body-of}
use Rattle.fk_store_graph.proofs.bodies.bodies.birth_under.Goals as goal

pub returns-in_err-entry : goal.returns-in_err-entry
returns-in_err-entry c = c.from_residual.ensures ∙ sym (ap (and_then stored_birth) (no-body _ c.args.key (sym c.in_err-entry.ensures.entry)))

pub returns : goal.returns
returns c = c.birth_of.ensures ∙ sym (ap (and_then stored_birth) (body-of _ c.args.key c.in_ok-entry.entry.now (sym c.in_ok-entry.ensures.entry)))
