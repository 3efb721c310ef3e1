use Rattle.std.proofs.Common.{sym, ap, ◌∙◌}
use Rattle.fk_model.specs.Objects.{holds}
use Rattle.fk_store_graph.specs.Linked.Held.{is_held}
use Rattle.fk_store_graph.proofs.InLinked.BodyLaws.{no-body, body-of}
use Rattle.fk_store_graph.proofs.bodies.bodies.is_held_under.Goals as goal

pub returns-in-None : goal.returns-in-None
returns-in-None c = sym (ap (holds is_held) (no-body _ c.args.key (sym c.in-None.ensures.entry)))

pub returns-in-Some : goal.returns-in-Some
returns-in-Some c = c.is_held.ensures ∙ sym (ap (holds is_held) (body-of _ c.args.key c.in-Some.entry.now (sym c.in-Some.ensures.entry)))
