use Rattle.std.proofs.Common.{Some, sym, ap, ◌∙◌}
use Rattle.fk_model.specs.Objects.{and_then}
use Rattle.fk_store_graph.specs.Linked.Filed.{name_under}
use Rattle.fk_store_graph.proofs.InLinked.BodyLaws.{name-of, no-name}
use Rattle.fk_store_graph.proofs.bodies.bodies.home_under.Goals as goal

pub returns-in_err-key : goal.returns-in_err-key
returns-in_err-key c = c.from_residual.ensures ∙ ap (and_then (name_under c.args.objects.now)) c.in_err-key.ensures

pub returns-in_err-entry : goal.returns-in_err-entry
returns-in_err-entry c = c.from_residual-in_err-entry.ensures ∙ sym (no-name _ c.in_ok-key.key (sym c.in_err-entry.ensures.entry))
    ∙ ap (and_then (name_under c.args.objects.now)) c.in_ok-key.ensures

pub returns : goal.returns
returns c = sym (name-of _ c.in_ok-key.key c.in_ok-entry.entry.now (sym c.in_ok-entry.ensures.entry))
    ∙ ap (and_then (name_under c.args.objects.now)) c.in_ok-key.ensures
