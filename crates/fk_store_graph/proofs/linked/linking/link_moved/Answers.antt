use Rattle.std.proofs.Common.{Some, ap, ◌∙◌, sym}
use Rattle.fk_model.specs.Objects.{and_then}
use Rattle.fk_store_graph.specs.Linked.Bodied.{head_by}
use Rattle.fk_store_graph.proofs.InLinked.LinkedLaws.{kept_put}
use Rattle.fk_store_graph.proofs.linked.linking.link_moved.Goals as goal

pub returns-then-not-is_same-clause-rings : goal.returns-then-not-is_same-clause-rings
returns-then-not-is_same-clause-rings c = λ owner was are. c.link_field.ensures.rings owner are

pub returns-else-not-is_same-clause-rings : goal.returns-else-not-is_same-clause-rings
returns-else-not-is_same-clause-rings c = λ owner was are. kept_put _ owner c.args.key c.args.field _
    (was ∙ ap (and_then (head_by c.args.objects.now)) (sym c.target_of.ensures ∙ c.is_same.ensures c.if-not-is_same.false ∙ c.target_of-2.ensures)) are
