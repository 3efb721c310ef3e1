use Rattle.std.proofs.Common.{length, ap, ◌∙◌}
use Rattle.laws_checkpoint.specs.Assembly.{pointers_by}
use Rattle.fk_checkpoint.proofs.InAssembly.Loops.{asked_step, asked_end}
use Rattle.fk_checkpoint.proofs.assembly.image.behind_objects.Goals as goal

pub loop-item-preserved : goal.loop-item-preserved
loop-item-preserved c =
    asked_step c.args.items.now c.loop-item.item-index c.asked_of.result _ c.loop-item.left.now c.behind-left.result.now _ c.loop-item-test.true
    (c.asked_of.ensures ∙ ap (λ k. length (pointers_by k)) c.kind_of.ensures) c.behind-left.ensures c.loop-item.invariant

pub returns : goal.returns
returns c = asked_end c.args.items.now c.loop-item.item-index c.loop-item.left.now _ c.loop-item-test.false c.loop-item.invariant
