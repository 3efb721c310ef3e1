use Rattle.std.proofs.Common.{length, ap, ◌∙◌}
use Rattle.laws_checkpoint.specs.Assembly.{pointers_by}
use Rattle.fk_checkpoint.specs.Assembly.Assembling.{spaces_of}
use Rattle.fk_checkpoint.proofs.InAssembly.Loops.{object_step, object_end}
use Rattle.fk_checkpoint.proofs.assembly.image.objects.Goals as goal

pub loop-item-preserved : goal.loop-item-preserved
loop-item-preserved c = (
  object_step (spaces_of c.args.contents.now) c.args.items.now c.loop-item.item-index c.loop-item.floor
      c.asked_of.result _ _ c.loop-item.left.now c.behind-left.result.now c.loop-item.objects _ _
      c.loop-item-test.true (c.asked_of.ensures ∙ ap
      (λ k. length (pointers_by k)) c.kind_of.ensures) c.behind-left.ensures c.in_ok-floor.ensures.kept c.in_ok-floor.ensures.floor c.loop-item.invariant.0,
  c.in_ok-floor.ensures.above,
)

pub returns : goal.returns
returns c = object_end (spaces_of c.args.contents.now) c.args.items.now c.loop-item.item-index c.loop-item.floor
    c.loop-item.left.now c.loop-item.objects _ c.loop-item-test.false c.loop-item.invariant.0
