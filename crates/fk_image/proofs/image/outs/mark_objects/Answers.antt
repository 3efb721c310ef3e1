use Rattle.fk_image.specs.Image.Outs.{object_links}
use Rattle.fk_image.proofs.InImage.Marking.{marks_more}
use Rattle.fk_image.proofs.image.outs.mark_objects.Goals as goal

pub loop-object-preserved : goal.loop-object-preserved
loop-object-preserved c =
    marks_more object_links c.args.objects.now c.loop-object.object-index c.object-item.result
    c.args.used.now c.loop-object.used c.mark_body.new.used c.loop-object-test.true c.object-item.is c.loop-object.invariant c.mark_body.ensures
