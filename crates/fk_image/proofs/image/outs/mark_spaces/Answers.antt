use Rattle.std.proofs.Common.{subst, ◌∷◌, [], List}
use Rattle.std.specs.List.{flat_map}
use Rattle.fk_image.specs.declared.image.image.ObjectRec.{ObjectRec}
use Rattle.fk_image.specs.Image.Outs.{Marks, object_links, space_links}
use Rattle.fk_image.proofs.InImage.Marking.{marks_then, marks_more}
use Rattle.fk_image.proofs.image.outs.mark_spaces.Goals as goal

pub loop-space-preserved : goal.loop-space-preserved
loop-space-preserved c =
    let s = c.space-item.result in
    let objects = subst (λ (os : List ObjectRec). Marks c.mark.new.used c.mark_objects.new.used (flat_map object_links os))
    c.as_slice.ensures c.mark_objects.ensures in
    let both = marks_then c.loop-space.used c.mark.new.used c.mark_objects.new.used (s.holder ∷ []) (flat_map object_links s.objects) c.mark.ensures objects in
    marks_more space_links c.args.spaces.now
    c.loop-space.space-index s c.args.used.now c.loop-space.used c.mark_objects.new.used c.loop-space-test.true c.space-item.is c.loop-space.invariant both
